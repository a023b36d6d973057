-- Which address a name has, and which name an address.
use Rattle.std.proofs.Common.{◌≡◌, ◌≢◌, ◌∙◌, sym, ap, refl, subst, ℕ, zero, suc, ◌+◌, ◌-◌, ◌*◌, ◌/◌, ◌%◌, ◌<◌, ◌≤◌, ◌⊎◌, inl, inr, ⊎_elim, Bool, true, false, ◌==◌, nat_lt, if◌then◌else◌, List, [], ◌∷◌, length, codes, slice_get, Option, Some, None, arith}
use Rattle.std.proofs.lemmas.Bool.{lt-ltb, le-ltb}
use Rattle.std.proofs.lemmas.Bool.Decides.{nat_tests}
use Rattle.std.proofs.lemmas.Option.{slice_get_within}
use Rattle.std.proofs.lemmas.Slice.Eq.{bytes_eq-Decides}
use Rattle.std.specs.Option.{option_or}
use Rattle.std.specs.Str.{bytes_eq}
use Rattle.qil_tree.specs.declared.tree.Data.{Data}
use Rattle.qil_tree.specs.declared.tree.Func.{Func}
use Rattle.qil_tree.specs.declared.tree.Program.{Program}
use Rattle.qil_layout.specs.declared.callee.Callee.TheVariants.{Defined}
use Rattle.qil_layout.specs.Layout.{data_base, start_of, end_of, fault_from, fault_of, if_named, data_address, func_address, built_in_address, address_of}
use Rattle.qil_layout.specs.Callee.{callee_at}
use Rattle.qil_layout_builder.specs.Laws.{HaveOwnNames, LiesAt, IsOfData, IsOfFunction, IsOfBuiltIn, IsFirstNamed}
use Rattle.qil_layout_builder.proofs.Starts.{Begins, fine, same_start, same_object, some_start}

-- ---- one name

false_unless : (b : Bool) → (b ≡ true → ⊥) → b ≡ false
false_unless true h = absurd (h refl)
false_unless false h = refl

if_other : (name x : List ℕ) (a : ℕ) → (name ≡ x → ⊥) → if_named name x a ≡ None
if_other name x a other =
    let e : bytes_eq name x ≡ false = false_unless (bytes_eq name x) (λ t. other ((bytes_eq-Decides name x).0 t)) in
    rw e refl

if_same : (x : List ℕ) (a : ℕ) → if_named x x a ≡ Some a
if_same x a = let e : bytes_eq x x ≡ true = (bytes_eq-Decides x x).1 refl in rw e refl

if_test : (b : Bool) (name x : List ℕ) (a c : ℕ) → (b ≡ true → name ≡ x) → (if b then Some a else None) ≡ Some c → (name ≡ x) × (a ≡ c)
if_test true name x a c t e = (t refl, same_start a c e)
if_test false name x a c t e = absurd cc

if_is : (name x : List ℕ) (a c : ℕ) → if_named name x a ≡ Some c → (name ≡ x) × (a ≡ c)
if_is name x a c e = if_test (bytes_eq name x) name x a c (bytes_eq-Decides name x).0 e

or_cases : (o p : Option ℕ) (a : ℕ) → option_or o p ≡ Some a → (o ≡ Some a) ⊎ (p ≡ Some a)
or_cases None p a e = inr e
or_cases (Some b) p a e = inl e

-- ---- the names of the data

abbrev Own : {A : Type 0} → List (Data A) → Type 0
Own {A} ds = (j k : ℕ) (d e : Data A) → slice_get ds j ≡ Some d → slice_get ds k ≡ Some e → d.name ≡ e.name → j ≡ k

own_others : {A : Type 0} (d : Data A) (ds : List (Data A)) → Own (d ∷ ds) → Own ds
own_others d ds own j k e f h i s = let n : suc j ≡ suc k = own (suc j) (suc k) e f h i s in omega arith

named : {A : Type 0} (at : ℕ) (ds : List (Data A)) (k : ℕ) (d : Data A) (a : ℕ) → Own ds → Begins at ds k d a → data_address at ds d.name ≡ Some a
named at [] k d a own b = absurd (let h = b.object in cc)
named {A} at (e ∷ ds) zero d a own b =
    let same : e ≡ d = same_object d e b.object in
    let here : if_named e.name d.name (start_of at e) ≡ Some (start_of at e) = ap (λ (o : Data A). if_named e.name o.name (start_of at e)) (sym same) ∙ if_same e.name (start_of at e) in
    ap (λ o. option_or o (data_address (end_of at e) ds d.name)) here ∙ b.start
named at (e ∷ ds) (suc k) d a own b =
    let other : if_named e.name d.name (start_of at e) ≡ None = if_other e.name d.name (start_of at e) (λ s. let n : 0 ≡ suc k = own 0 (suc k) e d refl b.object s in absurd (omega arith)) in
    ap (λ o. option_or o (data_address (end_of at e) ds d.name)) other
    ∙ named (end_of at e) ds k d a (own_others e ds own) (record { object = b.object; start = b.start })

in_data : {A : Type 0} (p : Program A) (x : List ℕ) (a : ℕ) → data_address data_base p.datas x ≡ Some a → address_of p x ≡ Some a
in_data p x a e = ap (λ o. option_or o (option_or (func_address 4096 p.funcs x) (built_in_address x))) e

pub lies_of : {A : Type 0} (p : Program A) (k : ℕ) (d : Data A) (a : ℕ) → HaveOwnNames p → Begins data_base p.datas k d a → LiesAt p k d a
lies_of p k d a own b = (b.object, in_data p d.name a (named data_base p.datas k d a own b))

pub lies_some : {A : Type 0} (p : Program A) (k : ℕ) (d : Data A) → HaveOwnNames p → slice_get p.datas k ≡ Some d → (a : ℕ) × LiesAt p k d a
lies_some p k d own h =
    let s = some_start data_base p.datas k d h in
    (s.0, lies_of p k d s.0 own (record { object = h; start = s.1 }))

pub begins_of : {A : Type 0} (p : Program A) (k : ℕ) (d : Data A) (a : ℕ) → HaveOwnNames p → LiesAt p k d a → Begins data_base p.datas k d a
begins_of p k d a own l =
    let s = some_start data_base p.datas k d l.0 in
    let b : Begins data_base p.datas k d s.0 = record { object = l.0; start = s.1 } in
    let same : s.0 ≡ a = same_start s.0 a (sym (lies_of p k d s.0 own b).1 ∙ l.1) in
    subst (Begins data_base p.datas k d) same b

-- ---- which name an address has

data_is : {A : Type 0} (at : ℕ) (ds : List (Data A)) (x : List ℕ) (a : ℕ) → fault_from at ds ≡ None → data_address at ds x ≡ Some a
    → (k : ℕ) × (d : Data A) × (slice_get ds k ≡ Some d) × (d.name ≡ x) × (at ≤ a)
data_is at [] x a none e = absurd cc
data_is {A} at (d ∷ ds) x a none e =
    let f = fine at d ds none in
    let low = f.behind in
    ⊎_elim
    (λ (h : if_named d.name x (start_of at d) ≡ Some a).
    let is = if_is d.name x (start_of at d) a h in let place = is.1 in (0, d, refl, is.0, omega (arith, low, place)))
    (λ (h : data_address (end_of at d) ds x ≡ Some a). one_more low (data_is (end_of at d) ds x a f.others h))
    (or_cases (if_named d.name x (start_of at d)) (data_address (end_of at d) ds x) a e) where
      one_more : at ≤ start_of at d → (k : ℕ) × (o : Data A) × (slice_get ds k ≡ Some o) × (o.name ≡ x) × (end_of at d ≤ a)
          → (k : ℕ) × (o : Data A) × (slice_get (d ∷ ds) k ≡ Some o) × (o.name ≡ x) × (at ≤ a)
      one_more low (k, o, there, name, behind) = (suc k, o, there, name, omega (arith, low, behind))

func_is : {A : Type 0} (at : ℕ) (fs : List (Func A)) (x : List ℕ) (a : ℕ) → func_address at fs x ≡ Some a
    → (k : ℕ) × (f : Func A) × (slice_get fs k ≡ Some f) × (f.name ≡ x) × (a ≡ at + 16 * k)
func_is at [] x a e = absurd cc
func_is {A} at (f ∷ fs) x a e = ⊎_elim
    (λ (h : if_named f.name x at ≡ Some a). let is = if_is f.name x at a h in let place = is.1 in (0, f, refl, is.0, omega (arith, place)))
    (λ (h : func_address (at + 16) fs x ≡ Some a). one_more (func_is (at + 16) fs x a h))
    (or_cases (if_named f.name x at) (func_address (at + 16) fs x) a e) where
      one_more : (k : ℕ) × (g : Func A) × (slice_get fs k ≡ Some g) × (g.name ≡ x) × (a ≡ at + 16 + 16 * k)
          → (k : ℕ) × (g : Func A) × (slice_get (f ∷ fs) k ≡ Some g) × (g.name ≡ x) × (a ≡ at + 16 * k)
      one_more (k, g, there, name, place) = (suc k, g, there, name, omega (arith, place))

built_in_is : (x : List ℕ) (a : ℕ) → built_in_address x ≡ Some a → IsOfBuiltIn x a
built_in_is x a e = ⊎_elim
    (λ (h : if_named (codes "putchar") x 1024 ≡ Some a). let is = if_is (codes "putchar") x 1024 a h in inl (sym is.0, sym is.1))
    (λ (h : option_or (if_named (codes "puts") x 1040) (if_named (codes "exit") x 1056) ≡ Some a). ⊎_elim
    (λ (i : if_named (codes "puts") x 1040 ≡ Some a). let is = if_is (codes "puts") x 1040 a i in inr (inl (sym is.0, sym is.1)))
    (λ (i : if_named (codes "exit") x 1056 ≡ Some a). let is = if_is (codes "exit") x 1056 a i in inr (inr (sym is.0, sym is.1)))
    (or_cases (if_named (codes "puts") x 1040) (if_named (codes "exit") x 1056) a h))
    (or_cases (if_named (codes "putchar") x 1024) (option_or (if_named (codes "puts") x 1040) (if_named (codes "exit") x 1056)) a e)

pub each_name : {A : Type 0} (p : Program A) (x : List ℕ) (a : ℕ) → fault_of p ≡ None → address_of p x ≡ Some a → IsOfData p x a ⊎ (IsOfFunction p x a ⊎ IsOfBuiltIn x a)
each_name p x a none e = ⊎_elim
    (λ (h : data_address data_base p.datas x ≡ Some a). inl (data_is data_base p.datas x a none h))
    (λ (h : option_or (func_address 4096 p.funcs x) (built_in_address x) ≡ Some a). inr (⊎_elim
    (λ (i : func_address 4096 p.funcs x ≡ Some a). inl (func_is 4096 p.funcs x a i))
    (λ (i : built_in_address x ≡ Some a). inr (built_in_is x a i))
    (or_cases (func_address 4096 p.funcs x) (built_in_address x) a h)))
    (or_cases (data_address data_base p.datas x) (option_or (func_address 4096 p.funcs x) (built_in_address x)) a e)

-- ---- below the data

func_behind : {A : Type 0} (p : Program A) (x : List ℕ) (a : ℕ) → IsOfFunction p x a → 4096 ≤ a
func_behind p x a (k, f, there, name, place) = omega (arith, place)

built_in_before : (x : List ℕ) (a : ℕ) → IsOfBuiltIn x a → a < 4096
built_in_before x a b = ⊎_elim
    (λ (h : (x ≡ codes "putchar") × (a ≡ 1024)). let e = h.1 in omega (arith, e))
    (λ b2. ⊎_elim
    (λ (h : (x ≡ codes "puts") × (a ≡ 1040)). let e = h.1 in omega (arith, e))
    (λ (h : (x ≡ codes "exit") × (a ≡ 1056)). let e = h.1 in omega (arith, e))
    b2)
    b

pub below_data : {A : Type 0} (p : Program A) (x : List ℕ) (a : ℕ) → length p.funcs ≤ 1000 → IsOfFunction p x a ⊎ IsOfBuiltIn x a → a < data_base
below_data p x a few i = ⊎_elim
    (λ (f : IsOfFunction p x a). func_before f)
    (λ (b : IsOfBuiltIn x a). let low = built_in_before x a b in omega (arith, low))
    i where
      func_before : IsOfFunction p x a → a < data_base
      func_before (k, f, there, name, place) = let inside = slice_get_within p.funcs k f there in omega (arith, place, inside, few)

same_func : {A : Type 0} (f g : Func A) (o q : Option (Func A)) → o ≡ Some f → q ≡ Some g → o ≡ q → f ≡ g
same_func f g o q e h s = let t : Some f ≡ Some g = sym e ∙ s ∙ h in cc

one_func : {A : Type 0} (p : Program A) (x y : List ℕ) (a : ℕ) → IsOfFunction p x a → IsOfFunction p y a → x ≡ y
one_func {A} p x y a (k, f, there, name, place) (j, g, here, called, at) =
    let same : k ≡ j = omega (arith, place, at) in
    sym name ∙ ap (λ (o : Func A). o.name) (same_func f g (slice_get p.funcs k) (slice_get p.funcs j) there here (ap (slice_get p.funcs) same)) ∙ called

one_built_in : (x y : List ℕ) (a : ℕ) → IsOfBuiltIn x a → IsOfBuiltIn y a → x ≡ y
one_built_in x y a (inl (n, e)) (inl (m, f)) = n ∙ sym m
one_built_in x y a (inl (n, e)) (inr (inl (m, f))) = absurd (omega (arith, e, f))
one_built_in x y a (inl (n, e)) (inr (inr (m, f))) = absurd (omega (arith, e, f))
one_built_in x y a (inr (inl (n, e))) (inl (m, f)) = absurd (omega (arith, e, f))
one_built_in x y a (inr (inl (n, e))) (inr (inl (m, f))) = n ∙ sym m
one_built_in x y a (inr (inl (n, e))) (inr (inr (m, f))) = absurd (omega (arith, e, f))
one_built_in x y a (inr (inr (n, e))) (inl (m, f)) = absurd (omega (arith, e, f))
one_built_in x y a (inr (inr (n, e))) (inr (inl (m, f))) = absurd (omega (arith, e, f))
one_built_in x y a (inr (inr (n, e))) (inr (inr (m, f))) = n ∙ sym m

not_data : {A : Type 0} (p : Program A) (x : List ℕ) (a : ℕ) → a < data_base → IsOfData p x a ⊎ (IsOfFunction p x a ⊎ IsOfBuiltIn x a) → IsOfFunction p x a ⊎ IsOfBuiltIn x a
not_data p x a low (inl (k, d, there, name, behind)) = absurd (omega (arith, low, behind))
not_data p x a low (inr o) = o

pub one_name : {A : Type 0} (p : Program A) (x y : List ℕ) (a : ℕ) → fault_of p ≡ None → a < data_base → address_of p x ≡ Some a → address_of p y ≡ Some a → x ≡ y
one_name p x y a none low e f = ⊎_elim
    (λ (i : IsOfFunction p x a). ⊎_elim
    (λ (j : IsOfFunction p y a). one_func p x y a i j)
    (λ (j : IsOfBuiltIn y a). let above = func_behind p x a i in let under = built_in_before y a j in absurd (omega (arith, above, under)))
    (not_data p y a low (each_name p y a none f)))
    (λ (i : IsOfBuiltIn x a). ⊎_elim
    (λ (j : IsOfFunction p y a). let above = func_behind p y a j in let under = built_in_before x a i in absurd (omega (arith, above, under)))
    (λ (j : IsOfBuiltIn y a). one_built_in x y a i j)
    (not_data p y a low (each_name p y a none f)))
    (not_data p x a low (each_name p x a none e))

-- ---- functions

no_data : {A : Type 0} (at : ℕ) (ds : List (Data A)) (x : List ℕ) → ((j : ℕ) (d : Data A) → slice_get ds j ≡ Some d → d.name ≢ x) → data_address at ds x ≡ None
no_data at [] x free = refl
no_data at (d ∷ ds) x free =
    ap (λ o. option_or o (data_address (end_of at d) ds x)) (if_other d.name x (start_of at d) (free 0 d refl))
    ∙ no_data (end_of at d) ds x (λ j o h. free (suc j) o h)

first_func : {A : Type 0} (at : ℕ) (fs : List (Func A)) (k : ℕ) (f : Func A) → slice_get fs k ≡ Some f → ((j : ℕ) (g : Func A) → j < k → slice_get fs j ≡ Some g → g.name ≢ f.name) → func_address at fs f.name ≡ Some (at + 16 * k)
first_func at [] k f h first = absurd cc
first_func {A} at (g ∷ fs) zero f h first =
    let same : g ≡ f = (let t : Some g ≡ Some f = h in cc) in
    let here : if_named g.name f.name at ≡ Some at = ap (λ (o : Func A). if_named g.name o.name at) (sym same) ∙ if_same g.name at in
    let place : at ≡ at + 16 * 0 = omega arith in
    ap (λ o. option_or o (func_address (at + 16) fs f.name)) here ∙ ap Some place
first_func at (g ∷ fs) (suc k) f h first =
    let other : if_named g.name f.name at ≡ None = if_other g.name f.name at (first 0 g (omega arith) refl) in
    let place : at + 16 + 16 * k ≡ at + 16 * suc k = omega arith in
    ap (λ o. option_or o (func_address (at + 16) fs f.name)) other
    ∙ first_func (at + 16) fs k f h (λ j o l i. first (suc j) o (omega arith) i)
    ∙ ap Some place

pub function_address : {A : Type 0} (p : Program A) (k : ℕ) (f : Func A) → IsFirstNamed p k f → address_of p f.name ≡ Some (4096 + 16 * k)
function_address p k f i =
    ap (λ o. option_or o (option_or (func_address 4096 p.funcs f.name) (built_in_address f.name))) (no_data data_base p.datas f.name i.data_free)
    ∙ ap (λ o. option_or o (built_in_address f.name)) (first_func 4096 p.funcs k f i.function i.first)

pub function_called : {A : Type 0} (p : Program A) (k : ℕ) (f : Func A) → slice_get p.funcs k ≡ Some f → callee_at p (4096 + 16 * k) ≡ Some (Defined (record { index = k }))
function_called p k f h =
    let inside : k < length p.funcs = slice_get_within p.funcs k f h in
    let a : (4096 + 16 * k == 1024) ≡ false = grind (arith, nat_tests) in
    let b : (4096 + 16 * k == 1040) ≡ false = grind (arith, nat_tests) in
    let c : (4096 + 16 * k == 1056) ≡ false = grind (arith, nat_tests) in
    let low : nat_lt (4096 + 16 * k) 4096 ≡ false = le-ltb (4096 + 16 * k) 4096 (omega arith) in
    let whole : (4096 + 16 * k - 4096) % 16 ≡ 0 = omega arith in
    let place : (4096 + 16 * k - 4096) / 16 ≡ k = omega arith in
    let there : nat_lt k (length p.funcs) ≡ true = lt-ltb k (length p.funcs) inside in
    rw (a, b, c, low, whole, place, there) refl
