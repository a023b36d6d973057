-- What the first place of a temporary says of a text.
use Rattle.std.proofs.Common.{◌≡◌, ◌∙◌, sym, ap, refl, subst, not, IsTrue, ℕ, zero, suc, ◌+◌, ◌<◌, ◌≢◌, ◌⊎◌, inl, inr, ⊎_elim, length, get_or, List, [], ◌∷◌, Option, Some, None, Bool, true, false, if◌then◌else◌, arith}
use Rattle.std.specs.Option.{option_map}
use Rattle.std.proofs.lemmas.Option.{slice_get_within}
use Rattle.std.specs.List.{slice_get}
use Rattle.std.specs.Str.{bytes_eq}
use Rattle.std.proofs.lemmas.Slice.Eq.{bytes_eq-Decides}
use Rattle.qil_tree.specs.declared.ops.Class.{Class}
use Rattle.qil_tree.specs.declared.ops.Class.TheVariants as classes
use Rattle.qil_tree.specs.contracts.ops.Class.{the_type}
use denote.Enum.Bare.{sameb}
use Rattle.qil_checker.specs.declared.lookup.TableKind.TheVariants.{Defined, Named, Labels}
use Rattle.qil_rules.specs.declared.occurrence.OccurrenceKind.{OccurrenceKind}
use Rattle.qil_rules.specs.declared.occurrence.OccurrenceKind.TheVariants.{DataName, FunctionName, Label, Edge, PhiLabel, PhiOf, Defines, Uses, Global, Returns, Long}
use Rattle.qil_rules.specs.declared.occurrence.Occurrence.{Occurrence}
use Rattle.qil_rules.specs.Text.{IsAt, FirstClass, IsUndefined, IsAgain, IsTemporary, LacksLabel}
use Rattle.qil_checker.specs.Tables.{named, is_name, is_named, first, is}

pub record Found {A : Type 0} (test : A → Bool) (xs : List A) (i : ℕ) : Type 0 where
  pub item : A
  pub there : slice_get xs i ≡ Some item
  pub passes : test item ≡ true
  pub earlier : (j : ℕ) (b : A) → j < i → slice_get xs j ≡ Some b → test b ≡ false

none_before : {A : Type 0} (test : A → Bool) (xs : List A) (x : A) (i : ℕ) → test x ≡ false
    → ((j : ℕ) (b : A) → j < i → slice_get xs j ≡ Some b → test b ≡ false)
    → (j : ℕ) (b : A) → j < suc i → slice_get (x ∷ xs) j ≡ Some b → test b ≡ false
none_before test xs x i fails earlier zero b l e = let same : x ≡ b = cc in subst (λ y. test y ≡ false) same fails
none_before test xs x i fails earlier (suc j) b l e = earlier j b (omega arith) e

found_case : {A : Type 0} (test : A → Bool) (n : ℕ) (x : A) (xs : List A) (k : ℕ) (b : Bool) → test x ≡ b
    → (if b then Some n else first test (suc n) xs) ≡ Some k
    → (first test (suc n) xs ≡ Some k → (i : ℕ) × (k ≡ suc n + i) × Found test xs i)
    → (i : ℕ) × (k ≡ n + i) × Found test (x ∷ xs) i
found_case test n x xs k true passes e later =
    let same : n ≡ k = cc in
    (zero, omega arith, record { item = x; there = refl; passes = passes; earlier = λ j b l. absurd (omega arith) })
found_case test n x xs k false passes e later =
    let f = later e in
    (suc f.0, omega (arith, f.1), record { item = f.2.item; there = f.2.there; passes = f.2.passes; earlier = none_before test xs x f.0 passes f.2.earlier })

found : {A : Type 0} (test : A → Bool) (n : ℕ) (xs : List A) (k : ℕ) → first test n xs ≡ Some k → (i : ℕ) × (k ≡ n + i) × Found test xs i
found test n [] k e = absurd cc
found test n (x ∷ xs) k e = found_case test n x xs k (test x) refl e (found test (suc n) xs k)

pub found_here : {A : Type 0} (test : A → Bool) (xs : List A) (k : ℕ) → first test 0 xs ≡ Some k → Found test xs k
found_here test xs k e = let f = found test 0 xs k e in let same : f.0 ≡ k = omega (arith, f.1) in subst (Found test xs) same f.2

absent_case : {A : Type 0} (test : A → Bool) (n : ℕ) (x : A) (xs : List A) (b : Bool) → test x ≡ b
    → (if b then Some n else first test (suc n) xs) ≡ None
    → (first test (suc n) xs ≡ None → (j : ℕ) (a : A) → slice_get xs j ≡ Some a → test a ≡ false)
    → (j : ℕ) (a : A) → slice_get (x ∷ xs) j ≡ Some a → test a ≡ false
absent_case test n x xs true passes e later j a there = absurd cc
absent_case test n x xs false passes e later zero a there = let same : x ≡ a = cc in subst (λ y. test y ≡ false) same passes
absent_case test n x xs false passes e later (suc j) a there = later e j a there

pub absent : {A : Type 0} (test : A → Bool) (n : ℕ) (xs : List A) → first test n xs ≡ None → (j : ℕ) (a : A) → slice_get xs j ≡ Some a → test a ≡ false
absent test n [] e = λ j a there. absurd cc
absent test n (x ∷ xs) e = absent_case test n x xs (test x) refl e (absent test (suc n) xs)

-- the occurrence that is at a place
occurrence_there : (found : Option Occurrence) (w : OccurrenceKind) → option_map (λ m. m.what) found ≡ Some w → (m : Occurrence) × (found ≡ Some m) × (m.what ≡ w)
occurrence_there None w e = absurd cc
occurrence_there (Some m) w e = (m, refl, cc)

pub stands_occurrence : (text : List Occurrence) (k : ℕ) (w : OccurrenceKind) → IsAt text k w → (m : Occurrence) × (slice_get text k ≡ Some m) × (m.what ≡ w)
stands_occurrence text k w e = occurrence_there (slice_get text k) w e

pub occurrence_stands : (text : List Occurrence) (k : ℕ) (m : Occurrence) (w : OccurrenceKind) → slice_get text k ≡ Some m → m.what ≡ w → IsAt text k w
occurrence_stands text k m w e is = ap (option_map (λ m. m.what)) e ∙ ap Some is

pub stands_within : (text : List Occurrence) (k : ℕ) (w : OccurrenceKind) → IsAt text k w → k < length text
stands_within text k w s = let m = stands_occurrence text k w s in slice_get_within text k m.0 m.1

pub same_name : (x : List ℕ) → bytes_eq x x ≡ true
same_name x = (bytes_eq-Decides x x).1 refl

class_of_occurrence : (x : List ℕ) (w : OccurrenceKind) → is_name x (named w Defined) ≡ true → (c : Class) × (w ≡ Defines x c)
class_of_occurrence x (Defines y c) e = (c, ap (λ n. Defines n c) ((bytes_eq-Decides y x).0 e))
class_of_occurrence x (Label y) e = absurd cc
class_of_occurrence x (Uses y c) e = absurd cc
class_of_occurrence x (DataName y) e = absurd cc
class_of_occurrence x (FunctionName y) e = absurd cc
class_of_occurrence x (Edge y z) e = absurd cc
class_of_occurrence x (PhiLabel y) e = absurd cc
class_of_occurrence x (PhiOf y z) e = absurd cc
class_of_occurrence x (Global y) e = absurd cc
class_of_occurrence x (Returns y) e = absurd cc
class_of_occurrence x (Long y) e = absurd cc

occurrence_of_temp : (x : List ℕ) (w : OccurrenceKind) → is_name x (named w Named) ≡ true → (c : Class) × ((w ≡ Defines x c) ⊎ (w ≡ Uses x c))
occurrence_of_temp x (Defines y c) e = (c, inl (ap (λ n. Defines n c) ((bytes_eq-Decides y x).0 e)))
occurrence_of_temp x (Uses y c) e = (c, inr (ap (λ n. Uses n c) ((bytes_eq-Decides y x).0 e)))
occurrence_of_temp x (Label y) e = absurd cc
occurrence_of_temp x (DataName y) e = absurd cc
occurrence_of_temp x (FunctionName y) e = absurd cc
occurrence_of_temp x (Edge y z) e = absurd cc
occurrence_of_temp x (PhiLabel y) e = absurd cc
occurrence_of_temp x (PhiOf y z) e = absurd cc
occurrence_of_temp x (Global y) e = absurd cc
occurrence_of_temp x (Returns y) e = absurd cc
occurrence_of_temp x (Long y) e = absurd cc

label_of_occurrence : (x : List ℕ) (w : OccurrenceKind) → is_name x (named w Labels) ≡ true → w ≡ Label x
label_of_occurrence x (Label y) e = ap Label ((bytes_eq-Decides y x).0 e)
label_of_occurrence x (Defines y c) e = absurd cc
label_of_occurrence x (Uses y c) e = absurd cc
label_of_occurrence x (DataName y) e = absurd cc
label_of_occurrence x (FunctionName y) e = absurd cc
label_of_occurrence x (Edge y z) e = absurd cc
label_of_occurrence x (PhiLabel y) e = absurd cc
label_of_occurrence x (PhiOf y z) e = absurd cc
label_of_occurrence x (Global y) e = absurd cc
label_of_occurrence x (Returns y) e = absurd cc
label_of_occurrence x (Long y) e = absurd cc

-- an occurrence that brings x passes the test
brings_definition : (x : List ℕ) (c : Class) (m : Occurrence) → m.what ≡ Defines x c → is_named Defined x m ≡ true
brings_definition x c m e = ap (λ w. is_name x (named w Defined)) e ∙ same_name x

brings_label : (x : List ℕ) (m : Occurrence) → m.what ≡ Label x → is_named Labels x m ≡ true
brings_label x m e = ap (λ w. is_name x (named w Labels)) e ∙ same_name x

brings_name : (x : List ℕ) (c : Class) (m : Occurrence) → (m.what ≡ Defines x c) ⊎ (m.what ≡ Uses x c) → is_named Named x m ≡ true
brings_name x c m (inl e) = ap (λ w. is_name x (named w Named)) e ∙ same_name x
brings_name x c m (inr e) = ap (λ w. is_name x (named w Named)) e ∙ same_name x

class_found : (text : List Occurrence) (x : List ℕ) (k : ℕ) → first (is_named Defined x) 0 text ≡ Some k
    → (c : Class) × IsAt text k (Defines x c) × ((j : ℕ) (d : Class) → j < k → IsAt text j (Defines x d) → ⊥)
class_found text x k e =
    let f = found_here (is_named Defined x) text k e in
    let t = class_of_occurrence x f.item.what f.passes in (
      t.0,
      occurrence_stands text k f.item (Defines x t.0) f.there t.1,
      λ j d l s. let m = stands_occurrence text j (Defines x d) s in
          let yes : is_named Defined x m.0 ≡ true = brings_definition x d m.0 m.2 in
          let not : is_named Defined x m.0 ≡ false = f.earlier j m.0 l m.1 in
          cc,
    )

pub class_absent : (text : List Occurrence) (x : List ℕ) → first (is_named Defined x) 0 text ≡ None → IsUndefined text x
class_absent text x e = λ j d s. let m = stands_occurrence text j (Defines x d) s in
    let yes : is_named Defined x m.0 ≡ true = brings_definition x d m.0 m.2 in
    let not : is_named Defined x m.0 ≡ false = absent (is_named Defined x) 0 text e j m.0 m.1 in
    cc

pub place_within : (text : List Occurrence) (x : List ℕ) (k : ℕ) → first (is_named Defined x) 0 text ≡ Some k → k < length text
place_within text x k e = let f = found_here (is_named Defined x) text k e in slice_get_within text k f.item f.there

pub class_at : (text : List Occurrence) (x y : List ℕ) (k : ℕ) (m : Occurrence) (c : Class) → first (is_named Defined x) 0 text ≡ Some k → slice_get text k ≡ Some m → m.what ≡ Defines y c
    → FirstClass text x c
class_at text x y k m c e there is =
    let f = class_found text x k e in
    let now : IsAt text k (Defines y c) = occurrence_stands text k m (Defines y c) there is in
    let same : Defines x f.0 ≡ Defines y c = cc in
    let classes : f.0 ≡ c = cc in
    (k, subst (λ d. IsAt text k (Defines x d)) classes f.1, λ j d l. f.2 j d l)

pub no_class_at : (text : List Occurrence) (x : List ℕ) (k : ℕ) (m : Occurrence) → first (is_named Defined x) 0 text ≡ Some k → slice_get text k ≡ Some m
    → ((y : List ℕ) (c : Class) → m.what ≡ Defines y c → ⊥) → ⊥
no_class_at text x k m e there never =
    let f = class_found text x k e in
    let s = stands_occurrence text k (Defines x f.0) f.1 in
    let same : s.0 ≡ m = cc in
    never x f.0 (ap (λ n. n.what) (sym same) ∙ s.2)

pub read_there : {A : Type 0} (text : List A) (k : ℕ) (m : A) → k < length text → m ≡ get_or text k m → slice_get text k ≡ Some m
read_there [] k m l e = absurd (omega arith)
read_there (n ∷ text) zero m l e = ap Some (sym e)
read_there (n ∷ text) (suc k) m l e = read_there text k m (omega arith) e

-- ---- the class of the first definition is one

some_same : {A : Type 0} {a b : A} → Some a ≡ Some b → a ≡ b
some_same e = cc

same_class : (x : List ℕ) (c d : Class) → Defines x c ≡ Defines x d → c ≡ d
same_class x c d e = cc

same_temp : (x y : List ℕ) (c d : Class) → Defines x c ≡ Defines y d → x ≡ y
same_temp x y c d e = cc

same_use : (x y : List ℕ) (c d : Class) → Uses x c ≡ Uses y d → x ≡ y
same_use x y c d e = cc

same_place : (text : List Occurrence) (x : List ℕ) (c d : Class) (i j : ℕ) → i ≡ j → IsAt text i (Defines x c) → IsAt text j (Defines x d) → c ≡ d
same_place text x c d i j e s t = same_class x c d (some_same (sym (subst (λ k. IsAt text k (Defines x c)) e s) ∙ t))

pub one_class : (text : List Occurrence) (x : List ℕ) (c d : Class) → FirstClass text x c → FirstClass text x d → c ≡ d
one_class text x c d a b =
    let below : a.0 < b.0 → ⊥ = λ l. b.2 a.0 c l a.1 in
    let above : b.0 < a.0 → ⊥ = λ l. a.2 b.0 d l b.1 in
    same_place text x c d a.0 b.0 (omega (arith, below, above)) a.1 b.1

-- the test of two classes
pub other_class : (d c : Class) (r : Bool) → r ≡ not (sameb the_type d c) → (IsTrue r → c ≢ d) × (c ≢ d → IsTrue r)
other_class classes.W classes.W r e = (λ t. absurd cc, λ ne. absurd (ne refl))
other_class classes.W classes.L r e = (λ t s. absurd cc, λ ne. e)
other_class classes.L classes.W r e = (λ t s. absurd cc, λ ne. e)
other_class classes.L classes.L r e = (λ t. absurd cc, λ ne. absurd (ne refl))

abbrev TwoClasses : List Occurrence → ℕ → Type 0
TwoClasses text k = (x : List ℕ) × (c : Class) × (d : Class) × IsAt text k (Defines x c) × FirstClass text x d × (c ≢ d)

pub two_classes : (text : List Occurrence) (k : ℕ) (x : List ℕ) (c d : Class) → IsAt text k (Defines x c) → FirstClass text x d → TwoClasses text k → c ≢ d
two_classes text k x c d s f b e =
    let same : Defines b.0 b.1 ≡ Defines x c = some_same (sym b.3 ∙ s) in
    let name : b.0 ≡ x = same_temp b.0 x b.1 c same in
    let class : b.1 ≡ c = cc in
    let first : b.2 ≡ d = one_class text x b.2 d (subst (λ y. FirstClass text y b.2) name b.4) f in
    b.5 (class ∙ e ∙ sym first)

-- ---- a definition that is not the first

pub is_again : (text : List Occurrence) (x : List ℕ) (c : Class) (k i : ℕ) (m : Occurrence) → slice_get text k ≡ Some m → m.what ≡ Defines x c
    → first (is_named Defined x) 0 text ≡ Some i → i ≢ k → IsAgain text k x
is_again text x c k i m there is e apart =
    let f = class_found text x i e in
    let here : IsAt text k (Defines x c) = occurrence_stands text k m (Defines x c) there is in
    let reach : k < i → ⊥ = λ l. f.2 k c l here in
    let l : i < k = omega (arith, reach, apart) in
    (i, c, f.0, l, f.1, here)

pub is_first : (text : List Occurrence) (x : List ℕ) (c : Class) (k i : ℕ) (m : Occurrence) → slice_get text k ≡ Some m → m.what ≡ Defines x c
    → first (is_named Defined x) 0 text ≡ Some i → i ≡ k → (y : List ℕ) → IsAgain text k y → ⊥
is_first text x c k i m there is e same y b =
    let f = class_found text x i e in
    let here : IsAt text k (Defines x c) = occurrence_stands text k m (Defines x c) there is in
    let name : y ≡ x = same_temp y x b.1 c (some_same (sym b.5 ∙ here)) in
    f.2 b.0 b.2 (subst (λ n. b.0 < n) (sym same) b.3) (subst (λ n. IsAt text b.0 (Defines n b.2)) name b.4)

pub never_defined : (text : List Occurrence) (x : List ℕ) (c : Class) (k : ℕ) (m : Occurrence) → slice_get text k ≡ Some m → m.what ≡ Defines x c
    → first (is_named Defined x) 0 text ≡ None → ⊥
never_defined text x c k m there is e = class_absent text x e k c (occurrence_stands text k m (Defines x c) there is)

pub no_definition : (text : List Occurrence) (k : ℕ) (m : Occurrence) → slice_get text k ≡ Some m → ((y : List ℕ) (c : Class) → m.what ≡ Defines y c → ⊥)
    → (x : List ℕ) → IsAgain text k x → ⊥
no_definition text k m there never x b =
    let s = stands_occurrence text k (Defines x b.1) b.5 in
    let same : s.0 ≡ m = cc in
    never x b.1 (ap (λ n. n.what) (sym same) ∙ s.2)

pub again_within : (text : List Occurrence) (k : ℕ) (x : List ℕ) → IsAgain text k x → k < length text
again_within text k x b = stands_within text k (Defines x b.1) b.5

-- ---- a temporary of the text

pub temp_found : (text : List Occurrence) (x : List ℕ) (k : ℕ) → first (is_named Named x) 0 text ≡ Some k → IsTemporary text x
temp_found text x k e =
    let f = found_here (is_named Named x) text k e in
    let t = occurrence_of_temp x f.item.what f.passes in
    (k, t.0, ⊎_elim (λ d. inl (occurrence_stands text k f.item (Defines x t.0) f.there d)) (λ u. inr (occurrence_stands text k f.item (Uses x t.0) f.there u)) t.1)

temp_at : (text : List Occurrence) (x : List ℕ) (k : ℕ) (w : OccurrenceKind) (c : Class) → first (is_named Named x) 0 text ≡ None → IsAt text k w
    → (w ≡ Defines x c) ⊎ (w ≡ Uses x c) → ⊥
temp_at text x k w c e s which =
    let m = stands_occurrence text k w s in
    let yes : is_named Named x m.0 ≡ true = brings_name x c m.0 (⊎_elim (λ d. inl (m.2 ∙ d)) (λ u. inr (m.2 ∙ u)) which) in
    let not : is_named Named x m.0 ≡ false = absent (is_named Named x) 0 text e k m.0 m.1 in
    cc

pub temp_absent : (text : List Occurrence) (x : List ℕ) → first (is_named Named x) 0 text ≡ None → IsTemporary text x → ⊥
temp_absent text x e t = ⊎_elim (λ d. temp_at text x t.0 (Defines x t.1) t.1 e d (inl refl)) (λ u. temp_at text x t.0 (Uses x t.1) t.1 e u (inr refl)) t.2

-- ---- labels

-- what is at a place is one thing
pub one_what : (text : List Occurrence) (k : ℕ) (m : Occurrence) (w : OccurrenceKind) → slice_get text k ≡ Some m → IsAt text k w → m.what ≡ w
one_what text k m w there s =
    let f = stands_occurrence text k w s in
    let same : f.0 ≡ m = cc in
    ap (λ n. n.what) (sym same) ∙ f.2

pub label_found : (text : List Occurrence) (x : List ℕ) (k : ℕ) → first (is_named Labels x) 0 text ≡ Some k
    → IsAt text k (Label x) × ((j : ℕ) → j < k → IsAt text j (Label x) → ⊥)
label_found text x k e =
    let f = found_here (is_named Labels x) text k e in (
      occurrence_stands text k f.item (Label x) f.there (label_of_occurrence x f.item.what f.passes),
      λ j l s. let m = stands_occurrence text j (Label x) s in
          let yes : is_named Labels x m.0 ≡ true = brings_label x m.0 m.2 in
          let not : is_named Labels x m.0 ≡ false = f.earlier j m.0 l m.1 in
          cc,
    )

pub label_absent : (text : List Occurrence) (x : List ℕ) → first (is_named Labels x) 0 text ≡ None → LacksLabel text x
label_absent text x e = λ j s. let m = stands_occurrence text j (Label x) s in
    let yes : is_named Labels x m.0 ≡ true = brings_label x m.0 m.2 in
    let not : is_named Labels x m.0 ≡ false = absent (is_named Labels x) 0 text e j m.0 m.1 in
    cc

-- ---- names of a list

pub name_found : (xs : List (List ℕ)) (x : List ℕ) (i : ℕ) → first (is x) 0 xs ≡ Some i → slice_get xs i ≡ Some x
name_found xs x i e = let f = found_here (is x) xs i e in f.there ∙ ap Some ((bytes_eq-Decides f.item x).0 f.passes)

pub name_absent : (xs : List (List ℕ)) (x : List ℕ) → first (is x) 0 xs ≡ None → (i : ℕ) → slice_get xs i ≡ Some x → ⊥
name_absent xs x e i there =
    let yes : is x x ≡ true = same_name x in
    let not : is x x ≡ false = absent (is x) 0 xs e i x there in
    cc
