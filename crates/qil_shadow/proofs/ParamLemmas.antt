-- The parameters of the function that runs first get what they are made of, one after the other.
use Rattle.std.proofs.Common.{◌≡◌, ◌∙◌, sym, ap, subst, refl, ℕ, zero, suc, ◌+◌, ◌<◌, ◌≤◌, List, [], ◌∷◌, ◌++◌, length, map, drop, get_or, slice_get, Option, Some, None, option_map, unwrap_or, arith}
use Rattle.std.specs.Prelude.{replicate, slice_set, flat_map}
use Rattle.std.proofs.lemmas.List.{length-set, drop_all, length-map, length-replicate}
use Rattle.std.proofs.lemmas.Option.{slice_get-map, slice_get-get_or, get_or_from_slice_get}
use Rattle.qil_tree.specs.declared.ops.AbiType.{AbiType}
use Rattle.qil_tree.specs.declared.tree.Param.{Param}
use Rattle.qil_tree.specs.declared.tree.Func.{Func}
use Rattle.qil_tree.specs.declared.tree.Program.{Program}
use Rattle.qil_symbols.specs.Numbers.{place_of}
use Rattle.qil_semantics.specs.State.{Name}
use Rattle.qil_semantics.specs.Names.{block_names, temps_named}
use Rattle.qil_code.specs.declared.numbered.Slot.{Slot}
use Rattle.qil_code.specs.Numbered.{func_at, names_in, names_of, param_of, slot_in}
use Rattle.qil_code.specs.Reading.{params_at}
use Rattle.qil_code.specs.Slots.{number_in}
use Rattle.qil_code.proofs.Has.{Has, HasAll, HasAll-left, once-has}
use Rattle.qil_shadow.specs.declared.origin.Origin.{Origin}
use Rattle.qil_shadow.specs.declared.origin.Origin.TheVariants as origins
use Rattle.qil_shadow.specs.Shadow.{Origins, none_set, with_origin, with_origins, given}
use Rattle.qil_shadow.specs.Numbered.{origins_by, frames_by}
use Rattle.qil_shadow.specs.Stack.{CallShadow, with_held}
use Rattle.qil_shadow.proofs.ByNameLemmas.{slot_set, slots_none}

-- ---- names

pub names_here : {A : Type 0} (p : Program A) (i : ℕ) (func : Func A) → func_at p i ≡ Some func → names_of p i ≡ temps_named func
unfolding names_of
names_here {A} p i func ef = ap (λ (o : Option (Func A)). names_in o) ef

pub has_at : (ns xs : List Name) (i : ℕ) (x : Name) → HasAll ns xs → slice_get xs i ≡ Some x → Has ns x
has_at ns [] i x h at = absurd cc
has_at ns (y ∷ ys) zero x h at = subst (Has ns) (ap (λ o. unwrap_or o x) at) h.0
has_at ns (y ∷ ys) (suc i) x h at = has_at ns ys i x h.1 at

pub param_has : {A : Type 0} (f : Func A) (i : ℕ) (q : Param) → slice_get f.params i ≡ Some q → Has (temps_named f) q.name
param_has f i q at =
    let params = map (λ (q : Param). q.name) f.params in
    has_at (temps_named f) params i q.name (HasAll-left (temps_named f) params (flat_map block_names f.blocks) (once-has (params ++ flat_map block_names f.blocks)))
    (slice_get-map (λ (q : Param). q.name) f.params i ∙ ap (option_map (λ (q : Param). q.name)) at)

-- the slot of a name that has a number
pub has_slot : (ns : List Name) (x : Name) → Has ns x → place_of ns x ≡ Some (number_in ns x)
has_slot ns x h = h.1 ∙ ap (λ i. Some i) (sym (ap (λ o. unwrap_or o 0) h.1))

-- ---- lists

pub drop_one : {X : Type 0} (xs : List X) (i : ℕ) (x : X) → slice_get xs i ≡ Some x → drop i xs ≡ x ∷ drop (i + 1) xs
drop_one [] i x at = absurd cc
drop_one (y ∷ ys) zero x at = ap (λ z. z ∷ ys) (ap (λ o. unwrap_or o x) at)
drop_one (y ∷ ys) (suc i) x at = let e : suc (i + 1) ≡ suc i + 1 = omega arith in subst (λ n. drop (suc i) (y ∷ ys) ≡ x ∷ drop n (y ∷ ys)) e (drop_one ys i x at)

pub mapped_from : {X Y : Type 0} (v : X → Y) (xs : List X) (i : ℕ) (y : Y) (o : Option X) → slice_get xs i ≡ o → option_map v o ≡ Some y → (x : X) × (slice_get xs i ≡ Some x) × (v x ≡ y)
mapped_from v xs i y None at e = absurd cc
mapped_from v xs i y (Some x) at e = (x, at, ap (λ o. unwrap_or o y) e)

-- ---- one after the other

abbrev given_param : Param → Name × Origin
given_param q = (q.name, given q.abi_type)

abbrev pub held : List CallShadow → List Origin
held [] = []
held (c ∷ cs) = c.origins

-- the first so many have what they get
pub record AreSet {A : Type 0} (p : Program A) (fi i : ℕ) (cs : List CallShadow) : Type 0 where
  pub one : length cs ≡ 1
  pub long : length (names_of p fi) ≡ length (held cs)
  pub left : (f : Func A) → func_at p fi ≡ Some f → with_origins (origins_by (names_of p fi) (held cs)) (drop i (map given_param f.params)) ≡ with_origins none_set (map given_param f.params)

pub none_are : {A : Type 0} (p : Program A) (fi n floor : ℕ) (cs : List CallShadow) → n ≡ length (names_of p fi)
    → cs ≡ record { origins = replicate n origins.Number; floor = floor; receiver = None } ∷ [] → AreSet p fi 0 cs
none_are {A} p fi n floor cs e is =
    let all : held cs ≡ replicate n origins.Number = ap held is in
    record {
      one = ap length is;
      long = let count = length-replicate n origins.Number in let same : length (held cs) ≡ length (replicate n origins.Number) = ap length all in omega (arith, e, count, same);
      left = λ f ef. (λ i. with_origins (origins_by (names_of p fi) (all i)) (map given_param f.params)) ∙ (λ i. with_origins (slots_none (names_of p fi) n i) (map given_param f.params));
    }

held_set : (cs : List CallShadow) (s : Slot) (m : Origin) → length cs ≡ 1 → held (with_held s m cs) ≡ slice_set (held cs) s.index m
held_set [] s m one = absurd (omega (arith, one))
held_set (c ∷ cs) s m one = refl

still_one : (cs : List CallShadow) (s : Slot) (m : Origin) → length (with_held s m cs) ≡ length cs
still_one [] s m = refl
still_one (c ∷ cs) s m = refl

one_in : {A : Type 0} (p : Program A) (fi i : ℕ) (cs : List CallShadow) (s : Slot) (t : AbiType) (f : Func A) (q : Param) → func_at p fi ≡ Some f → AreSet p fi i cs
    → slice_get f.params i ≡ Some q → param_of (temps_named f) q ≡ (s, t)
    → with_origins (origins_by (names_of p fi) (held (with_held s (given t) cs))) (drop (i + 1) (map given_param f.params)) ≡ with_origins none_set (map given_param f.params)
one_in {A} p fi i cs s t f q ef are at is =
    let ns = names_of p fi in
    let same : ns ≡ temps_named f = names_here p fi f ef in
    let slot : slot_in (temps_named f) q.name ≡ s = ap (λ (z : Slot × AbiType). z.0) is in
    let type : q.abi_type ≡ t = ap (λ (z : Slot × AbiType). z.1) is in
    let has : Has ns q.name = subst (λ ms. Has ms q.name) (sym same) (param_has f i q at) in
    let number : number_in ns q.name ≡ s.index = (λ i. number_in (same i) q.name) ∙ ap (λ (z : Slot). z.index) slot in
    let place : place_of ns q.name ≡ Some s.index = has_slot ns q.name has ∙ ap (λ i. Some i) number in
    let rest = drop (i + 1) (map given_param f.params) in
    (λ i. with_origins (origins_by ns (held_set cs s (given t) are.one i)) rest)
    ∙ (λ i. with_origins (slot_set ns (held cs) q.name s.index (given t) are.long place i) rest)
    ∙ (λ i. with_origins (with_origin (origins_by ns (held cs)) q.name (given (sym type i))) rest)
    ∙ (λ j. with_origins (origins_by ns (held cs)) (sym (drop_one (map given_param f.params) i (given_param q) (slice_get-map given_param f.params i ∙ ap (option_map given_param) at)) j))
    ∙ are.left f ef

pub one_set : {A : Type 0} (p : Program A) (fi i : ℕ) (cs now : List CallShadow) (s : Slot) (t : AbiType) → i < length (params_at p fi) → (s, t) ≡ get_or (params_at p fi) i (s, t)
    → now ≡ with_held s (given t) cs → AreSet p fi i cs → AreSet p fi (i + 1) now
one_set {A} p fi i cs now s t below is e are =
    subst (AreSet p fi (i + 1)) (sym e) (record {
      one = still_one cs s (given t) ∙ are.one;
      long = are.long ∙ sym (ap length (held_set cs s (given t) are.one) ∙ length-set (held cs) s.index (given t));
      left = λ f ef.
          let params : params_at p fi ≡ map (param_of (temps_named f)) f.params = ap (λ (o : Option (Func A)). unwrap_or (option_map (λ func. map (param_of (temps_named func)) func.params) o) []) ef in
          let at : slice_get (map (param_of (temps_named f)) f.params) i ≡ Some (s, t) =
          ap (λ ps. slice_get ps i) (sym params) ∙ slice_get-get_or (params_at p fi) i (s, t) below ∙ ap (λ q. Some q) (sym is) in
          let found = mapped_from (param_of (temps_named f)) f.params i (s, t) (slice_get f.params i) refl (sym (slice_get-map (param_of (temps_named f)) f.params i) ∙ at) in
          one_in p fi i cs s t f found.0 ef are found.1 found.2;
    })

frames_one : {A : Type 0} (p : Program A) (fi : ℕ) (cs : List CallShadow) → length cs ≡ 1 → frames_by p (fi ∷ []) cs ≡ origins_by (names_of p fi) (held cs) ∷ []
frames_one p fi [] one = absurd (omega (arith, one))
frames_one p fi (c ∷ cs) one = refl

pub all_set : {A : Type 0} (p : Program A) (fi i : ℕ) (cs : List CallShadow) (f : Func A) → func_at p fi ≡ Some f → length (params_at p fi) ≤ i → AreSet p fi i cs
    → frames_by p (fi ∷ []) cs ≡ with_origins none_set (map given_param f.params) ∷ []
all_set {A} p fi i cs f ef all are =
    let params : params_at p fi ≡ map (param_of (temps_named f)) f.params = ap (λ (o : Option (Func A)). unwrap_or (option_map (λ func. map (param_of (temps_named func)) func.params) o) []) ef in
    let count = ap length params ∙ length-map f.params (param_of (temps_named f)) in
    let same = length-map f.params given_param in
    let none : drop i (map given_param f.params) ≡ [] = drop_all i (map given_param f.params) (omega (arith, all, count, same)) in
    frames_one p fi cs are.one
    ∙ (λ j. with_origins (origins_by (names_of p fi) (held cs)) (sym none j) ∷ [])
    ∙ ap (λ t. t ∷ []) (are.left f ef)

-- ---- as the code has it

pub one_item : {A : Type 0} (p : Program A) (fi i : ℕ) (cs now : List CallShadow) (xs : List (Slot × AbiType)) (q : Slot × AbiType) (m : Origin) → xs ≡ params_at p fi → i < length xs → q ≡ get_or xs i q → m ≡ given q.1
    → now ≡ with_held q.0 m cs → AreSet p fi i cs → AreSet p fi (i + 1) now
one_item {A} p fi i cs now xs q m same below is made e are =
    one_set p fi i cs now q.0 q.1 (subst (λ ys. i < length ys) same below) (is ∙ ap (λ ys. get_or ys i q) same) (e ∙ (λ j. with_held q.0 (made j) cs)) are

-- an item is the one at its place, whatever stands for one that isn't there
pub one_copied : {A : Type 0} (p : Program A) (fi i : ℕ) (cs now : List CallShadow) (xs : List (Slot × AbiType)) (d : Slot × AbiType) (m : Origin) → xs ≡ params_at p fi → i < length xs → m ≡ given (get_or xs i d).1
    → now ≡ with_held (get_or xs i d).0 m cs → AreSet p fi i cs → AreSet p fi (i + 1) now
one_copied p fi i cs now xs d m same below made e are =
    one_item p fi i cs now xs (get_or xs i d) m same below (sym (get_or_from_slice_get xs i (get_or xs i d) (get_or xs i d) (slice_get-get_or xs i d below))) made e are

pub all_items : {A : Type 0} (p : Program A) (fi i : ℕ) (cs : List CallShadow) (xs : List (Slot × AbiType)) (f : Func A) → xs ≡ params_at p fi → length xs ≤ i → func_at p fi ≡ Some f → AreSet p fi i cs
    → frames_by p (fi ∷ []) cs ≡ with_origins none_set (map given_param f.params) ∷ []
all_items p fi i cs xs f same all at are = all_set p fi i cs f at (subst (λ ys. length ys ≤ i) same all) are
