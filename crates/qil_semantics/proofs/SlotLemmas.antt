-- Values in numbered slots, next to their names: what connects numbered code with the maps by name.
use Rattle.std.proofs.Common.{◌≡◌, refl, sym, ap, subst, ℕ, suc, Bool, true, false, if◌then◌else◌, List, [], ◌∷◌, length, Option, Some, None, arith}
use Rattle.std.specs.Prelude.{slice_get, slice_set, option_map, unwrap_or}
use Rattle.std.proofs.lemmas.Slice.Eq.{bytes_eq-Decides}
use Rattle.std.specs.Str.{bytes_eq}
use Rattle.std.specs.Option.{option_or}
use Rattle.qil_semantics.specs.State.{Name, Temps}
use Rattle.qil_semantics.specs.Temps.{with_temp, by_name, overlay}
use Rattle.qil_semantics.specs.Slots.{slot_of, temps_of}

-- ---- writes one after the other are one overlay

-- values written one after the other
pub written : List (Name × ℕ) → Temps → Temps
written [] t = t
written (one ∷ others) t = written others (with_temp t one.0 (Some one.1))

step-overlay : (b : Bool) (v : ℕ) (new : Option ℕ) (old : Option ℕ) → option_or (option_or new (if b then Some v else None)) old ≡ option_or new (if b then Some v else old)
step-overlay true v (Some a) old = refl
step-overlay true v None old = refl
step-overlay false v (Some a) old = refl
step-overlay false v None old = refl

pub written-overlay : (ws : List (Name × ℕ)) (t : Temps) (x : Name) → written ws t x ≡ overlay (by_name ws) t x
unfolding written overlay by_name with_temp
written-overlay [] t x = refl
written-overlay (one ∷ others) t x =
    let e : written others (with_temp t one.0 (Some one.1)) x ≡ overlay (by_name others) (with_temp t one.0 (Some one.1)) x = written-overlay others (with_temp t one.0 (Some one.1)) x in
    rw e (sym (step-overlay (bytes_eq one.0 x) one.1 (by_name others x) (t x)))

-- ---- a slot that is set

none_some : {X Y : Type 0} {x : X} → None ≡ Some x → Y
none_some e = absurd (subst (λ o. elim o as (λ _. Type 0) [ None ↦ Unit {0} | Some y ↦ ⊥ ]) e tt)

from_some : {X : Type 0} (d x y : X) → Some x ≡ Some y → x ≡ y
from_some d x y e = ap (λ o. unwrap_or o d) e

equal_names : (x y : Name) → bytes_eq x y ≡ true → x ≡ y
equal_names x y e = grind (arith, e, bytes_eq-Decides x y)

apart : (n x y : Name) → bytes_eq n x ≡ false → bytes_eq n y ≡ true → bytes_eq x y ≡ false
apart n x y e f = grind (arith, e, f, bytes_eq-Decides n x, bytes_eq-Decides n y, bytes_eq-Decides x y)

set_here : (c : Bool) (w v t : Option ℕ) → (if c then v else t) ≡ (if c then v else (if c then w else t))
set_here true w v t = refl
set_here false w v t = refl

set_deep : (c d : Bool) (w v a t : Option ℕ) → (c ≡ true → d ≡ false) → a ≡ (if d then v else t) → (if c then w else a) ≡ (if d then v else (if c then w else t))
set_deep true d w v a t h e = rw (h refl) refl
set_deep false d w v a t h e = e

abbrev Sets : List Name → List (Option ℕ) → Name → ℕ → Option ℕ → Name → Type 0
Sets ns vs x i v y = temps_of ns (slice_set vs i v) y ≡ with_temp (temps_of ns vs) x v y

at-slot : (n : Name) (ns : List Name) (w : Option ℕ) (vs : List (Option ℕ)) (x : Name) (i : ℕ) (v : Option ℕ) (y : Name) (b : Bool) (o : Option ℕ)
    → bytes_eq n x ≡ b → ((j : ℕ) → o ≡ Some j → Sets ns vs x j v y) → (if b then Some 0 else option_map (λ j. suc j) o) ≡ Some i → Sets (n ∷ ns) (w ∷ vs) x i v y
unfolding temps_of with_temp
at-slot n ns w vs x i v y true o e h g =
    let same : n ≡ x = equal_names n x e in
    subst (λ k. Sets (n ∷ ns) (w ∷ vs) x k v y) (from_some 0 0 i g) (subst (λ z. Sets (n ∷ ns) (w ∷ vs) z 0 v y) same (set_here (bytes_eq n y) w v (temps_of ns vs y)))
at-slot n ns w vs x i v y false None e h g = none_some g
at-slot n ns w vs x i v y false (Some j) e h g =
    subst (λ k. Sets (n ∷ ns) (w ∷ vs) x k v y) (from_some 0 (suc j) i g)
    (set_deep (bytes_eq n y) (bytes_eq x y) w v (temps_of ns (slice_set vs j v) y) (temps_of ns vs y) (λ f. apart n x y e f) (h j refl))

-- setting the slot of a name sets the name
pub temps-set : (ns : List Name) (vs : List (Option ℕ)) (x : Name) (i : ℕ) (v : Option ℕ) (y : Name) → length ns ≡ length vs → slot_of ns x ≡ Some i → Sets ns vs x i v y
unfolding slot_of
temps-set [] vs x i v y l e = none_some e
temps-set (n ∷ ns) [] x i v y l e = absurd (omega (arith, l))
temps-set (n ∷ ns) (w ∷ vs) x i v y l e =
    at-slot n ns w vs x i v y (bytes_eq n x) (slot_of ns x) refl (λ j f. temps-set ns vs x j v y (omega (arith, l)) f) e

-- the value of a name is that of its slot
at-head : (b : Bool) (v : Option ℕ) (rest : Option ℕ) (vs : List (Option ℕ)) (deep : Option ℕ) (i : ℕ)
    → ((j : ℕ) → deep ≡ Some j → slice_get vs j ≡ Some rest)
    → (if b then Some 0 else option_map (λ j. suc j) deep) ≡ Some i → slice_get (v ∷ vs) i ≡ Some (if b then v else rest)
at-head true v rest vs deep i h e = subst (λ k. slice_get (v ∷ vs) k ≡ Some v) (from_some 0 0 i e) refl
at-head false v rest vs None i h e = none_some e
at-head false v rest vs (Some j) i h e = subst (λ k. slice_get (v ∷ vs) k ≡ Some rest) (from_some 0 (suc j) i e) (h j refl)

pub temps-at : (ns : List Name) (vs : List (Option ℕ)) (x : Name) (i : ℕ) → length ns ≡ length vs → slot_of ns x ≡ Some i → slice_get vs i ≡ Some (temps_of ns vs x)
unfolding slot_of temps_of
temps-at [] vs x i l e = none_some e
temps-at (n ∷ ns) [] x i l e = absurd (omega (arith, l))
temps-at (n ∷ ns) (v ∷ vs) x i l e =
    at-head (bytes_eq n x) v (temps_of ns vs x) vs (slot_of ns x) i (λ j f. temps-at ns vs x j (omega (arith, l)) f) e

-- the slot of a name has that name
name-head : (b : Bool) (n x : Name) (ns : List Name) (deep : Option ℕ) (i : ℕ) → (b ≡ true → n ≡ x)
    → ((j : ℕ) → deep ≡ Some j → slice_get ns j ≡ Some x)
    → (if b then Some 0 else option_map (λ j. suc j) deep) ≡ Some i → slice_get (n ∷ ns) i ≡ Some x
name-head true n x ns deep i t h e = subst (λ k. slice_get (n ∷ ns) k ≡ Some x) (from_some 0 0 i e) (ap (λ y. Some y) (t refl))
name-head false n x ns None i t h e = none_some e
name-head false n x ns (Some j) i t h e = subst (λ k. slice_get (n ∷ ns) k ≡ Some x) (from_some 0 (suc j) i e) (h j refl)

pub name-at : (ns : List Name) (x : Name) (i : ℕ) → slot_of ns x ≡ Some i → slice_get ns i ≡ Some x
unfolding slot_of
name-at [] x i e = none_some e
name-at (n ∷ ns) x i e = name-head (bytes_eq n x) n x ns (slot_of ns x) i (λ t. equal_names n x t) (λ j f. name-at ns x j f) e
