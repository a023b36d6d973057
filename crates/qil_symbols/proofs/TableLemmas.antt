-- What a table of names says after a name is recorded.
use Rattle.std.proofs.Common.{◌≡◌, ◌∙◌, sym, ap, refl, subst, List, [], ◌∷◌, ◌++◌, ℕ, Option, Some, None, Bool, true, false, if◌then◌else◌, Bor}
use Rattle.std.specs.Option.{option_or}
use Rattle.std.specs.Str.{bytes_eq}
use Rattle.std.specs.HashMap.{HashMap, UpdatesBy}
use Rattle.std.proofs.lemmas.Map.Text.{hash_map_updates_str}
use Rattle.std.proofs.lemmas.Slice.Eq.{bytes_eq-Decides}
use Rattle.std.specs.declared.vec.Vec.{Vec}
use Rattle.qil_symbols.specs.Tables.{value_at, for_name, items_of, values_at}

-- the map with a value for a name
abbrev pub Updated : {V S : Type 0} → HashMap (Bor (List ℕ)) V S → HashMap (Bor (List ℕ)) V S → List ℕ → V → Type 0
Updated m n name v = UpdatesBy (λ x y. bytes_eq x.now y.now) (λ k. bytes_eq name k.now) m n (Some v)

or_none : {X : Type 0} (a : Option X) → option_or a None ≡ a
or_none None = refl
or_none (Some a) = refl

by_test : {X : Type 0} (old : Option X) (a : X) (b : Bool) → (b ≡ true → old ≡ None)
    → (if b then Some a else old) ≡ option_or old (if b then Some a else None)
by_test old a true absent = rw (absent refl)
by_test old a false absent = sym (or_none old)

pub first_recorded : {V S : Type 0} (name : List ℕ) (v : V) (m n : HashMap (Bor (List ℕ)) V S)
    → Updated m n name v → value_at m name ≡ None
    → (x : List ℕ) → value_at n x ≡ option_or (value_at m x) (for_name name v x)
first_recorded name v m n updates absent x =
    hash_map_updates_str name m n (Some v) updates x
    ∙ by_test (value_at m x) v (bytes_eq name x) (λ e. subst (λ y. value_at m y ≡ None) ((bytes_eq-Decides name x).0 e) absent)

-- ---- lists

items_by_test : {V A : Type 0} (old : Option (Vec V A)) (vs : Vec V A) (a : V) (b : Bool) → (b ≡ true → vs.items ≡ items_of old ++ a ∷ [])
    → items_of (if b then Some vs else old) ≡ (if b then items_of old ++ a ∷ [] else items_of old)
items_by_test old vs a true more = more refl
items_by_test old vs a false more = refl

pub one_more : {V A S : Type 0} (name : List ℕ) (a : V) (vs : Vec V A) (m n : HashMap (Bor (List ℕ)) (Vec V A) S)
    → Updated m n name vs → vs.items ≡ values_at m name ++ a ∷ []
    → (x : List ℕ) → values_at n x ≡ (if bytes_eq name x then values_at m x ++ a ∷ [] else values_at m x)
one_more name a vs m n updates more x =
    ap items_of (hash_map_updates_str name m n (Some vs) updates x)
    ∙ items_by_test (value_at m x) vs a (bytes_eq name x) (λ e. subst (λ y. vs.items ≡ values_at m y ++ a ∷ []) ((bytes_eq-Decides name x).0 e) more)

pub one_new : {V A S : Type 0} (name : List ℕ) (a : V) (vs : Vec V A) (m old n : HashMap (Bor (List ℕ)) (Vec V A) S)
    → m ≡ old → Updated m n name vs → None ≡ value_at old name → vs.items ≡ a ∷ []
    → (x : List ℕ) → values_at n x ≡ (if bytes_eq name x then values_at old x ++ a ∷ [] else values_at old x)
one_new name a vs m old n is updates absent one =
    one_more name a vs old n (subst (λ q. Updated q n name vs) is updates) (one ∙ ap (λ o. items_of o ++ a ∷ []) absent)
