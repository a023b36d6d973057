-- What a table of places says after a name is recorded.
use Rattle.std.proofs.Common.{◌≡◌, ◌∙◌, sym, refl, subst, List, ℕ, Option, Some, None, Bool, true, false, if◌then◌else◌, Bor}
use Rattle.std.specs.Option.{option_or}
use Rattle.std.specs.Str.{bytes_eq}
use Rattle.std.specs.HashMap.{UpdatesBy}
use Rattle.std.proofs.lemmas.Map.Text.{hash_map_updates_str}
use Rattle.std.proofs.lemmas.Slice.Eq.{bytes_eq-Decides}
use Rattle.indexmap.specs.IndexMap.{IndexMap}
use Rattle.qil_symbols.specs.Tables.{for_name}
use Rattle.qil_checker.specs.Tables.{place_in}

or_none : {X : Type 0} (a : Option X) → option_or a None ≡ a
or_none None = refl
or_none (Some a) = refl

by_test : {X : Type 0} (old : Option X) (a : X) (b : Bool) → (b ≡ true → old ≡ None)
    → (if b then Some a else old) ≡ option_or old (if b then Some a else None)
by_test old a true absent = rw (absent refl)
by_test old a false absent = sym (or_none old)

pub first_recorded : {S : Type 0} (name : List ℕ) (v : ℕ) (m n : IndexMap (Bor (List ℕ)) ℕ S)
    → UpdatesBy (λ x y. bytes_eq x.now y.now) (λ k. bytes_eq name k.now) m n (Some v) → place_in m name ≡ None
    → (x : List ℕ) → place_in n x ≡ option_or (place_in m x) (for_name name v x)
first_recorded name v m n updates absent x =
    hash_map_updates_str name m n (Some v) updates x
    ∙ by_test (place_in m x) v (bytes_eq name x) (λ e. subst (λ y. place_in m y ≡ None) ((bytes_eq-Decides name x).0 e) absent)
