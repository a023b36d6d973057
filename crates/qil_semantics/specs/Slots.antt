-- Values in numbered slots, next to the names of these: for code that numbers its temporaries.
use Rattle.std.specs.Prelude.{ℕ, suc, if◌then◌else◌, List, [], ◌∷◌, Option, Some, None, option_map}
use Rattle.std.specs.Str.{bytes_eq}
use Rattle.qil_semantics.specs.State.{Name, Temps}

-- the slot of a name, the first of that name
unfoldable pub slot_of : List Name → Name → Option ℕ
slot_of [] x = None
slot_of (n ∷ ns) x = if bytes_eq n x then Some 0 else option_map (λ i. suc i) (slot_of ns x)

-- the values of the temporaries of these names
unfoldable pub temps_of : List Name → List (Option ℕ) → Temps
temps_of [] vs x = None
temps_of (n ∷ ns) [] x = None
temps_of (n ∷ ns) (v ∷ vs) x = if bytes_eq n x then v else temps_of ns vs x
