-- What is kept of readings, so that they can be compared after a move.
use Rattle.std.specs.Prelude.{◌≡◌, ℕ, ◌<◌, List, length, Option, Some, None, option_map, slice_get, get_or}
use Rattle.qil_tree.specs.declared.tree.Func.{Func}
use Rattle.qil_tree.specs.declared.tree.Program.{Program}
use Rattle.qil_layout.specs.Layout.{low_bytes}
use Rattle.qil_memory.specs.Bytes.{number}
use Rattle.qil_memory.specs.Live.{read}
use Rattle.qil_semantics.specs.State.{Name, State}
use Rattle.qil_semantics.specs.Stops.{temp_in, reading, value_reading}
use Rattle.qil_history.specs.qil_code.Numbered.{func_at, names_of}
use Rattle.qil_stops.specs.declared.stop.Watched.{Watched}
use Rattle.qil_stops.specs.declared.stop.Watched.TheVariants.{Bytes, Temp}
use Rattle.qil_stops.specs.declared.stop.StopKind.{StopKind}
use Rattle.qil_stops.specs.declared.stop.StopKind.TheVariants.{Break, Watch}
use Rattle.qil_stops.specs.declared.stop.NumberedStop.{NumberedStop}

-- the number of n bytes, whose low bytes they are; or none, where they aren't all live
pub record TellsBytes (there : Option (List ℕ)) (n : ℕ) (v : Option ℕ) : Type 0 where
  pub spelled : v ≡ option_map number there
  pub bytes : option_map (low_bytes n) v ≡ there

-- the value of a temporary; or none, where it is unset or the program lacks it
pub record TellsTemp {A : Type 0} (p : Program A) (f x : ℕ) (s : State) (v : Option ℕ) : Type 0 where
  pub named : (func : Func A) (name : Name) → func_at p f ≡ Some func → slice_get (names_of p f) x ≡ Some name → value_reading v ≡ reading (temp_in func.name name) s
  pub unknown : slice_get (names_of p f) x ≡ None → v ≡ None

-- v is what is kept of what a stop reads in a state
abbrev pub TellsWatched : {A : Type 0} → Program A → State → Watched → Option ℕ → Type 0
TellsWatched p s (Bytes a n) v = TellsBytes (read s.memory a n) n v
TellsWatched p s (Temp func slot) v = TellsTemp p func.index slot.index s v

abbrev pub Tells : {A : Type 0} → Program A → State → StopKind → Option ℕ → Type 0
Tells p s (Break place) v = v ≡ None
Tells p s (Watch watched) v = TellsWatched p s watched v

-- each value is what is kept of the reading of the stop that is at its place
abbrev pub AllTell : {A : Type 0} → Program A → State → List NumberedStop → List (Option ℕ) → Type 0
AllTell p s stops values = (i : ℕ) (d : NumberedStop) → i < length stops → Tells p s (get_or stops i d).kind (get_or values i None)
