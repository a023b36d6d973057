-- Stops: what a watch reads, when a breakpoint holds, and which of the stops holds first.
use Rattle.std.specs.Prelude.{ℕ, Bool, true, false, not, ◌==◌, ◌&&◌, ◌<◌, List, [], ◌∷◌, find, Option, Some, None, option_map}
use Rattle.std.specs.Option.{option_or}
use Rattle.std.specs.Str.{bytes_eq}
use Rattle.qil_memory.specs.Live.{read}
use Rattle.qil_semantics.specs.State.{Name, Frame, State, is_final}
use Rattle.qil_semantics.specs.declared.reason.Reason.{Reason}
use Rattle.qil_semantics.specs.declared.reason.Reason.TheVariants.{Watch, Break}

-- ---- readings

-- what a watch looks at: n bytes from an address on, or a temporary of a function
pub data Watched : Type 0 where
  memory_at : ℕ → ℕ → Watched
  temp_in : Name → Name → Watched

pub data Reading : Type 0 where
  dead unset : Reading
  bytes_read : List ℕ → Reading
  value_read : ℕ → Reading

abbrev pub bytes_reading : Option (List ℕ) → Reading
bytes_reading None = dead
bytes_reading (Some bs) = bytes_read bs

abbrev pub value_reading : Option ℕ → Reading
value_reading None = unset
value_reading (Some v) = value_read v

-- where the function has no frame, its temporaries are unset
abbrev pub temp_reading : Name → Option Frame → Reading
temp_reading x None = unset
temp_reading x (Some f) = value_reading (f.temps x)

-- what a watch reads: of a function the innermost frame
unfoldable pub reading : Watched → State → Reading
reading (memory_at a n) s = bytes_reading (read s.memory a n)
reading (temp_in func x) s = temp_reading x (find (λ f. bytes_eq f.func func) s.frames)

abbrev pub same_reading : Reading → Reading → Bool
same_reading dead dead = true
same_reading unset unset = true
same_reading (bytes_read bs) (bytes_read cs) = bytes_eq bs cs
same_reading (value_read v) (value_read w) = v == w
same_reading r q = false

-- ---- breakpoints

pub record Place : Type 0 where
  pub func : Name
  pub label : Name
  pub index : ℕ

abbrev pub place_of : Frame → Place
place_of f = record { func = f.func; label = f.label; index = f.index }

abbrev pub same_place : Place → Place → Bool
same_place a b = bytes_eq a.func b.func && (bytes_eq a.label b.label && a.index == b.index)

abbrev pub innermost_at : Place → List Frame → Bool
innermost_at place [] = false
innermost_at place (f ∷ fs) = same_place (place_of f) place

-- the run goes on, and its innermost frame is at that place
abbrev pub is_at : Place → State → Bool
is_at place s = not (is_final s.status) && innermost_at place s.frames

-- ---- stops, by number

pub data Stop : Type 0 where
  break_at : Place → Stop
  watch : Watched → Stop

pub record Numbered : Type 0 where
  pub number : ℕ
  pub stop : Stop

-- each number is above the one before
abbrev pub AreListed : ℕ → List Numbered → Type 0
AreListed low [] = Unit {0}
AreListed low (one ∷ others) = (low < one.number) × AreListed one.number others

-- a watch that reads otherwise in one state than in another
abbrev pub differs : State → State → Stop → Bool
differs old new (watch w) = not (same_reading (reading w old) (reading w new))
differs old new (break_at place) = false

-- a breakpoint that holds
abbrev pub is_held : State → Stop → Bool
is_held s (break_at place) = is_at place s
is_held s (watch w) = false

-- stops are listed by number, so the first one found has the lowest
unfoldable pub first_watch : State → State → List Numbered → Option ℕ
first_watch old new stops = option_map (λ one. one.number) (find (λ one. differs old new one.stop) stops)

unfoldable pub first_break : State → List Numbered → Option ℕ
first_break s stops = option_map (λ one. one.number) (find (λ one. is_held s one.stop) stops)

-- the first stop that holds at a state that is come to from a neighbouring one: a watch before a breakpoint
unfoldable pub stopped : List Numbered → State → State → Option Reason
stopped stops old new = option_or (option_map Watch (first_watch old new stops)) (option_map Break (first_break new stops))
