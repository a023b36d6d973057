-- The next event of a run, as code finds it: after the least number of moves with an event, or at the end, or at the limit.
use Rattle.std.specs.Prelude.{◌≡◌, ℕ, ◌+◌, ◌<◌, ◌≤◌, true, false, List, [], ◌∷◌, drop, Option, Some, None, option_map, unwrap_or}
use Rattle.qil_tree.specs.declared.ops.AbiType.{AbiType}
use Rattle.qil_tree.specs.declared.tree.Program.{Program}
use Rattle.qil_layout.specs.declared.callee.FuncId.{FuncId}
use Rattle.qil_semantics.specs.State.{State, is_final}
use Rattle.qil_semantics.specs.Targets.{after}
use Rattle.qil_semantics.specs.Timeline.{Timeline, moved}
use Rattle.qil_code.specs.Numbered.{func_at}
use Rattle.qil_code.specs.Reading.{returns_at}
use Rattle.qil_state.specs.State.{func_name}
use Rattle.qil_compare.specs.declared.event.Kinds.{Kinds}
use Rattle.qil_compare.specs.declared.event.Told.{Told}
use Rattle.qil_compare.specs.declared.event as code
use Rattle.qil_compare.specs.declared.event.Event.TheVariants as coded
use Rattle.qil_compare.specs.declared.event.Found.{Found}
use Rattle.qil_compare.specs.declared.event.Found.TheVariants as founds
use Rattle.qil_compare.specs.Seen.{Offset, data_place, seen}
use Rattle.qil_compare.specs.Events.{Event, byte_out, written, called, returned, ended, bytes_out, bytes_from, call_name, call_params, end_of, type_of, events_of}

-- ---- an event in code is one of the state behind it

abbrev pub nowhere : Offset
nowhere = record { object = []; bytes = 0 }

-- the type of what the function of a number returns
abbrev pub returns_of : {A : Type 0} → Program A → FuncId → AbiType
returns_of p func = type_of (returns_at p func.index)

abbrev pub event_at : {A : Type 0} → Program A → State → code.Event.Event → Event
event_at p s (coded.Output byte) = byte_out byte
event_at p s (coded.Write a n) = written (unwrap_or (data_place p a) nowhere) (bytes_from s.memory a n)
event_at p s coded.Call = called (call_name s.frames) (call_params p s.frames)
event_at p s (coded.Return func value) = returned (func_name (func_at p func.index)) (option_map (seen p (returns_of p func)) value)
event_at p s (coded.End func) = ended (end_of p (returns_of p func) s.status)

-- of the bytes of output the events that weren't told, where so many bytes were
unfoldable pub untold : Kinds → ℕ → State → List Event
untold kinds told s = bytes_out kinds (drop told s.output)

-- of the events of a step the first is told, and all but it are bytes of output that weren't; or there are none
abbrev pub AreTold : {A : Type 0} → Program A → Kinds → State → List Event → Option Told → Type 0
AreTold p kinds s events None = events ≡ []
AreTold p kinds s events (Some first) = events ≡ event_at p s first.event ∷ untold kinds first.told s

-- ---- a run to the next event

-- the run goes on, and its next step has no event
abbrev pub IsQuiet : {A : Type 0} → Program A → Program A → Kinds → State → Type 0
IsQuiet p other kinds s = (is_final s.status ≡ false) × (events_of p other kinds s ≡ [])

-- so it is for the first k steps from a state
abbrev pub AreSilent : {A : Type 0} → Program A → Program A → Kinds → State → ℕ → Type 0
AreSilent p other kinds s k = (j : ℕ) → j < k → IsQuiet p other kinds (after p s j)

-- why a run ended k moves on from s, in a state, with so many bytes of output told
abbrev pub Ends : {A : Type 0} → Program A → Program A → Kinds → ℕ → State → ℕ → State → ℕ → Found → Type 0
Ends p other kinds limit s k new told (founds.Event e) =
    (i : ℕ) × (k ≡ i + 1) × AreSilent p other kinds s i × (is_final (after p s i).status ≡ false) × (events_of p other kinds (after p s i) ≡ event_at p new e ∷ untold kinds told new)
Ends p other kinds limit s k new told founds.Over = AreSilent p other kinds s k × (is_final new.status ≡ true) × (untold kinds told new ≡ [])
Ends p other kinds limit s k new told founds.Limit = AreSilent p other kinds s k × (k ≡ limit) × (is_final new.status ≡ false) × (untold kinds told new ≡ [])

-- a run from t made k moves to u, no more than the limit, and ended for this
pub record RunsToEvent {A : Type 0} (p other : Program A) (kinds : Kinds) (limit : ℕ) (t u : Timeline) (told : ℕ) (found : Found) : Type 0 where
  pub count : ℕ
  pub moves : u ≡ moved p count t
  pub few : count ≤ limit
  pub ends : Ends p other kinds limit t.now count u.now told found

-- the next event is a byte of output that wasn't told, and no move is made; or there is no such byte, and a run is made
pub data IsNext {A : Type 0} (p other : Program A) (kinds : Kinds) (limit : ℕ) (t u : Timeline) (told told' : ℕ) (found : Found) : Type 0 where
  told_late : (e : code.Event.Event) → (found ≡ founds.Event e) → (u ≡ t) → (untold kinds told t.now ≡ event_at p t.now e ∷ untold kinds told' t.now)
      → IsNext p other kinds limit t u told told' found
  run_on : (untold kinds told t.now ≡ []) → RunsToEvent p other kinds limit t u told' found → IsNext p other kinds limit t u told told' found
