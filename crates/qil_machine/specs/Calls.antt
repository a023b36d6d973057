-- What comes of a call on the values of its arguments.
use Rattle.std.specs.Prelude.{◌≡◌, ℕ, zero, suc, ◌+◌, ◌<◌, ◌≤◌, ◌^◌, List, [], ◌∷◌, ◌++◌, length, map, Option, Some, None, unwrap_or, option_map, IsSome, Result, Ok, Err}
use Rattle.std.specs.List.{All}
use Rattle.qil_tree.specs.declared.ops.AbiType.{AbiType}
use Rattle.qil_tree.specs.declared.tree.Argument.{Argument}
use Rattle.qil_tree.specs.declared.tree.CallResult.{CallResult}
use Rattle.qil_tree.specs.declared.tree.Program.{Program}
use Rattle.qil_layout.specs.declared.callee.Callee.{Callee}
use Rattle.qil_layout.specs.declared.callee.Callee.TheVariants.{Defined, PutChar, Puts, Exit}
use Rattle.qil_memory.specs.Live.{Live, live}
use Rattle.qil_semantics.specs.State as meaning
use Rattle.qil_semantics.specs.State.{Name, State}
use Rattle.qil_semantics.specs.Values.{Outcome}
use Rattle.qil_semantics.specs.Calls.{in_shape, call_at, text_at}
use Rattle.qil_code.specs.declared.numbered.NumberedArgument.{NumberedArgument}
use Rattle.qil_code.specs.declared.numbered.Receiver.{Receiver}
use Rattle.qil_code.specs.Named.{named_argument, named_receiver}
use Rattle.qil_code.specs.Numbered.{func_at}
use Rattle.qil_code.specs.Ranges.{InRange}
use Rattle.qil_frames.specs.Frames.{SlotFrame, on_innermost, at_index}
use Rattle.qil_state.specs.declared.status.Fault.{Fault}
use Rattle.qil_state.specs.Faults.{fault_of}
use Rattle.qil_state.specs.State.{Whole, state_of, frames_state, head_names}
use Rattle.qil_state.specs.Values.{argument_values}
use Rattle.qil_state.specs.Beginning.{passed_values}
use Rattle.qil_machine.specs.Results.{gives}

-- the innermost frame has all slots that arguments name
abbrev pub HasArguments : List SlotFrame → List NumberedArgument → Type 0
HasArguments [] args = ⊥
HasArguments (f ∷ fs) args = All (λ a. InRange (length f.slots) a.source) args

-- a function of the program is one that it has
abbrev pub IsThere : {A : Type 0} → Program A → Callee → Type 0
IsThere p (Defined func) = IsSome (func_at p func.index)
IsThere p PutChar = Unit {0}
IsThere p Puts = Unit {0}
IsThere p Exit = Unit {0}

-- the values of arguments in the innermost frame, each in the class of its type
abbrev pub head_values : List SlotFrame → List NumberedArgument → List ℕ
head_values [] args = []
head_values (f ∷ fs) args = argument_values f.slots args

-- what arguments pass out of the innermost frame
abbrev pub head_passed : List SlotFrame → List NumberedArgument → List ℕ
head_passed [] args = []
head_passed (f ∷ fs) args = passed_values f.slots args

-- what comes of a call of what lies at an address
abbrev pub called : {A : Type 0} → Program A → State → List meaning.Frame → Option CallResult → List Argument → ℕ → List ℕ → Option Callee → Outcome State
called p s [] to args a vs callee = Ok s
called p s (f ∷ fs) to args a vs callee = call_at p s f fs to args a vs callee

abbrev pub called_whole : {A : Type 0} → Whole A → Option Receiver → List NumberedArgument → ℕ → Option Callee → Outcome State
called_whole w to args a callee =
    called w.program (state_of w) (frames_state w.program w.frames) (option_map (named_receiver (head_names w.program w.frames)) to)
    (map (named_argument (head_names w.program w.frames)) args) a (head_values w.frames args) callee

-- ---- functions that take one argument

abbrev pub reported_one : List Name → Result ℕ Fault → Outcome (List ℕ)
reported_one ns (Ok v) = Ok (v ∷ [])
reported_one ns (Err why) = Err (fault_of ns why)

-- what comes of the arguments where a function takes one of a type, whatever the names
abbrev pub TakesOne : List (Option ℕ) → AbiType → Option AbiType → Option Receiver → List NumberedArgument → Result ℕ Fault → Type 0
TakesOne slots t returns to args r =
    (ns : List Name) → reported_one ns r
    ≡ in_shape (record { params = t ∷ []; returns = returns }) (option_map (named_receiver ns) to) (map (named_argument ns) args) (argument_values slots args)

-- ---- texts

-- n bytes from an address on
abbrev pub bytes_from : Live → ℕ → ℕ → List ℕ
bytes_from m a zero = []
bytes_from m a (suc n) = bytes_from m a n ++ unwrap_or (m (a + n)) 0 ∷ []

-- none of them is dead
abbrev pub AreLive : Live → ℕ → ℕ → Type 0
AreLive m a n = (i : ℕ) → i < n → m (a + i) ≡ None → ⊥

-- the machine after the text at an address was written, and the byte 10 after it
abbrev pub PutsText : {A : Type 0} → ℕ → ℕ → Option Receiver → Whole A → Whole A → Type 0
PutsText a index to new old =
    (n : ℕ) × (text_at (live old.memory) a ≡ Ok (bytes_from (live old.memory) a n)) × (length old.output + (n + 1) ≤ 2 ^ 20)
    × (new ≡ record old { frames = on_innermost (at_index (index + 1)) (gives to (Some 0) old.frames); output = old.output ++ (bytes_from (live old.memory) a n ++ 10 ∷ []) })
