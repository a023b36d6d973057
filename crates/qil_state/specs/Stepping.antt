-- What a running state does before a fault is settled, by what is at its place.
use Rattle.std.specs.Prelude.{ℕ, List, [], ◌∷◌, Option, Some, None, Ok}
use Rattle.qil_tree.specs.declared.tree.InstKind.{InstKind}
use Rattle.qil_tree.specs.declared.tree.JumpKind.{JumpKind}
use Rattle.qil_tree.specs.declared.tree.Func.{Func}
use Rattle.qil_tree.specs.declared.tree.Program.{Program}
use Rattle.qil_rules.specs.Operands.{inst_reads}
use Rattle.qil_semantics.specs.State as meaning
use Rattle.qil_semantics.specs.State.{Name, State}
use Rattle.qil_semantics.specs.Values.{Outcome, ◌>>=◌, vals}
use Rattle.qil_semantics.specs.Step.{act, in_func, func_named, goes, leave, returns}
use Rattle.qil_code.specs.declared.numbered.Edge.{Edge}
use Rattle.qil_code.specs.declared.numbered.NumberedInst.{NumberedInst}
use Rattle.qil_code.specs.declared.numbered.NumberedJump.{NumberedJump}
use Rattle.qil_code.specs.Slots.{name_at}
use Rattle.qil_code.specs.Named.{named_inst, named_jump}
use Rattle.qil_state.specs.State.{Whole, state_of, frames_state, head_names, head_func, head_labels}

-- what comes of a step of a running state
abbrev pub stepped : {A : Type 0} → Program A → State → List meaning.Frame → Outcome State
stepped p s [] = Ok s
stepped p s (f ∷ fs) = in_func p s f fs (func_named p.funcs f.func)

-- what comes of an instruction there
abbrev pub performed : {A : Type 0} → Program A → State → List meaning.Frame → InstKind A → Outcome State
performed p s [] kind = Ok s
performed p s (f ∷ fs) kind = vals p f.temps (inst_reads kind) >>= act p s f fs kind

-- what comes of a jump of a function there
abbrev pub left : {A : Type 0} → Program A → State → List meaning.Frame → Option (Func A) → JumpKind → Outcome State
left p s [] func jump = Ok s
left p s (f ∷ fs) None jump = Ok s
left p s (f ∷ fs) (Some func) jump = leave p s f fs func jump

-- what comes of going to a label of a function
abbrev pub went : {A : Type 0} → Program A → State → List meaning.Frame → Option (Func A) → Name → Outcome State
went p s [] func l = Ok s
went p s (f ∷ fs) None l = Ok s
went p s (f ∷ fs) (Some func) l = goes p s f fs func l

-- what comes of a return
abbrev pub returned : State → List meaning.Frame → Option ℕ → Outcome State
returned s [] value = Ok s
returned s (f ∷ fs) value = returns s f fs value

-- ---- of all that a machine holds

abbrev pub stepped_whole : {A : Type 0} → Whole A → Outcome State
stepped_whole w = stepped w.program (state_of w) (frames_state w.program w.frames)

abbrev pub performed_whole : {A : Type 0} → Whole A → NumberedInst A → Outcome State
performed_whole w inst = performed w.program (state_of w) (frames_state w.program w.frames) (named_inst (head_names w.program w.frames) inst)

abbrev pub left_whole : {A : Type 0} → Whole A → NumberedJump A → Outcome State
left_whole w jump =
    left w.program (state_of w) (frames_state w.program w.frames) (head_func w.program w.frames) (named_jump (head_names w.program w.frames) (head_labels w.program w.frames) jump)

abbrev pub went_whole : {A : Type 0} → Whole A → Edge A → Outcome State
went_whole w e = went w.program (state_of w) (frames_state w.program w.frames) (head_func w.program w.frames) (name_at (head_labels w.program w.frames) e.to.index)

abbrev pub returned_whole : {A : Type 0} → Whole A → Option ℕ → Outcome State
returned_whole w value = returned (state_of w) (frames_state w.program w.frames) value
