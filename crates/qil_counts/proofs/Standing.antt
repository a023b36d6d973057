-- Where a machine stands, by numbers and by names.
use Rattle.std.proofs.Common.{◌≡◌, refl, sym, ◌∙◌, ◌==◌, ◌&&◌, Bool, true, false, List, [], ◌∷◌, Some, None}
use Rattle.std.specs.Prelude.{not, slice_get}
use Rattle.std.proofs.lemmas.Bool.{true≢false}
use Rattle.qil_tree.specs.declared.tree.Program.{Program}
use Rattle.qil_semantics.specs.State.{Name, is_final}
use Rattle.qil_semantics.specs.Stops as meaning
use Rattle.qil_semantics.specs.Stops.{innermost_at, is_at}
use Rattle.qil_code.specs.Facts.{Finds, NumbersBlocks}
use Rattle.qil_frames.specs.Frames.{SlotFrame}
use Rattle.qil_state.specs.declared.status.Status.{Status}
use Rattle.qil_state.specs.declared.status.Status.TheVariants.{Running, Done, Exited, Faulted}
use Rattle.qil_state.specs.Faults.{status_of}
use Rattle.qil_state.specs.State.{Whole, IsMachine, state_of, frames_state, func_name, head_names, label_in}
use Rattle.qil_state.proofs.Place.{none_some}
use Rattle.qil_machine.specs.Readings.{stands_at}
use Rattle.qil_machine.proofs.Standing.{is_standing}
use Rattle.qil_counts.specs.declared.count.CodePlace.{CodePlace}
use Rattle.qil_counts.specs.Counts.{IsHere, same_place}

runs : (ns : List Name) (st : Status) → is_final (status_of ns st) ≡ false → st ≡ Running
runs ns Running e = refl
runs ns (Done v) e = absurd (true≢false e)
runs ns (Exited w) e = absurd (true≢false e)
runs ns (Faulted f) e = absurd (true≢false e)

pub is_here : {A : Type 0} (w : Whole A) (q : Program A) (f : SlotFrame) (place : CodePlace) → q ≡ w.program → IsMachine w → slice_get w.frames 0 ≡ Some f → Finds q → NumbersBlocks q
    → place.func.index ≡ f.func → place.block.index ≡ f.block → place.index ≡ f.index → is_final (state_of w).status ≡ false → IsHere w.program (state_of w) (Some place)
is_here {A} w q f place program ok first finds numbers ef eb ek goes = λ other func block hf hb.
    let stands : same_place place other ≡ stands_at other.func.index other.block.index other.index f =
    λ i. (ef i == other.func.index) && ((eb i == other.block.index) && ek i == other.index) in
    is_standing w w q f other.func.index other.block.index other.index func block (same_place place other) refl ok program (runs (head_names w.program w.frames) w.status goes) first finds numbers stands hf hb
    ∙ (λ i. is_at (record { func = func_name (sym hf i); label = label_in (sym hb i); index = other.index }) (state_of w))

no_frame : {A : Type 0} (p : Program A) (fs : List SlotFrame) (b : Bool) (place : meaning.Place) → slice_get fs 0 ≡ None → false ≡ (b && innermost_at place (frames_state p fs))
no_frame p [] true place none = refl
no_frame p [] false place none = refl
no_frame p (f ∷ fs) b place none = none_some (sym none)

pub is_nowhere : {A : Type 0} (w : Whole A) → slice_get w.frames 0 ≡ None → IsHere w.program (state_of w) None
is_nowhere {A} w none = λ other func block hf hb. no_frame w.program w.frames (not (is_final (state_of w).status)) _ none
