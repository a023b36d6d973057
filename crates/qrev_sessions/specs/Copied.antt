-- What a session over copies of states runs, and the timeline of its run, whichever machine keeps the copies.
use Rattle.std.specs.Prelude.{List, false}
use Rattle.qil_tree.specs.declared.tree.Program.{Program}
use Rattle.qil_semantics.specs.State.{State}
use Rattle.qil_semantics.specs.Timeline.{Timeline}
use Rattle.qil_machine.specs.qil_state.State.{Whole}
use Rattle.qil_flatmachine.specs.declared.copied.Replaying.{Replaying}
use Rattle.qil_checkpoints.specs.Held.{Held, held_timeline}
use Rattle.qil_session.specs.Kept.{Kept, session_state}
use Rattle.qil_session.specs.qil_replies.SessionState.{SessionState}

abbrev pub copied_program : {A M : Type 0} → (M → Whole A) → Held (Replaying M) → Program A
copied_program present h = (present h.machine.machine).program

abbrev pub copied_timeline : {A M : Type 0} → (M → Whole A) → (M → List State) → Held (Replaying M) → Timeline
copied_timeline present kept h = held_timeline (λ r. present r.machine) (λ r. kept r.machine) h

-- the situation of such a session
abbrev pub copied_state : {A M : Type 0} → (M → Whole A) → (M → List State) → Kept (Held (Replaying M)) → SessionState A
copied_state present kept k = session_state false (copied_program present) (copied_timeline present kept) k
