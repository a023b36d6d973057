-- The targets of the phis, then those of the instructions.
use Rattle.qil_resolution.proofs.Defining.{joined}
use Rattle.qil_resolution.proofs.classes.note_block.Goals as goal

pub returns : goal.returns
returns g c = λ x. rw (← c.as_slice.ensures, ← c.as_slice-2.ensures) (joined _ _ _ _ _ x (c.in_ok-note_phis.ensures x) (c.in_ok-note_insts.ensures x))
