-- The parameters, then the targets of the blocks, over an empty table.
use Rattle.std.proofs.Common.{◌∙◌}
use Rattle.qil_resolution.proofs.Defining.{joined}
use Rattle.qil_resolution.proofs.classes.definitions_of.Goals as goal

pub returns : goal.returns
returns g c = λ x. joined _ _ _ _ _ x (c.in_ok-note_params.ensures x) (c.in_ok-note_blocks.ensures x) ∙ rw (c.new-table.ensures x, c.as_slice.ensures, c.as_slice-2.ensures)
