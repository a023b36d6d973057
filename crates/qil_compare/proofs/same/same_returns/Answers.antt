-- The images are those of the machines' programs.
use Rattle.std.proofs.Common.{sym}
use Rattle.qil_compare.proofs.Likeness.{alike_as}
use Rattle.qil_compare.proofs.same.same_returns.Goals as goal

pub same_names-requires : goal.same_names-requires
same_names-requires g c =
    alike_as (g.M.Readers.whole c.args.left.now).program (g.M.Readers.whole c.args.right.now).program c.image_of.result.now c.image_of-2.result.now c.args.alike (sym c.image_of.ensures) (sym c.image_of-2.ensures) c.requires
