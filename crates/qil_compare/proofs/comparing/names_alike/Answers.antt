-- The images are those of the programs that are run.
use Rattle.qil_compare.proofs.Likeness.{alike_as}
use Rattle.qil_compare.proofs.comparing.names_alike.Goals as goal

pub returns : goal.returns
returns g c =
    alike_as c.image_of.result.now c.image_of-2.result.now (g.R.Readers.whole c.args.good.now).program (g.R.Readers.whole c.args.bad.now).program c.named_alike.result c.image_of.ensures c.image_of-2.ensures c.named_alike.ensures
