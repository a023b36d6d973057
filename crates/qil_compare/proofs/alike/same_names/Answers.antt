-- Two functions of one number that are alike have one name.
use Rattle.qil_compare.proofs.Likeness.{alike_names}
use Rattle.qil_compare.proofs.Sameness.{yes_same}
use Rattle.qil_compare.proofs.alike.same_names.Goals as goal

pub returns-then-is_alike : goal.returns-then-is_alike
returns-then-is_alike g c =
    let at = c.is_alike.ensures c.if-is_alike.true in
    yes_same (alike_names c.args.image.now c.args.other.now c.args.func.index c.args.second.index c.args.alike c.requires at.0 at.1)
