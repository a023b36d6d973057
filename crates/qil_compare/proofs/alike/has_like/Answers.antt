-- Of the functions that are alike the other program has each.
use Rattle.qil_compare.proofs.Likeness.{like_known}
use Rattle.qil_compare.proofs.alike.has_like.Goals as goal

pub returns-then-func-alike : goal.returns-then-func-alike
returns-then-func-alike g c = like_known c.args.image.now c.args.code.now c.args.func.index c.args.alike c.requires c.if-func-alike.true
