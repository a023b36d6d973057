-- Two innermost frames of one number are of functions of one name.
use Rattle.std.proofs.Common.{sym}
use Rattle.qil_compare.proofs.Likeness.{alike_calls}
use Rattle.qil_compare.proofs.alike.are_alike.Goals as goal

pub returns-in-Some-innermost : goal.returns-in-Some-innermost
returns-in-Some-innermost g c = λ on.
    let at = c.is_alike.ensures on in
    alike_calls (g.M.Readers.whole c.args.left.now).program (g.M.Readers.whole c.args.right.now).program (g.M.Readers.whole c.args.left.now).frames (g.M.Readers.whole c.args.right.now).frames c.in-Some.frame c.in-Some-innermost.second c.func.result.index c.func-in-Some-innermost.result.index c.args.alike
    (sym c.in-Some.ensures.frame) (sym c.in-Some-innermost.ensures.frame) c.func.ensures c.func-in-Some-innermost.ensures c.requires at.0 at.1
