-- Answers to the goals of `put_standing`.
use Rattle.std.proofs.Common.{rules}
use Rattle.qil_render.proofs.Here.{standing_none, standing_some}
use Rattle.qil_render.proofs.place.put_standing.Goals as goal

pub returns-in_default : goal.returns-in_default
returns-in_default g c =
    rw (standing_none (g.M.Readers.whole c.args.machine.now).program (g.M.Readers.whole c.args.machine.now).frames c.args.position c.in_default.ensures.frame) (search rules)

pub returns : goal.returns
returns g c =
    rw (standing_some (g.M.Readers.whole c.args.machine.now).program (g.M.Readers.whole c.args.machine.now).frames c.in-Some.frame c.args.position c.in-Some.ensures.frame) (search rules)
