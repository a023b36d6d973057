-- A machine's frames are those of the state that it represents.
use Rattle.std.proofs.Common.{◌∙◌}
use Rattle.qil_compare.proofs.Happening.{as_many}
use Rattle.qil_compare.proofs.ahead.depth.Goals as goal

pub returns : goal.returns
returns g c =
    let w = g.M.Readers.whole c.args.machine.now in
    c.depth.ensures ∙ as_many w.program w.frames
