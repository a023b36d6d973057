-- Where the innermost frame is.
use Rattle.std.proofs.Common.{◌∙◌, sym}
use Rattle.qil_counts.proofs.Standing.{is_here}
use Rattle.qil_counts.proofs.here.place_here.Goals as goal

pub returns : goal.returns
returns g c = λ goes.
    is_here (g.M.Readers.whole c.args.machine.now) c.code_of.result.now c.in-Some.frame (record { func = c.func.result; block = c.block.result; index = c.from.result }) c.code_of.ensures c.in-Some.ensures.machine (sym c.in-Some.ensures.frame)
    c.names_are_distinct.ensures.finds c.names_are_distinct.ensures.numbers c.func.ensures c.block.ensures (c.from.ensures ∙ c.index.ensures) goes
