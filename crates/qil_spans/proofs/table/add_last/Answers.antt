-- The function is that of the frame with so many below it.
use Rattle.qil_state.specs.State.{state_of}
use Rattle.qil_spans.proofs.Functions.{last_more}
use Rattle.qil_spans.proofs.table.add_last.Goals as goal

pub returns-clause-items : goal.returns-clause-items
returns-clause-items g c =
    last_more (g.M.Readers.whole c.args.machine.now).program (state_of (g.M.Readers.whole c.args.machine.now)) c.args.begin c.args.inside c.args.below c.func_of-func.result c.args.list.now.items _ c.requires.inside c.func_of-func.ensures.number
    c.push_reserved.ensures.items
