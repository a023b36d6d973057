-- Two bytes of output are one event where they are one number.
use Rattle.qil_state.specs.State.{state_of}
use Rattle.qil_compare.proofs.Sameness.{same_output}
use Rattle.qil_compare.proofs.same.same_event.Goals as goal

pub returns-in-Output-other : goal.returns-in-Output-other
returns-in-Output-other g c =
    same_output (g.M.Readers.whole c.args.left.now).program (g.M.Readers.whole c.args.right.now).program (state_of (g.M.Readers.whole c.args.left.now)) (state_of (g.M.Readers.whole c.args.right.now)) c.args.one c.args.other
    c.in-Output.byte c.in-Output-other.second c.in-Output.is c.in-Output-other.is
