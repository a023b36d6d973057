-- Two faults are told apart by their causes.
use Rattle.qil_state.specs.State.{head_names}
use Rattle.qil_compare.specs.Next.{returns_of}
use Rattle.qil_compare.proofs.Sameness.{faulted_same}
use Rattle.qil_compare.proofs.same.same_ends.Goals as goal

pub returns-in-Faulted-status : goal.returns-in-Faulted-status
returns-in-Faulted-status g c =
    let m = g.M.Readers.whole c.args.left.now in
    let w = g.M.Readers.whole c.args.right.now in
    faulted_same m.program w.program (returns_of m.program c.args.func) (returns_of w.program c.args.second) (head_names m.program m.frames) (head_names w.program w.frames) m.status w.status c.in-Faulted.fault c.in-Faulted-status.other
    c.same_faults.result c.in-Faulted.ensures c.in-Faulted-status.ensures c.same_faults.ensures
