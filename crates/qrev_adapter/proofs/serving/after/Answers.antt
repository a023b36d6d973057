-- Another session may be opened, or the editor left.
use Rattle.qrev_notices.proofs.Standing.{answered_idle}
use Rattle.qrev_adapter.proofs.Hearing.{closed_broken}
use Rattle.qrev_adapter.proofs.serving.after.Goals as goal

pub returns-in-Terminated : goal.returns-in-Terminated
returns-in-Terminated g c = λ start now h. answered_idle start now (rw c.in-Terminated.is at h)

pub returns-in-Left : goal.returns-in-Left
returns-in-Left g c = λ start now h. rw c.in-Left.is at h

pub returns : goal.returns
returns g c = λ start now h. closed_broken c.args.closed start now h
