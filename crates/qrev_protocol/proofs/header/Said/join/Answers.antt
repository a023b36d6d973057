-- What one line more says.
use Rattle.qrev_protocol.proofs.Heads.{said_still, said_now, said_both}
use Rattle.qrev_protocol.proofs.header.Said.join.Goals as goal

pub returns-in_default-Nothing : goal.returns-in_default-Nothing
returns-in_default-Nothing c = λ lines line said reads. said_still c.args.self lines line said (rw c.in_default-Nothing.is-1 at reads)

pub returns-in-Nothing-default : goal.returns-in-Nothing-default
returns-in-Nothing-default c = λ lines line said reads. said_now c.args.next lines line (rw c.in-Nothing-default.is-0 at said) reads

pub returns-in_default : goal.returns-in_default
returns-in_default c = λ lines line said reads. said_both c.args.self c.args.next lines line c.in_default.not-Nothing-0 c.in_default.not-Nothing-1 said reads
