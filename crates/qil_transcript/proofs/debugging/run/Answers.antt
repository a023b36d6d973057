-- Answers to the goals of `run`.
use Rattle.std.specs.Prelude.{None}
use Rattle.qil_session.specs.Kept.{session_state}
use Rattle.qil_transcript.proofs.DebugLemmas.{Written-ended, Written-too_long, Written-read, Written-write, Written-load, opened_with, stopped_heading}
use Rattle.qil_transcript.proofs.debugging.run.Goals as goal

pub returns-in-Err-clause-written : goal.returns-in-Err-clause-written
returns-in-Err-clause-written g c = λ s verdict start begins loaded e.
    Written-load s verdict start _ None _ _ begins
    (stopped_heading s verdict start (session_state g.H.Runs.wants_memory g.H.Runs.program g.H.Runs.timeline c.args.session) _ _ e (c.in-Err.ensures.text verdict loaded))

pub returns-in-Ok-serve_lines-clause-written : goal.returns-in-Ok-serve_lines-clause-written
returns-in-Ok-serve_lines-clause-written g c = λ s verdict start begins loaded e.
    let first = session_state g.H.Runs.wants_memory g.H.Runs.program g.H.Runs.timeline c.args.session in
    Written-ended {T = Unit {0}} tt s verdict start first _ None _ _ _ _ (opened_with s verdict start first _ _ begins e (c.in-Ok.ensures.text verdict loaded)) c.in-Ok-serve_lines.ensures.served

pub returns-in-Err-Read-clause-written : goal.returns-in-Err-Read-clause-written
returns-in-Err-Read-clause-written g c = λ s verdict start begins loaded e.
    let first = session_state g.H.Runs.wants_memory g.H.Runs.program g.H.Runs.timeline c.args.session in
    Written-read (Unit {0}) s verdict start first _ _ _ _ _ _ (opened_with s verdict start first _ _ begins e (c.in-Ok.ensures.text verdict loaded))
    (rw c.in-Err-Read.field-0-is at c.in-Err-Read.ensures.served)

pub returns-in-Err-Write-clause-written : goal.returns-in-Err-Write-clause-written
returns-in-Err-Write-clause-written g c = λ s verdict start begins loaded e.
    let first = session_state g.H.Runs.wants_memory g.H.Runs.program g.H.Runs.timeline c.args.session in
    Written-write (Unit {0}) s verdict start first _ None _ _ _ _ (opened_with s verdict start first _ _ begins e (c.in-Ok.ensures.text verdict loaded))
    (rw c.in-Err-Write.field-0-is at c.in-Err-Write.ensures.served)

pub returns-clause-written : goal.returns-clause-written
returns-clause-written g c = λ s verdict start begins loaded e.
    let first = session_state g.H.Runs.wants_memory g.H.Runs.program g.H.Runs.timeline c.args.session in
    Written-too_long (Unit {0}) s verdict start first _ None _ _ _ _ (opened_with s verdict start first _ _ begins e (c.in-Ok.ensures.text verdict loaded))
    (rw c.in-Err-TooLong.field-0-is at c.in-Err-TooLong.ensures.served)
