-- What is written of both programs; and that a bad one that can't be started isn't run.
use Rattle.qil_semantics.specs.Start.{start_of}
use Rattle.qil_comparison.proofs.Loads.{ok_is_no_fault}
use Rattle.qil_comparison.proofs.loading.start_both.Goals as goal

pub returns-clause-written : goal.returns-clause-written
returns-clause-written g c = λ one two p q good bad ep eq. c.run_ready.ensures.written one two p q good bad ep eq

pub returns-clause-only_started : goal.returns-clause-only_started
returns-clause-only_started g c = λ fault refused.
    let r = c.args.request.now in
    ok_is_no_fault (start_of c.args.bad.now r.func.now r.args.now) fault c.in-Ok.ensures.starts refused
