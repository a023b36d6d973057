-- The machine starts in the one state in which the program does.
use Rattle.std.specs.Prelude.{None, Some, true}
use Rattle.std.proofs.Common.{refl}
use Rattle.qil_state.specs.State.{state_of}
use Rattle.qil_semantics.specs.Start.{start_of}
use Rattle.qil_semantics.specs.Timeline.{begun}
use Rattle.qil_comparison.specs.Compared.{session_on}
use Rattle.qil_comparison.proofs.Comparisons.{unserved, few_none}
use Rattle.qil_comparison.proofs.Reporting.{goes_as, served_whole, one_start}
use Rattle.qil_comparison.proofs.sessions.serve_newest.Goals as goal

pub serve_records-requires-clause-goes : goal.serve_records-requires-clause-goes
serve_records-requires-clause-goes g c = goes_as c.in-Ok.machine c.in-Ok.machine c.args.code.now c.args.moves refl c.in-Ok.ensures.program (c.requires.goes (state_of c.in-Ok.machine) c.in-Ok.ensures.ok)

pub returns-in-Ok-clause-served : goal.returns-in-Ok-clause-served
returns-in-Ok-clause-served g c = λ s starts.
    let r = c.args.request.now in
    served_whole _ (Some c.args.bound) c.in-Ok.machine c.in-Ok.machine c.args.code.now s c.args.moves r.limit c.serve_records.result c.args.told _ _ _ _ refl c.in-Ok.ensures.program
    (one_start (start_of c.args.code.now r.func.now r.args.now) (state_of c.in-Ok.machine) s c.in-Ok.ensures.ok starts) c.serve_records.ensures.served

pub returns-in-Err-clause-served : goal.returns-in-Err-clause-served
returns-in-Err-clause-served g c = λ s starts. unserved c.args.told (session_on true c.args.code.now (begun (Some c.args.bound) s) c.args.request.now.limit) (g.S.Source.remaining c.args.source.now) None _ _ refl

pub returns-in-Err-clause-few : goal.returns-in-Err-clause-few
returns-in-Err-clause-few g c = few_none (g.S.Source.remaining c.args.source.now)
