-- Answers to the goals of `debug_runs`.
use Rattle.std.specs.Prelude.{None}
use Rattle.std.proofs.Common.{refl}
use Rattle.qil_transcript.proofs.OpenedLemmas.{begun_session}
use Rattle.qil_transcript.proofs.DebugLemmas.{Written-memory}
use Rattle.qil_transcript.proofs.debugging.debug_runs.Goals as goal

pub returns-in-Ok-clause-written : goal.returns-in-Ok-clause-written
returns-in-Ok-clause-written g c = λ s verdict start begins loaded limit wants program timeline.
    c.run.ensures.written s verdict start begins loaded
    (begun_session g.H.Runs.wants_memory g.H.Runs.program g.H.Runs.timeline c.in-Ok.session c.args.history s verdict.program start c.args.limit c.in-Ok.ensures.ok limit wants program timeline)

pub returns-clause-written : goal.returns-clause-written
returns-clause-written g c = λ s verdict start begins loaded limit wants program timeline. Written-memory g.row.A.Denot s _ None _ _ refl
