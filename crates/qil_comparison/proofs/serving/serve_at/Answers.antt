-- What was served is said of the history that the session was made of.
use Rattle.qil_comparison.specs.Compared.{session_on}
use Rattle.qil_comparison.proofs.Comparisons.{served_at, unserved, untouched_by, counts_by, ran_by}
use Rattle.qil_comparison.proofs.serving.serve_at.Goals as goal
use Rattle.std.specs.Prelude.{None}
use Rattle.std.proofs.Common.{refl}

pub returns-in-Err-clause-served : goal.returns-in-Err-clause-served
returns-in-Err-clause-served g c =
    unserved c.args.told (session_on g.H.Runs.wants_memory (g.H.Runs.program c.args.history) (g.H.Runs.timeline c.args.history) c.args.limit) (g.S.Source.remaining c.args.source.now) None _ _ refl

pub returns-clause-served : goal.returns-clause-served
returns-clause-served g c =
    served_at g.H.Runs.wants_memory g.H.Runs.program g.H.Runs.timeline c.in-Ok.session c.args.history c.args.limit c.serve-served.result c.args.told c.served_outcome.result
    (g.S.Source.remaining c.args.source.now) _ _ _ _ c.in-Ok.ensures.ok c.served_outcome.ensures c.serve-served.ensures.served

pub returns-clause-untouched : goal.returns-clause-untouched
returns-clause-untouched g c = untouched_by c.serve-served.result c.args.told c.served_outcome.result _ _ c.served_outcome.ensures

pub returns-clause-ran : goal.returns-clause-ran
returns-clause-ran g c = ran_by c.serve-served.result c.args.told c.served_outcome.result c.served_outcome.ensures

pub returns-clause-counted : goal.returns-clause-counted
returns-clause-counted g c = counts_by c.serve-served.result c.args.told c.served_outcome.result _ _ _ _ c.served_outcome.ensures c.serve-served.ensures.counted
