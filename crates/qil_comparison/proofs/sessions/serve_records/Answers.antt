-- The history begins at the machine.
use Rattle.std.specs.Prelude.{None, Some, true}
use Rattle.std.proofs.Common.{◌∙◌, refl, sym, ap}
use Rattle.qil_semantics.specs.Timeline.{Timeline, begun, moved, position}
use Rattle.qil_state.specs.State.{state_of}
use Rattle.qil_comparison.specs.Compared.{session_on}
use Rattle.qil_comparison.proofs.Comparisons.{unserved, few_none}
use Rattle.qil_comparison.proofs.Reporting.{goes_on, served_begun}
use Rattle.qil_comparison.proofs.sessions.serve_records.Goals as goal

pub serve_history-requires : goal.serve_history-requires
serve_history-requires g c κs = (
  (refl, tt),
  (
    c.requires.reads,
    (
      c.requires.writes,
      (
        c.requires.limit,
        (
          ap position c.in-Ok.ensures.begun,
          (
            c.requires.goes.0,
            goes_on (c.args.machine.program) _ _ (Some c.args.bound) (state_of (c.args.machine)) c.args.moves c.in-Ok.ensures.program c.in-Ok.ensures.begun c.requires.goes,
          ),
        ),
      ),
    ),
  ),
)

pub returns-in-Ok-clause-served : goal.returns-in-Ok-clause-served
returns-in-Ok-clause-served g c =
    served_begun true _ (c.args.machine.program) _ (begun (Some c.args.bound) (state_of (c.args.machine))) c.args.moves c.args.request.now.limit c.serve_history.result c.args.told _ _ _ _ c.in-Ok.ensures.program c.in-Ok.ensures.begun c.serve_history.ensures.served

pub returns-clause-served : goal.returns-clause-served
returns-clause-served g c = unserved c.args.told (session_on true (c.args.machine.program) (begun (Some c.args.bound) (state_of (c.args.machine))) c.args.request.now.limit) (g.S.Source.remaining c.args.source.now) None _ _ refl

pub returns-clause-few : goal.returns-clause-few
returns-clause-few g c = few_none (g.S.Source.remaining c.args.source.now)
