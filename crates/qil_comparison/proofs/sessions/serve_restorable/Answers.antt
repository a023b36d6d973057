-- The history begins at the machine.
use Rattle.std.specs.Prelude.{None, Some, false}
use Rattle.std.proofs.Common.{◌∙◌, refl, sym, ap}
use Rattle.qil_semantics.specs.Timeline.{Timeline, begun, moved, position}
use Rattle.qil_state.specs.State.{state_of}
use Rattle.qil_comparison.specs.Compared.{session_on}
use Rattle.qil_comparison.proofs.Comparisons.{unserved, few_none}
use Rattle.qil_comparison.proofs.Reporting.{goes_on, served_begun}
use Rattle.qil_comparison.proofs.sessions.serve_restorable.Goals as goal

pub serve_moved-requires : goal.serve_moved-requires
serve_moved-requires g c κs = (
  (refl, tt),
  (
    c.requires.reads,
    (
      c.requires.writes,
      (
        c.requires.limit,
        (
          ap position c.in-Ok.ensures.begun,
          (
            c.requires.goes.0,
            goes_on ((g.M.HasCopies.present c.args.machine).program) _ _ (None) (state_of (g.M.HasCopies.present c.args.machine)) c.args.moves c.in-Ok.ensures.program c.in-Ok.ensures.begun c.requires.goes,
          ),
        ),
      ),
    ),
  ),
)

pub returns-in-Ok-clause-served : goal.returns-in-Ok-clause-served
returns-in-Ok-clause-served g c =
    served_begun false _ ((g.M.HasCopies.present c.args.machine).program) _ (begun (None) (state_of (g.M.HasCopies.present c.args.machine))) c.args.moves c.args.request.now.limit c.serve_moved.result c.args.told _ _ _ _ c.in-Ok.ensures.program c.in-Ok.ensures.begun c.serve_moved.ensures.served

pub returns-in-Err-clause-served : goal.returns-in-Err-clause-served
returns-in-Err-clause-served g c = unserved c.args.told (session_on false ((g.M.HasCopies.present c.args.machine).program) (begun None (state_of (g.M.HasCopies.present c.args.machine))) c.args.request.now.limit) (g.S.Source.remaining c.args.source.now) None _ _ refl

pub returns-in-Err-clause-few : goal.returns-in-Err-clause-few
returns-in-Err-clause-few g c = few_none (g.S.Source.remaining c.args.source.now)
