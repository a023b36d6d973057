-- The machine starts in the one state in which the program does.
use Rattle.std.specs.Prelude.{None, false}
use Rattle.std.proofs.Common.{refl, ap}
use Rattle.qil_state.specs.State.{state_of}
use Rattle.qil_semantics.specs.Start.{start_of}
use Rattle.qil_semantics.specs.Timeline.{begun}
use Rattle.qil_flatmachine.specs.Kept.{WithCopies}
use Rattle.qil_comparison.specs.Compared.{session_on}
use Rattle.qil_comparison.proofs.Comparisons.{unserved, few_none}
use Rattle.qil_comparison.proofs.Reporting.{goes_as, served_whole, one_start}
use Rattle.qil_comparison.proofs.sessions.serve_flat.Goals as goal

pub serve_copies-requires : goal.serve_copies-requires
serve_copies-requires g c κs = (
  (refl, tt),
  (
    c.requires.reads,
    (
      c.requires.writes,
      (
        c.requires.limit,
        goes_as c.in-Ok-new.machine.present.whole c.in-Ok.machine.whole c.args.code.now.program c.args.moves (ap (λ (m : WithCopies _). m.present.whole) c.in-Ok-new.ensures) c.in-Ok.ensures.program (c.requires.goes (state_of c.in-Ok.machine.whole) c.in-Ok.ensures.ok),
      ),
    ),
  ),
)

pub returns-in-Ok-new-clause-served : goal.returns-in-Ok-new-clause-served
returns-in-Ok-new-clause-served g c = λ s starts.
    let r = c.args.request.now in
    served_whole _ None c.in-Ok-new.machine.present.whole c.in-Ok.machine.whole c.args.code.now.program s c.args.moves r.limit c.serve_copies.result c.args.told _ _ _ _ (ap (λ (m : WithCopies _). m.present.whole) c.in-Ok-new.ensures) c.in-Ok.ensures.program
    (one_start (start_of c.args.code.now.program r.func.now r.args.now) (state_of c.in-Ok.machine.whole) s c.in-Ok.ensures.ok starts) c.serve_copies.ensures.served

pub returns-in-Err-clause-served : goal.returns-in-Err-clause-served
returns-in-Err-clause-served g c = λ s starts. unserved c.args.told (session_on false c.args.code.now.program (begun None s) c.args.request.now.limit) (g.S.Source.remaining c.args.source.now) None _ _ refl

pub returns-in-Err-new-clause-served : goal.returns-in-Err-new-clause-served
returns-in-Err-new-clause-served g c = λ s starts. unserved c.args.told (session_on false c.args.code.now.program (begun None s) c.args.request.now.limit) (g.S.Source.remaining c.args.source.now) None _ _ refl

pub returns-in-Err-clause-few : goal.returns-in-Err-clause-few
returns-in-Err-clause-few g c = few_none (g.S.Source.remaining c.args.source.now)

pub returns-in-Err-new-clause-few : goal.returns-in-Err-new-clause-few
returns-in-Err-new-clause-few g c = few_none (g.S.Source.remaining c.args.source.now)
