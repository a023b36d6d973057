-- Answers to the goals of `stack_trace`.
use Rattle.std.proofs.Common.{subst, ℕ}
use Rattle.qil_semantics.specs.State.{State}
use Rattle.qrev_views.specs.Frames.{ShowsStack}
use Rattle.qrev_inspection.proofs.looking.stack_trace.Goals as goal

pub returns : goal.returns
returns g c =
    let t = (g.L.Debugged.state c.args.debuggee.now.recorder.live).timeline in
    let page = c.page_said-page.result in
    let shown = c.in_ok-put_frames.ensures in (
      page,
      shown.0,
      c.page_said-page.ensures,
      subst (λ (n : ℕ). ShowsStack n t.now page shown.0) c.position-position.ensures (subst (λ (s : State). ShowsStack c.position-position.result s page shown.0) c.machine.ensures.now shown.1),
      shown.2,
    )
