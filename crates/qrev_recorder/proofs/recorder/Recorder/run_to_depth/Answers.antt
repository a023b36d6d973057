-- Answers to the goals of `Recorder::run_to_depth`.
use Rattle.std.proofs.Common.{◌∙◌, ap, sym, arith}
use Rattle.std.proofs.Math.Logic.{∥∥₁_elim, ∥∥₁_prop}
use Rattle.qrev_recorder.proofs.Recording.{same_state}
use Rattle.qrev_recorder.proofs.Moves.{run_kept, stays, ran_at_end, ran_on}
use Rattle.qil_replies.specs.SessionState.{SessionState}
use Rattle.qrev_recorder.proofs.recorder.Recorder.run_to_depth.Goals as goal

pub invariant_of-self : goal.invariant_of-self
invariant_of-self g c =
    let limit = ap (λ (s : SessionState g.row.A.Denot). s.limit) c.run_to_depth-end.ensures.rest in
    let bounded = c.args.self.now.bounded in
    record {
      bounded = omega (arith, limit, bounded);
      recorded = λ whole. ∥∥₁_elim (c.args.self.now.recorded c.in_default.ensures.whole) ∥∥₁_prop
          (λ r. ∣ same_state _ _ _ _ _ r (stays _ _ _ _ _ _ _ c.run_to_depth-end.ensures.run c.run_to_depth-end.ensures.rest c.if-moves-eq0.true) ∣₁);
    }

pub invariant_of-self-2 : goal.invariant_of-self-2
invariant_of-self-2 g c =
    let limit = ap (λ (s : SessionState g.row.A.Denot). s.limit) c.run_to_depth-end.ensures.rest in
    let bounded = c.args.self.now.bounded in
    record {
      bounded = omega (arith, limit, bounded);
      recorded = λ whole. ∥∥₁_elim (c.args.self.now.recorded c.in_default.ensures.whole) ∥∥₁_prop
          (λ r. ∣ run_kept _ _ _ _ _ _ _ _ _ _ _ _ r c.run_to_depth-end.ensures.run c.run_to_depth-end.ensures.rest c.if-moves-eq0.false c.in_ok-keep_steps.ensures ∣₁);
    }

pub returns-then-is_over-clause-run : goal.returns-then-is_over-clause-run
returns-then-is_over-clause-run g c =
    ran_at_end (g.L.Debugged.state c.args.self.now.live) c.args.self.now.transcript.items c.args.most (sym c.is_over.ensures ∙ c.if-is_over.true)

pub returns-clause-run : goal.returns-clause-run
returns-clause-run g c =
    ran_on _ _ _ _ _ _ _ _ _ _ c.run_to_depth-end.ensures.run c.run_to_depth-end.ensures.rest c.if-moves-eq0.false c.in_ok-keep_steps.ensures
