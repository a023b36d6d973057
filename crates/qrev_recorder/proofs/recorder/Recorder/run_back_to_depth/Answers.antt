-- Answers to the goals of `Recorder::run_back_to_depth`.
use Rattle.std.proofs.Common.{ap, arith}
use Rattle.std.proofs.Math.Logic.{∥∥₁_elim, ∥∥₁_prop}
use Rattle.qrev_recorder.proofs.Recording.{same_state}
use Rattle.qrev_recorder.proofs.Moves.{run_back_kept, stays_back, ran_back}
use Rattle.qil_replies.specs.SessionState.{SessionState}
use Rattle.qrev_recorder.proofs.recorder.Recorder.run_back_to_depth.Goals as goal

pub invariant_of-self : goal.invariant_of-self
invariant_of-self g c =
    let limit = ap (λ (s : SessionState g.row.A.Denot). s.limit) c.run_back_to_depth-end.ensures.rest in
    let bounded = c.args.self.now.bounded in
    record {
      bounded = omega (arith, limit, bounded);
      recorded = λ whole. ∥∥₁_elim (c.args.self.now.recorded c.in_default.ensures.whole) ∥∥₁_prop
          (λ r. ∣ same_state _ _ _ _ _ r (stays_back _ _ _ _ _ _ _ c.run_back_to_depth-end.ensures.run c.run_back_to_depth-end.ensures.rest c.if-moves-eq0.true) ∣₁);
    }

pub invariant_of-self-2 : goal.invariant_of-self-2
invariant_of-self-2 g c =
    let limit = ap (λ (s : SessionState g.row.A.Denot). s.limit) c.run_back_to_depth-end.ensures.rest in
    let bounded = c.args.self.now.bounded in
    record {
      bounded = omega (arith, limit, bounded);
      recorded = λ whole. ∥∥₁_elim (c.args.self.now.recorded c.in_default.ensures.whole) ∥∥₁_prop
          (λ r. ∣ run_back_kept _ _ _ _ _ _ _ _ _ _ _ _ r c.run_back_to_depth-end.ensures.run c.run_back_to_depth-end.ensures.rest c.if-moves-eq0.false c.in_ok-keep_backs.ensures ∣₁);
    }

pub returns-clause-run : goal.returns-clause-run
returns-clause-run g c =
    ran_back _ _ _ _ _ _ _ _ _ _ _ c.run_back_to_depth-end.ensures.run c.run_back_to_depth-end.ensures.rest c.if-moves-eq0.false c.in_ok-keep_backs.ensures
