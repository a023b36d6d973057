-- Answers to the goals of `Recorder::run_back_past_stops`.
use Rattle.std.proofs.Common.{ap, arith}
use Rattle.std.proofs.Math.Logic.{∥∥₁_elim, ∥∥₁_prop}
use Rattle.qrev_recorder.proofs.Recording.{same_state}
use Rattle.qrev_recorder.proofs.Moves.{run_back_kept, stays_back, none_named, ran_back_nowhere, ran_back}
use Rattle.qil_replies.specs.SessionState.{SessionState}
use Rattle.qrev_recorder.proofs.recorder.Recorder.run_back_past_stops.Goals as goal

pub invariant_of-self : goal.invariant_of-self
invariant_of-self g c =
    let limit = ap (λ (s : SessionState g.row.A.Denot). s.limit) c.run_back_past-end.ensures.rest in
    let bounded = c.args.self.now.bounded in
    record {
      bounded = omega (arith, limit, bounded);
      recorded = λ whole. ∥∥₁_elim (c.args.self.now.recorded c.in_default.ensures.whole) ∥∥₁_prop
          (λ r. ∣ same_state _ _ _ _ _ r (stays_back _ _ _ _ _ _ _ c.run_back_past-end.ensures.run c.run_back_past-end.ensures.rest c.if-moves-eq0.true) ∣₁);
    }

pub invariant_of-self-2 : goal.invariant_of-self-2
invariant_of-self-2 g c =
    let limit = ap (λ (s : SessionState g.row.A.Denot). s.limit) c.run_back_past-end.ensures.rest in
    let bounded = c.args.self.now.bounded in
    record {
      bounded = omega (arith, limit, bounded);
      recorded = λ whole. ∥∥₁_elim (c.args.self.now.recorded c.in_default.ensures.whole) ∥∥₁_prop
          (λ r. ∣ run_back_kept _ _ _ _ _ _ _ _ _ _ _ _ r c.run_back_past-end.ensures.run c.run_back_past-end.ensures.rest c.if-moves-eq0.false c.in_ok-keep_backs.ensures ∣₁);
    }

pub returns-then-moves-eq0-clause-run : goal.returns-then-moves-eq0-clause-run
returns-then-moves-eq0-clause-run g c =
    ran_back_nowhere _ _ _ _ _ _ _ (rw (c.in-Ok.ensures, none_named (g.L.Debugged.state c.args.self.now.live).program) at c.run_back_past-end.ensures.run) c.run_back_past-end.ensures.rest c.if-moves-eq0.true

pub returns-clause-run : goal.returns-clause-run
returns-clause-run g c =
    ran_back _ _ _ _ _ _ _ _ _ _ _ (rw (c.in-Ok.ensures, none_named (g.L.Debugged.state c.args.self.now.live).program) at c.run_back_past-end.ensures.run) c.run_back_past-end.ensures.rest c.if-moves-eq0.false c.in_ok-keep_backs.ensures
