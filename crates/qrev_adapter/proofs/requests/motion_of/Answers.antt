-- The command is one of these, or none.
use Rattle.std.proofs.Common.{refl}
use Rattle.qrev_adapter.proofs.Words.{chosen, passed}
use Rattle.qrev_adapter.proofs.requests.motion_of.Goals as goal

pub returns-then-eq : goal.returns-then-eq
returns-then-eq c = chosen c.eq.result _ _ _ c.eq.ensures c.if-eq.true

pub returns-then-eq-2 : goal.returns-then-eq-2
returns-then-eq-2 c = passed c.eq.result _ _ _ _ c.eq.ensures c.if-eq.false (chosen c.eq-2.result _ _ _ c.eq-2.ensures c.if-eq-2.true)

pub returns-then-eq-4 : goal.returns-then-eq-4
returns-then-eq-4 c = passed c.eq.result _ _ _ _ c.eq.ensures c.if-eq.false (passed c.eq-2.result _ _ _ _ c.eq-2.ensures c.if-eq-2.false (passed c.eq-3.result _ _ _ _ c.eq-3.ensures c.if-eq-3.false (chosen c.eq-4.result _ _ _ c.eq-4.ensures c.if-eq-4.true)))

pub returns : goal.returns
returns c = passed c.eq.result _ _ _ _ c.eq.ensures c.if-eq.false (passed c.eq-2.result _ _ _ _ c.eq-2.ensures c.if-eq-2.false (passed c.eq-3.result _ _ _ _ c.eq-3.ensures c.if-eq-3.false (passed c.eq-4.result _ _ _ _ c.eq-4.ensures c.if-eq-4.false (passed c.eq-5.result _ _ _ _ c.eq-5.ensures c.if-eq-5.false (passed c.eq-6.result _ _ _ _ c.eq-6.ensures c.if-eq-6.false refl)))))
