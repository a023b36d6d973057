-- The goals of `test_blit` that the check leaves open.
use Rattle.std.proofs.Common.{refl, arith, sym}
use Rattle.qil_memory.proofs.Calling.{blit_source, blit_target, blit_overlap, blit_done}
use Rattle.qil_memory.proofs.memory.Memory.test_blit.Goals as goal

pub returns-then-not-is_live-clause-fault : goal.returns-then-not-is_live-clause-fault
returns-then-not-is_live-clause-fault g c = blit_source c.args.self.now c.args.source c.args.target c.args.n c.is_live.ensures.memory (omega arith) c.if-not-is_live.ensures.live.1

pub returns-then-not-is_live-2-clause-fault : goal.returns-then-not-is_live-2-clause-fault
returns-then-not-is_live-2-clause-fault g c = blit_target c.args.self.now c.args.source c.args.target c.args.n c.is_live.ensures.memory (omega arith) (c.if-not-is_live.ensures.live.0 refl) c.if-not-is_live-2.ensures.live.1

pub returns-then-overlaps-clause-fault : goal.returns-then-overlaps-clause-fault
returns-then-overlaps-clause-fault g c = blit_overlap c.args.self.now c.args.source c.args.target c.args.n c.is_live.ensures.memory (omega arith) (c.if-not-is_live.ensures.live.0 refl) (c.if-not-is_live-2.ensures.live.0 refl) (sym c.if-overlaps.ensures)

pub returns-clause-ok : goal.returns-clause-ok
returns-clause-ok g c = blit_done c.args.self.now _ c.args.source c.args.target c.args.n c.is_live.ensures.memory (omega arith) (c.if-not-is_live.ensures.live.0 refl) (c.if-not-is_live.ensures.places refl) (c.if-not-is_live-2.ensures.live.0 refl) (sym c.if-overlaps.ensures) refl
