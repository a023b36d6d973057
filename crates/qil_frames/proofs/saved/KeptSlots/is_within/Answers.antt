use Rattle.std.proofs.Common.{ap}
use Rattle.qil_frames.specs.Kept.{kept_slots}
use Rattle.qil_frames.proofs.Within.{alone_is_there, first_is_there, first_is_not}
use Rattle.qil_frames.proofs.saved.KeptSlots.is_within.Goals as goal

pub returns-in-One : goal.returns-in-One
returns-in-One g c = rw c.from.ensures (alone_is_there _ (kept_slots c.args.self.now) c.args.count (ap kept_slots c.in-One.is))

pub returns-then-from-count : goal.returns-then-from-count
returns-then-from-count g c = rw c.from-then-from-count.ensures (first_is_there _ _ (kept_slots c.args.self.now) c.args.count (ap kept_slots c.in-Two.is) (rw c.from-in-Two.ensures at c.if-from-count.true))

pub returns-else-from-count : goal.returns-else-from-count
returns-else-from-count g c = rw c.from-in-Two.ensures (first_is_not _ _ (kept_slots c.args.self.now) c.args.count (ap kept_slots c.in-Two.is) (rw c.from-in-Two.ensures at c.if-from-count.false))
