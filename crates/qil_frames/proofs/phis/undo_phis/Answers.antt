use Rattle.std.proofs.Common.{ap, length}
use Rattle.std.proofs.lemmas.List.{length-set}
use Rattle.qil_frames.specs.Kept.{kept_slots}
use Rattle.qil_frames.proofs.Within.{alone_below, first_below, second_below}
use Rattle.qil_frames.proofs.phis.undo_phis.Goals as goal

pub bounds-values-from : goal.bounds-values-from
bounds-values-from g c = rw c.from.ensures (alone_below _ (kept_slots c.args.kept.now) (length c.args.values.now) (ap kept_slots c.in-One.is) c.requires)

pub bounds-values-from-in-Two : goal.bounds-values-from-in-Two
bounds-values-from-in-Two g c = rw c.from-in-Two.ensures (second_below _ _ (kept_slots c.args.kept.now) (length c.args.values.now) (ap kept_slots c.in-Two.is) c.requires)

pub bounds-values-from-in-Two-2 : goal.bounds-values-from-in-Two-2
bounds-values-from-in-Two-2 g c = rw (length-set, c.from-in-Two-2.ensures) (first_below _ _ (kept_slots c.args.kept.now) (length c.args.values.now) (ap kept_slots c.in-Two.is) c.requires)
