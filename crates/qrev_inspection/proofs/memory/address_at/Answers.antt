-- Answers to the goals of `address_at`.
use Rattle.std.specs.Int.{w64}
use Rattle.std.proofs.lemmas.Int.{to_z-of_z}
use Rattle.qrev_inspection.proofs.Reading.{moved_down, moved_up}
use Rattle.qrev_inspection.proofs.memory.address_at.Goals as goal

pub returns-then-offset-lt0 : goal.returns-then-offset-lt0
returns-then-offset-lt0 c =
    moved_down c.args.start c.args.offset _ c.unsigned_abs.result c.wrapping_sub_u64.result (to_z-of_z w64 c.args.offset c.ranges.offset) c.if-offset-lt0.true c.unsigned_abs.ensures.value c.wrapping_sub_u64.ensures.value

pub returns-else-offset-lt0 : goal.returns-else-offset-lt0
returns-else-offset-lt0 c =
    moved_up c.args.start c.args.offset _ c.unsigned_abs-else-offset-lt0.result c.wrapping_add_u64.result (to_z-of_z w64 c.args.offset c.ranges.offset) c.if-offset-lt0.false
    c.unsigned_abs-else-offset-lt0.ensures.value c.wrapping_add_u64.ensures.value
