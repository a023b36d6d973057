-- By hand, so that other undo records and another count are refused at once.
use Rattle.std.proofs.Common.{◌∙◌, ap, sym, length}
use Rattle.circular_buffer.specs.Buffer.{buffer}
use Rattle.qil_undo_log.proofs.Rooms.{room_full, room_free, counts_one, counts_none}
use Rattle.qil_undo_log.proofs.newest.make_room.Goals as goal

pub returns-after-pop_front-clause-records : goal.returns-after-pop_front-clause-records
returns-after-pop_front-clause-records g c =
    c.pop_front.ensures.items ∙ ap (λ xs. buffer xs c.args.records.now.capacity) (room_full c.args.records.now.items c.args.records.now.capacity (sym c.is_full.ensures ∙ c.if-is_full.true))

pub returns-after-pop_front-clause-forgotten : goal.returns-after-pop_front-clause-forgotten
returns-after-pop_front-clause-forgotten g c = counts_one (length c.args.records.now.items) c.args.records.now.capacity c.args.forgotten.now (sym c.is_full.ensures ∙ c.if-is_full.true)

pub returns-else-is_full-clause-records : goal.returns-else-is_full-clause-records
returns-else-is_full-clause-records g c =
    ap (λ xs. buffer xs c.args.records.now.capacity) (room_free c.args.records.now.items c.args.records.now.capacity c.requires.few (sym c.is_full.ensures ∙ c.if-is_full.false))

pub returns-else-is_full-clause-forgotten : goal.returns-else-is_full-clause-forgotten
returns-else-is_full-clause-forgotten g c = counts_none (length c.args.records.now.items) c.args.records.now.capacity c.args.forgotten.now c.requires.few (sym c.is_full.ensures ∙ c.if-is_full.false)
