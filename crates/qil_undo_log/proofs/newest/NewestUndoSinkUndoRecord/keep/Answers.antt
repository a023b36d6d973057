-- Room is made, and then the undo record is put in.
use Rattle.std.proofs.Common.{◌≡◌}
use Rattle.qil_undo_log.proofs.Rooms.{put_last}
use Rattle.qil_undo_log.proofs.newest.NewestUndoSinkUndoRecord.keep.Goals as goal

pub returns : goal.returns
returns g c = record {
  kept = put_last c.args.self.now.records c.make_room.new.records c.try_push_back-kept.new.self c.args.item c.try_push_back-kept.result (λ y. y ≡ c.args.item) c.requires.0 c.make_room.ensures.records c.try_push_back-kept.ensures.variant c.try_push_back-kept.ensures.ok c.try_push_back-kept.ensures.err;
  counted = c.make_room.ensures.forgotten;
}
