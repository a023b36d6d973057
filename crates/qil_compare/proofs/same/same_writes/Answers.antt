-- As many bytes, at one place, and each the same.
use Rattle.std.specs.Prelude.{unwrap_or}
use Rattle.qil_memory.specs.Live.{live}
use Rattle.qil_compare.specs.Seen.{data_place}
use Rattle.qil_compare.specs.Coded.{offset_of}
use Rattle.qil_compare.specs.Next.{nowhere}
use Rattle.qil_compare.proofs.Sameness.{other_count, other_place, same_place_bytes}
use Rattle.qil_compare.proofs.same.same_writes.Goals as goal

pub returns-then-count-many : goal.returns-then-count-many
returns-then-count-many g c =
    other_count (live (g.M.Readers.whole c.args.left.now).memory) (live (g.M.Readers.whole c.args.right.now).memory) c.args.start c.args.second c.args.count c.args.many
    (unwrap_or (data_place (g.M.Readers.whole c.args.left.now).program c.args.start) nowhere) (unwrap_or (data_place (g.M.Readers.whole c.args.right.now).program c.args.second) nowhere) c.if-count-many.true

pub returns-then-not-same_place : goal.returns-then-not-same_place
returns-then-not-same_place g c =
    other_place (live (g.M.Readers.whole c.args.left.now).memory) (live (g.M.Readers.whole c.args.right.now).memory) c.args.start c.args.second c.args.count c.args.many
    (unwrap_or (data_place (g.M.Readers.whole c.args.left.now).program c.args.start) nowhere) (unwrap_or (data_place (g.M.Readers.whole c.args.right.now).program c.args.second) nowhere)
    (offset_of c.place_or_nowhere.result) (offset_of c.place_or_nowhere-2.result) c.same_place.result c.place_or_nowhere.ensures c.place_or_nowhere-2.ensures c.same_place.ensures c.if-not-same_place.true

pub returns : goal.returns
returns g c =
    same_place_bytes (live (g.M.Readers.whole c.args.left.now).memory) (live (g.M.Readers.whole c.args.right.now).memory) c.args.start c.args.second c.args.count c.args.many
    (unwrap_or (data_place (g.M.Readers.whole c.args.left.now).program c.args.start) nowhere) (unwrap_or (data_place (g.M.Readers.whole c.args.right.now).program c.args.second) nowhere)
    (offset_of c.place_or_nowhere.result) (offset_of c.place_or_nowhere-2.result) c.same_place.result c.same_bytes.result c.if-count-many.false c.place_or_nowhere.ensures c.place_or_nowhere-2.ensures c.same_place.ensures
    c.if-not-same_place.false c.same_bytes.ensures
