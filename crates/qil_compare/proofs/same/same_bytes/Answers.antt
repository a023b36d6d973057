-- Each byte is the same, or one isn't.
use Rattle.qil_memory.specs.Live.{live}
use Rattle.qil_compare.proofs.Sameness.{bytes_differ, bytes_alike}
use Rattle.qil_compare.proofs.same.same_bytes.Goals as goal

pub returns-then-ne : goal.returns-then-ne
returns-then-ne g c =
    bytes_differ (live (g.M.Readers.whole c.args.left.now).memory) (live (g.M.Readers.whole c.args.right.now).memory) c.args.start c.args.second c.args.count c.loop-i.i c.byte_after.result c.byte_after-in-loop-i.result c.loop-i-test.true c.byte_after.ensures
    c.byte_after-in-loop-i.ensures c.if-ne.ensures

pub returns : goal.returns
returns g c = bytes_alike (live (g.M.Readers.whole c.args.left.now).memory) (live (g.M.Readers.whole c.args.right.now).memory) c.args.start c.args.second c.args.count c.loop-i.i c.loop-i-test.false c.loop-i.invariant
