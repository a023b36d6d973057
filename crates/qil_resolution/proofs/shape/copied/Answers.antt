-- One move more, at the end all, and how many there are: by hand, as a search takes seconds to find each.
use Rattle.std.proofs.Common.{ap, sym, subst, ◌<◌, length}
use Rattle.qil_resolution.proofs.Parts.{copied_more, copied_all}
use Rattle.qil_resolution.proofs.shape.copied.Goals as goal

pub loop-one-preserved : goal.loop-one-preserved
loop-one-preserved g c = copied_more c.args.moves.now c.loop-one.one-index _ c.loop-one.out.items _ _ c.loop-one-test.true c.in_ok-push.ensures.items c.loop-one.invariant

pub returns-clause-moves : goal.returns-clause-moves
returns-clause-moves g c = copied_all c.args.moves.now c.loop-one.one-index c.loop-one.out.items _ c.loop-one-test.false c.loop-one.invariant

pub returns-clause-short : goal.returns-clause-short
returns-clause-short g c =
    subst (λ k. k < 4294967296) (sym (ap length (copied_all c.args.moves.now c.loop-one.one-index c.loop-one.out.items _ c.loop-one-test.false c.loop-one.invariant))) c.if-moves-ge-INDEX_LIMIT.false
