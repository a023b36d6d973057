-- The bytes are stored one after the other.
use Rattle.std.proofs.Common.{◌+◌, ◌∙◌, ap, arith}
use Rattle.qil_shadow.specs.Words.{kept, with_byte}
use Rattle.qil_shadow.proofs.StoreLemmas.{store_more, store_done}
use Rattle.qil_shadow.proofs.region.Region.store_bytes.Goals as goal

pub loop-index-preserved : goal.loop-index-preserved
loop-index-preserved g c = (
  c.store_byte.ensures.length ∙ c.loop-index.invariant.0,
  store_more (kept c.loop-index.self) (kept c.store_byte.new.self) c.args.at c.loop-index.index c.args.count c.args.origin c.loop-index-test.true
      (c.store_byte.ensures.kept ∙ ap (with_byte (kept c.loop-index.self) (c.args.at + c.loop-index.index)) c.byte_of.ensures)
      ∙ c.loop-index.invariant.1,
)

pub returns-clause-kept : goal.returns-clause-kept
returns-clause-kept g c = store_done _ _ _ _ _ _ (omega (arith, c.loop-index-test.false, c.loop-index.auto.index-end)) c.loop-index.invariant.1
