-- The words are cleared one after the other.
use Rattle.std.proofs.Common.{◌∙◌, arith}
use Rattle.qil_shadow.specs.Words.{kept}
use Rattle.qil_shadow.proofs.ClearLemmas.{words_more, words_done}
use Rattle.qil_shadow.proofs.region.Region.clear_words.Goals as goal

pub loop-index-preserved : goal.loop-index-preserved
loop-index-preserved g c = (
  c.clear_word.ensures.length ∙ c.loop-index.invariant.0,
  words_more (kept c.loop-index.self) (kept c.clear_word.new.self) c.args.first c.loop-index.index c.args.count c.loop-index-test.true c.clear_word.ensures.kept ∙ c.loop-index.invariant.1,
)

pub returns-clause-kept : goal.returns-clause-kept
returns-clause-kept g c = words_done _ _ _ _ _ (omega (arith, c.loop-index-test.false, c.loop-index.auto.index-end)) c.loop-index.invariant.1
