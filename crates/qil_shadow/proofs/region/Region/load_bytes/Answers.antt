-- The bytes are read one after the other.
use Rattle.std.proofs.Common.{arith, ap, ◌∙◌}
use Rattle.std.proofs.lemmas.List.{length-set}
use Rattle.qil_shadow.specs.Bytes.{joined}
use Rattle.qil_shadow.specs.Words.{kept}
use Rattle.qil_shadow.proofs.StoreLemmas.{found_more, take_read}
use Rattle.qil_shadow.proofs.region.Region.load_bytes.Goals as goal

pub loop-index-preserved : goal.loop-index-preserved
loop-index-preserved g c = (
  length-set c.loop-index.found c.loop-index.index c.get.result ∙ c.loop-index.invariant.0,
  found_more c.loop-index.found (kept c.args.self.now) c.args.at c.loop-index.index c.get.result c.loop-index.invariant.0 (omega (arith, c.loop-index-test.true, c.requires.few)) c.loop-index.invariant.1 c.get.ensures,
)

pub returns : goal.returns
returns g c =
    c.joined.ensures
    ∙ ap (joined c.args.class) (take_read c.loop-index.found (kept c.args.self.now) c.args.at c.loop-index.index c.args.count c.loop-index.invariant.0 c.requires.few (omega (arith, c.loop-index-test.false, c.loop-index.auto.index-end)) c.loop-index.invariant.1)
