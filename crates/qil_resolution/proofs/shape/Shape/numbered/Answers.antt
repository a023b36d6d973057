-- No block at first, one block more, and at the end all: by hand, as a search takes seconds to find each.
use Rattle.std.proofs.Common.{◌++◌, sym, ap, subst}
use Rattle.std.specs.Prelude.{All, map}
use Rattle.std.proofs.lemmas.List.Elements.{All-nil}
use Rattle.qil_code.specs.Numbered.{block_of}
use Rattle.qil_code.specs.Ranges.{BlockIsShort}
use Rattle.qil_resolution.proofs.Parts.{all_more, mapped_more, mapped_all}
use Rattle.qil_resolution.proofs.shape.Shape.numbered.Goals as goal

pub loop-block-init : goal.loop-block-init
loop-block-init g c = record {
  blocks = ap (λ ys. ys ++ map (block_of c.args.self.now.resolver.now.image.now c.args.self.now.blocks.now c.args.self.now.resolver.now.temps.now) c.args.self.now.blocks.now) c.in_ok-out.ensures.items;
  short = subst (λ ys. All BlockIsShort ys) (sym c.in_ok-out.ensures.items) (All-nil BlockIsShort);
}

pub loop-block-preserved : goal.loop-block-preserved
loop-block-preserved g c = record {
  blocks = mapped_more _ _ _ c.block-item.result c.loop-block.out.items _ _ _ c.block-item.is c.loop-block-test.true c.in_ok-push.ensures.items c.in_ok-block.ensures.block c.loop-block.invariant.blocks;
  short = all_more BlockIsShort c.loop-block.out.items _ _ c.in_ok-push.ensures.items c.in_ok-block.ensures.short c.loop-block.invariant.short;
}

pub returns-clause-blocks : goal.returns-clause-blocks
returns-clause-blocks g c = mapped_all _ _ c.loop-block.block-index c.loop-block.out.items c.loop-block-test.false c.loop-block.invariant.blocks

pub returns-clause-short : goal.returns-clause-short
returns-clause-short g c = c.loop-block.invariant.short
