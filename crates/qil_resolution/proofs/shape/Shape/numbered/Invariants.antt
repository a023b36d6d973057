-- The blocks so far, with those that are left, are all; each so far is short.
use Rattle.std.proofs.Common.{◌≡◌, ◌++◌, drop}
use Rattle.std.specs.Prelude.{All, map}
use Rattle.qil_code.specs.Numbered.{block_of}
use Rattle.qil_code.specs.Ranges.{BlockIsShort}
use Rattle.qil_resolution.proofs.shape.Shape.numbered.Given as goal

abbrev pub invariant-loop-block : goal.invariant-loop-block
invariant-loop-block g l = record {
  blocks : l.out.items ++ map (block_of l.self.resolver.now.image.now l.self.blocks.now l.self.resolver.now.temps.now) (drop l.block-index l.self.blocks.now) ≡ map (block_of l.self.resolver.now.image.now l.self.blocks.now l.self.resolver.now.temps.now) l.self.blocks.now;
  short : All (BlockIsShort {A = g.row.A.Denot}) l.out.items;
}
