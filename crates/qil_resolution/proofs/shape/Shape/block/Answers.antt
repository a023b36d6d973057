-- The parts of a block are those of its code, and short: by hand, as a search takes seconds to find it.
use Rattle.std.proofs.Common.{◌∙◌, ap, sym, subst}
use Rattle.std.specs.Prelude.{map}
use Rattle.qil_code.specs.Numbered.{inst_of}
use Rattle.qil_code.specs.Ranges.{IsShort}
use Rattle.qil_resolution.proofs.shape.Shape.block.Goals as goal

pub returns-clause-block : goal.returns-clause-block
returns-clause-block g c =
    let s = c.args.self.now in
    let insts = c.new.ensures ∙ c.in_ok-insts.ensures.insts ∙ ap (λ xs. map (inst_of s.resolver.now.image.now s.resolver.now.temps.now) xs) c.as_slice.ensures in
    λ i. record { insts = insts i; jump = c.in_ok-jump.ensures.jump i }

pub returns-clause-short : goal.returns-clause-short
returns-clause-short g c = record {
  insts = subst (λ xs. IsShort xs) (sym c.new.ensures) c.in_ok-insts.ensures.short;
  jump = c.in_ok-jump.ensures.short;
}
