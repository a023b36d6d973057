-- The parts of a function are those of its code; that they are short, and what is asked of them, by hand too, as a search
-- takes seconds to find it.
use Rattle.std.proofs.Common.{◌∙◌, ap, refl, sym, subst}
use Rattle.std.specs.Prelude.{All, map}
use Rattle.qil_code.specs.Gather.{labels_in}
use Rattle.qil_code.specs.Numbered.{param_of, block_of}
use Rattle.qil_code.specs.Ranges.{BlockIsShort}
use Rattle.qil_resolution.proofs.Whole.{func-is}
use Rattle.qil_resolution.proofs.shape.numbered_func.Goals as goal

pub invariant_of-resolver : goal.invariant_of-resolver
invariant_of-resolver g c = record {
  few_temps = c.requires.few_temps;
  few_labels = c.requires.few_labels;
}

pub blocks_of-requires : goal.blocks_of-requires
blocks_of-requires g c = c.requires.labels ∙ ap (λ bs. labels_in bs) (sym c.as_slice-2.ensures)

pub returns-clause-code : goal.returns-clause-code
returns-clause-code g c =
    func-is c.args.image.now c.args.func.now _ _ _ c.args.temps.now _
    (c.new.ensures ∙ c.in_ok-classes.ensures) (c.new-2.ensures ∙ c.in_ok-params.ensures ∙ ap (λ ps. map (param_of c.args.temps.now) ps) c.as_slice.ensures)
    (c.new-3.ensures ∙ c.in_ok-blocks.ensures.blocks ∙ ap (λ bs. map (block_of c.args.image.now bs c.args.temps.now) bs) c.as_slice-2.ensures) refl

pub returns-clause-short : goal.returns-clause-short
returns-clause-short g c = subst (λ bs. All BlockIsShort bs) (sym c.new-3.ensures) c.in_ok-blocks.ensures.short
