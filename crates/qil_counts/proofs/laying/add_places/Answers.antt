-- One counter more, and that of the jump.
use Rattle.std.proofs.Common.{◌∙◌, ◌++◌, ◌∷◌, [], ap, arith, refl}
use Rattle.qil_counts.proofs.Laid.{more_places}
use Rattle.qil_counts.proofs.laying.add_places.Goals as goal

pub loop-index-preserved : goal.loop-index-preserved
loop-index-preserved g c =
    more_places c.args.func.index c.args.block.index c.loop-index.index c.loop-index.index c.args.counts.now.items c.loop-index.counts.items _ refl c.loop-index.invariant
    (c.in_ok-push.ensures.items ∙ ap (λ x. c.loop-index.counts.items ++ x ∷ []) c.unmet.ensures)

pub returns : goal.returns
returns g c =
    more_places c.args.func.index c.args.block.index c.loop-index.index c.args.insts c.args.counts.now.items c.loop-index.counts.items _ (omega arith) c.loop-index.invariant
    (c.in_ok-push-2.ensures.items ∙ ap (λ x. c.loop-index.counts.items ++ x ∷ []) c.unmet-2.ensures)
