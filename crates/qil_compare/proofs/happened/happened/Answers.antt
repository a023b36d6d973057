-- Which event it was, by what is tested of the two states.
use Rattle.std.proofs.Common.{◌∙◌, sym, refl, true, false}
use Rattle.qil_state.specs.State.{state_of}
use Rattle.qil_compare.proofs.Happening.{by_tests, is_less, told_as}
use Rattle.qil_compare.proofs.happened.happened.Goals as goal

pub returns-then-is_over : goal.returns-then-is_over
returns-then-is_over g c = λ s due ed eo of ahead.
    let p = (g.M.Readers.whole c.args.machine.now).program in
    let t = state_of (g.M.Readers.whole c.args.machine.now) in
    told_as p c.args.kinds t c.ended.result _ _
    (by_tests p c.args.other.now c.args.kinds due s t true _ _ _ (record { over_is = sym c.is_over.ensures ∙ c.if-is_over.true; called_is = refl; returned_is = refl; put_is = refl }))
    (c.ended.ensures due of)

pub returns-then-before-depth : goal.returns-then-before-depth
returns-then-before-depth g c = λ s due ed eo of ahead.
    let p = (g.M.Readers.whole c.args.machine.now).program in
    let t = state_of (g.M.Readers.whole c.args.machine.now) in
    told_as p c.args.kinds t c.called.result _ _
    (by_tests p c.args.other.now c.args.kinds due s t false true _ _ (record {
      over_is = sym c.is_over.ensures ∙ c.if-is_over.false;
      called_is = is_less c.args.before.depth c.depth-depth.result _ _ ed c.depth-depth.ensures c.if-before-depth.true;
      returned_is = refl;
      put_is = refl;
    })) c.called.ensures
