-- The class of the temporary of a slot is that of its first definition.
use Rattle.std.proofs.Common.{◌∙◌, ap, subst}
use Rattle.std.specs.Prelude.{slice_get}
use Rattle.qil_code.specs.Facts.{KnowsTemps}
use Rattle.qil_code.proofs.Readers.{coded, uncoded, classes-there}
use Rattle.qil_code.proofs.KnownTemps.{class-known, no-class}
use Rattle.qil_code.proofs.code.Code.class_of.Goals as goal

pub returns-in-Some-clause-code : goal.returns-in-Some-clause-code
returns-in-Some-clause-code g c =
    c.copied.ensures ∙ c.item_at.ensures ∙ ap (λ cs. slice_get cs c.args.slot.index) c.as_slice.ensures
    ∙ classes-there c.args.self.now c.args.func.index c.args.slot.index c.in-Some.found.now (coded _ _ _ c.in-Some.ensures.code)

pub returns-in-Some-clause-defined : goal.returns-in-Some-clause-defined
returns-in-Some-clause-defined g c = λ name at.
    c.copied.ensures ∙ c.item_at.ensures ∙ ap (λ cs. slice_get cs c.args.slot.index) c.as_slice.ensures
    ∙ classes-there c.args.self.now c.args.func.index c.args.slot.index c.in-Some.found.now (coded _ _ _ c.in-Some.ensures.code)
    ∙ class-known c.args.self.now c.args.func.index c.args.slot.index name (subst KnowsTemps c.self.view_is c.self.invariant.temps) at

pub returns-in-None-clause-defined : goal.returns-in-None-clause-defined
returns-in-None-clause-defined g c = λ name at. no-class c.args.self.now c.args.func.index name (uncoded c.args.self.now c.args.func.index c.in-None.ensures.code)
