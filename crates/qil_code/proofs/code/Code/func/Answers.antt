-- The code of a function is at the function's number.
use Rattle.std.proofs.Common.{◌∙◌, ap, subst}
use Rattle.std.specs.Prelude.{slice_get}
use Rattle.std.proofs.lemmas.Option.{slice_get-map}
use Rattle.qil_code.specs.Facts.{Finds, KnowsLabels}
use Rattle.qil_code.specs.Numbered.{func_code}
use Rattle.qil_code.specs.Reading.{func_code_at}
use Rattle.qil_code.proofs.RangedCode.{func-ranges}
use Rattle.qil_code.proofs.Readers.{few-found}
use Rattle.qil_code.proofs.code.Code.func.Goals as goal

pub returns-clause-code : goal.returns-clause-code
returns-clause-code g c =
    c.item_at.ensures
    ∙ ap (λ ks. slice_get ks c.args.func.index) (c.as_slice.ensures.value ∙ c.self.invariant.funcs_are)
    ∙ slice_get-map (func_code c.self.inside.program.now) c.self.inside.program.now.funcs c.args.func.index
    ∙ ap (λ p. func_code_at p c.args.func.index) c.self.view_is

pub returns-clause-few : goal.returns-clause-few
returns-clause-few g c =
    few-found c.self.inside.program.now c.args.func.index c.item_at.result c.self.invariant.numerable
    (c.item_at.ensures
    ∙ ap (λ ks. slice_get ks c.args.func.index) (c.as_slice.ensures.value ∙ c.self.invariant.funcs_are)
    ∙ slice_get-map (func_code c.self.inside.program.now) c.self.inside.program.now.funcs c.args.func.index)

pub returns-clause-range : goal.returns-clause-range
returns-clause-range g c =
    func-ranges c.self.inside.program.now c.args.func.index c.item_at.result c.self.invariant.blocks c.self.invariant.knows c.self.invariant.short
    (c.item_at.ensures
    ∙ ap (λ ks. slice_get ks c.args.func.index) (c.as_slice.ensures.value ∙ c.self.invariant.funcs_are)
    ∙ slice_get-map (func_code c.self.inside.program.now) c.self.inside.program.now.funcs c.args.func.index)

pub returns-clause-finds : goal.returns-clause-finds
returns-clause-finds g c = subst Finds c.self.view_is c.self.invariant.finds

pub returns-clause-knows : goal.returns-clause-knows
returns-clause-knows g c = subst KnowsLabels c.self.view_is c.self.invariant.knows
