use Rattle.std.proofs.Common.{◌∙◌, sym, true, false}
use Rattle.qil_state.proofs.Passing.{shape_reported}
use Rattle.qil_state.proofs.arguments.is_in_shape.Goals as goal

pub returns-then-all_agree : goal.returns-then-all_agree
returns-then-all_agree c ns =
    c.is_given.ensures ns ∙ shape_reported ns c.args.params.now c.args.returns c.args.to c.args.args.now true (sym c.if-all_agree.true ∙ c.all_agree.ensures)

pub returns-else-all_agree : goal.returns-else-all_agree
returns-else-all_agree c ns =
    c.if-all_agree.false ∙ shape_reported ns c.args.params.now c.args.returns c.args.to c.args.args.now false (sym c.if-all_agree.false ∙ c.all_agree.ensures)
