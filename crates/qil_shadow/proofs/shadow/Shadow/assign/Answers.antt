-- The temporary gets what the expression gives.
use Rattle.std.proofs.Common.{◌∙◌}
use Rattle.qil_shadow.proofs.AssignLemmas.{assign_done, assign_rest}
use Rattle.qil_shadow.proofs.ShapeLemmas.{assign_left}
use Rattle.qil_shadow.proofs.shadow.Shadow.assign.Goals as goal

pub returns-clause-done : goal.returns-clause-done
returns-clause-done g c =
    assign_done c.args.code.now c.args.place c.args.slots.now c.args.class c.args.to c.args.expr c.args.self.now c.expr_origin.new.self c.assign_open.new.self c.in_ok-origin.origin c.set.new.self c.in_ok-origin.ensures.given c.set.ensures c.assign_open.ensures

pub returns-clause-rest : goal.returns-clause-rest
returns-clause-rest g c = assign_rest c.args.to c.args.self.now c.expr_origin.new.self c.assign_open.new.self c.in_ok-origin.origin c.set.new.self c.in_ok-origin.ensures.given.rest c.set.ensures c.assign_open.ensures

pub returns-clause-left : goal.returns-clause-left
returns-clause-left g c =
    assign_left c.args.code.now c.args.place c.args.slots.now c.args.class c.args.to c.args.expr c.args.self.now c.assign_open.new.self (returns-clause-rest g c) (λ none. c.assign_open.ensures.found_is ∙ c.in_ok-origin.ensures.unset none)
