-- Without a heap no block is made.
use Rattle.std.proofs.Common.{◌∙◌}
use Rattle.qil_shadow.proofs.KeptLemmas.{returned_is, keeps_returned}
use Rattle.qil_shadow.proofs.ReturnLemmas.{return_named}
use Rattle.qil_shadow.proofs.shadow.Shadow.leave_function.Goals as goal

pub returns-clause-calls : goal.returns-clause-calls
returns-clause-calls g c = λ m none is.
    returned_is c.args.self.now c.leave_heap.new.self c.return_open.new.self _ _ _ (c.in_ok-made.ensures.rest none) c.return_open.ensures (c.made_or.ensures (c.in_ok-made.ensures.none none) ∙ c.returned_origin-origin.ensures m is) c.give_back.ensures

pub returns-clause-rest : goal.returns-clause-rest
returns-clause-rest g c = λ none. keeps_returned c.args.self.now c.leave_heap.new.self c.return_open.new.self _ _ (c.in_ok-made.ensures.rest none) c.return_open.ensures c.give_back.ensures

pub returns-clause-named : goal.returns-clause-named
returns-clause-named g c = λ f j fs m none is are called.
    return_named c.args.code.now c.args.place.func.index j fs f c.args.self.now _ m are called (returns-clause-calls g c m none is) (returns-clause-rest g c none)
