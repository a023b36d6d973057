-- The operand of the tree, or a number where there is none.
use Rattle.qil_shadow.proofs.KeptLemmas.{returned_some, returned_none}
use Rattle.qil_shadow.proofs.shadow.Shadow.returned_origin.Goals as goal

pub returns-in-Some : goal.returns-in-Some
returns-in-Some g c = λ m is.
    returned_some c.args.code.now c.args.self.now.names c.args.self.now.calls c.args.self.now.data_end c.args.place c.args.operand c.in-Some.operand m _ _ c.in-Some.is c.class_returned-class.ensures c.returns.ensures (λ a own slots read. c.origin_of.ensures a own slots read) is

pub returns-in-None : goal.returns-in-None
returns-in-None g c = λ m is. returned_none c.args.code.now c.args.self.now.names c.args.self.now.calls c.args.self.now.data_end c.args.place c.args.operand m c.in-None.is is
