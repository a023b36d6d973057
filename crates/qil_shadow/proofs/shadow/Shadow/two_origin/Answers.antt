-- Two numbers give a number.
use Rattle.std.proofs.Common.{sym, ◌∙◌}
use Rattle.qil_shadow.proofs.ExprLemmas.{sure_binary}
use Rattle.qil_shadow.proofs.shadow.Shadow.two_origin.Goals as goal

pub returns-then-is_number-2 : goal.returns-then-is_number-2
returns-then-is_number-2 g c = λ a b own slots one other.
    sure_binary c.args.code.now c.args.place c.args.self.now.calls.calls c.args.op c.args.class a b c.args.left c.args.right _ _ _ own.starts_are.no_fault (sym c.is_number.ensures ∙ c.if-is_number.true) (sym c.is_number-then-is_number.ensures ∙ c.if-is_number-2.true) slots one other
