-- By the form of the expression.
use Rattle.std.proofs.Common.{subst}
use Rattle.qil_shadow.specs.Shapes.{IsUnset, expr_operands}
use Rattle.qil_shadow.proofs.ShapeLemmas.{unset_only}
use Rattle.qil_shadow.proofs.ExprLemmas.{given_unary, given_binary, given_compare, given_extension, given_load}
use Rattle.qil_shadow.proofs.shadow.Shadow.expr_origin.Goals as goal

pub returns-in-Unary-clause-given : goal.returns-in-Unary-clause-given
returns-in-Unary-clause-given g c =
    given_unary c.args.code.now c.args.place c.args.slots.now c.args.class c.args.expr c.args.self.now c.in-Unary.op c.in-Unary.operand _ _ c.in-Unary.is (λ a own slots read. c.origin_of-origin.ensures a own slots read) c.unary_origin.ensures

pub returns-in-Binary-clause-given : goal.returns-in-Binary-clause-given
returns-in-Binary-clause-given g c =
    given_binary c.args.code.now c.args.place c.args.slots.now c.args.class c.args.expr c.args.self.now c.in-Binary.op c.in-Binary.left c.in-Binary.right _ c.in-Binary.is (λ a b own slots one other. c.two_origin.ensures a b own slots one other)

pub returns-in-Compare-clause-given : goal.returns-in-Compare-clause-given
returns-in-Compare-clause-given g c = given_compare c.args.code.now c.args.place c.args.slots.now c.args.class c.args.expr c.args.self.now _ _ _ _ c.in-Compare.is

pub returns-in-Extend-clause-given : goal.returns-in-Extend-clause-given
returns-in-Extend-clause-given g c =
    given_extension c.args.code.now c.args.place c.args.slots.now c.args.class c.args.expr c.args.self.now c.in-Extend.op c.in-Extend.operand _ _ c.in-Extend.is (λ a own slots read. c.origin_of-origin-in-Extend.ensures a own slots read) c.extended_origin.ensures

pub returns-in_ok-origin-in-Load-clause-given : goal.returns-in_ok-origin-in-Load-clause-given
returns-in_ok-origin-in-Load-clause-given g c =
    given_load c.args.code.now c.args.place c.args.slots.now c.args.class c.args.expr c.args.self.now _ c.in-Load.op c.in-Load.operand _ c.in-Load.is (λ v is spot. c.in_ok-origin-in-Load.ensures.origin v is spot)
    (λ a v s sh f is own slots read stands. c.in_ok-origin-in-Load.ensures.found a v s sh f is own slots read stands) (λ v is. c.in_ok-origin-in-Load.ensures.low v is) c.in_ok-origin-in-Load.ensures.rest

pub returns-in_ok-origin-in-Load-clause-unset : goal.returns-in_ok-origin-in-Load-clause-unset
returns-in_ok-origin-in-Load-clause-unset g c = λ none. c.in_ok-origin-in-Load.ensures.unset (unset_only c.args.slots.now c.in-Load.operand (subst (λ e. IsUnset c.args.slots.now (expr_operands e)) c.in-Load.is none))
