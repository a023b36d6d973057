-- A slot by its name; a constant that can be an address by the tree.
use Rattle.std.proofs.Common.{arith, ◌∙◌}
use Rattle.qil_shadow.specs.Origins.{in_class}
use Rattle.qil_shadow.proofs.ReadLemmas.{read_slot, read_low, read_value, read_constant}
use Rattle.qil_shadow.proofs.shadow.Shadow.origin_of.Goals as goal

pub returns-in-Slot : goal.returns-in-Slot
returns-in-Slot g c = λ a own slots is. c.in_class.ensures ∙ (λ i. in_class c.args.class (c.origin.ensures i)) ∙ read_slot _ _ _ _ c.in-Slot.slot c.args.class a c.args.operand c.in-Slot.is slots is

pub returns-then-value-lt-LEAST_ADDRESS : goal.returns-then-value-lt-LEAST_ADDRESS
returns-then-value-lt-LEAST_ADDRESS g c = λ a own slots is.
    read_low _ _ _ _ _ _ _ c.in-Constant.value c.args.class a c.args.operand c.in-Constant.is (omega (arith, c.if-value-lt-LEAST_ADDRESS.true)) own is

pub returns-else-value-lt-LEAST_ADDRESS : goal.returns-else-value-lt-LEAST_ADDRESS
returns-else-value-lt-LEAST_ADDRESS g c = λ a own slots is.
    read_constant _ _ _ _ c.in-Constant.value c.args.class a c.args.operand _ c.in-Constant.is is (c.constant_origin.ensures a own is.here (read_value _ _ _ c.in-Constant.value a c.args.operand c.in-Constant.is is))
