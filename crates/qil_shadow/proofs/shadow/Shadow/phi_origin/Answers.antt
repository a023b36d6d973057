-- A slot by its name; a constant that can be an address by the tree.
use Rattle.std.proofs.Common.{arith, ◌∙◌}
use Rattle.qil_shadow.specs.Origins.{in_class}
use Rattle.qil_shadow.proofs.ReadLemmas.{phi_slot, phi_low, phi_value, phi_constant}
use Rattle.qil_shadow.proofs.shadow.Shadow.phi_origin.Goals as goal

pub returns-in-Slot : goal.returns-in-Slot
returns-in-Slot g c = λ a own slots read is. c.in_class.ensures ∙ (λ i. in_class c.args.phi.now.class (c.origin.ensures i)) ∙ phi_slot _ _ _ c.in-Slot.slot c.args.phi.now.class a c.args.phi.now.source c.in-Slot.is slots is

pub returns-then-value-lt-LEAST_ADDRESS : goal.returns-then-value-lt-LEAST_ADDRESS
returns-then-value-lt-LEAST_ADDRESS g c = λ a own slots read is.
    phi_low _ _ _ _ _ _ c.in-Constant.value c.args.phi.now.class a c.args.phi.now.source c.in-Constant.is (omega (arith, c.if-value-lt-LEAST_ADDRESS.true)) own is

pub returns-else-value-lt-LEAST_ADDRESS : goal.returns-else-value-lt-LEAST_ADDRESS
returns-else-value-lt-LEAST_ADDRESS g c = λ a own slots read is.
    phi_constant _ _ _ c.in-Constant.value c.args.phi.now.class a c.args.phi.now.source _ c.in-Constant.is is (c.constant_phi.ensures a own read (phi_value _ _ c.in-Constant.value a c.args.phi.now.source c.in-Constant.is is))
