use Rattle.std.proofs.Common.{◌∙◌, ap}
use Rattle.std.specs.Prelude.{unwrap_or}
use Rattle.qil_tree.specs.declared.ops.AbiType.TheVariants as types
use Rattle.qil_rules.specs.Occurrences.{returned_class}
use Rattle.qil_semantics.specs.Values.{fit}
use Rattle.qil_code.specs.Reading.{returns_at}
use Rattle.qil_machine.proofs.Jumps.{return_steps, return_fails, returned_is}
use Rattle.qil_machine.proofs.machine.Machine.return_value.Goals as goal

pub returns-in-Err-clause-fault : goal.returns-in-Err-clause-fault
returns-in-Err-clause-fault g c =
    let returns = c.returns-returns.ensures ∙ ap (returns_at c.self.inside.code.now) c.func.ensures in
    return_fails _ c.args.self.now c.innermost-frame.result.now c.slots.result.now c.args.source c.class_returned.result c.in-Err.fault c.self.view_is c.self.invariant c.innermost-frame.ensures c.slots.ensures.value
    (c.class_returned.ensures ∙ ap returned_class returns) c.in-Err.ensures

pub returns-clause-does : goal.returns-clause-does
returns-clause-does g c =
    let returns = c.returns-returns.ensures ∙ ap (returns_at c.self.inside.code.now) c.func.ensures in
    return_steps _ c.args.self.now _ c.innermost-frame.result.now c.slots.result.now c.args.source c.class_returned.result c.in-Ok.value c.fitted-value.result c.self.view_is c.self.invariant c.innermost-frame.ensures c.slots.ensures.value
    (c.class_returned.ensures ∙ ap returned_class returns) c.in-Ok.ensures (c.fitted-value.ensures ∙ ap (λ t. fit t c.in-Ok.value) (c.unwrap_or.ensures ∙ ap (λ o. unwrap_or o types.W) returns))
    (returned_is _ c.args.self.now _ _ c.self.view_is c.self.invariant c.requires.running c.ret.ensures.after c.ret.ensures.bytes)
