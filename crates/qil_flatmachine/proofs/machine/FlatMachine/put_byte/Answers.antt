use Rattle.std.proofs.Common.{ap, length, [], ◌∷◌, ◌∙◌, sym, arith}
use Rattle.qil_flatmachine.specs.Seen.{FlatWhole}
use Rattle.qil_flatmachine.proofs.Written.{more_machine, byte_written, output_stays}
use Rattle.qil_flatmachine.proofs.machine.FlatMachine.put_byte.Goals as goal

pub returns-clause-room : goal.returns-clause-room
returns-clause-room g c =
    omega (arith, c.len.ensures, c.self.inside.output.ok.0, c.if-len-ge-OUTPUT_LIMIT.false, ap (λ (x : FlatWhole _). length x.whole.output) c.self.view_is)

pub invariant_of-self : goal.invariant_of-self
invariant_of-self g c =
    more_machine c.self-2.inside.code.now c.self-2.inside.calls c.self-2.inside.memory c.self-2.inside.output.items c.self.inside.output.items c.push_reserved.new.self.items (c.args.byte ∷ []) c.self-2.inside.status _ _ c.self-2.invariant
    (ap (λ o. length o) (output_stays _ _ _ _ _ c.args.self.now c.give.new.self _ c.self-2.view_is c.give.ensures ∙ sym (ap (λ (x : FlatWhole _). x.whole.output) c.self.view_is))) (omega (arith, c.len.ensures, c.self.inside.output.ok.0, c.if-len-ge-OUTPUT_LIMIT.false))
    c.push_reserved.ensures.items c.push_reserved.ensures.capacity

pub returns-clause-after : goal.returns-clause-after
returns-clause-after g c =
    byte_written c.self-2.inside.code.now c.self-2.inside.calls c.self-2.inside.memory c.self-2.inside.output.items c.push_reserved.new.self.items c.args.byte c.from.result c.self-2.inside.status c.args.self.now c.give.new.self c.args.to
    c.self-2.view_is c.give.ensures c.from.ensures c.push_reserved.ensures.items
