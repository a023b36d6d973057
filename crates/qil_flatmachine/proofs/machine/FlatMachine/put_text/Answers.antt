use Rattle.std.proofs.Common.{ap, length, [], ◌∷◌, ◌++◌, ◌∙◌, sym, arith}
use Rattle.qil_memory.specs.Live.{live}
use Rattle.qil_machine.specs.Calls.{bytes_from}
use Rattle.qil_flatmachine.specs.Seen.{FlatWhole}
use Rattle.qil_flatmachine.proofs.Written.{text_is_full, text_count, more_machine, text_written, output_stays}
use Rattle.qil_flatmachine.proofs.machine.FlatMachine.put_text.Goals as goal

pub returns-then-count-len-clause-fault : goal.returns-then-count-len-clause-fault
returns-then-count-len-clause-fault g c =
    text_is_full c.self.inside.code.now c.self.inside.calls c.self.inside.memory c.self.inside.output.items c.self.inside.status c.args.self.now c.args.address c.in-Ok.count c.self.view_is c.in-Ok.ensures.text
    (omega (arith, c.len.ensures, c.self.inside.output.ok.0, c.if-count-len.true, c.self.invariant.machine.output))

pub invariant_of-self : goal.invariant_of-self
invariant_of-self g c =
    more_machine c.self-2.inside.code.now c.self-2.inside.calls c.self-2.inside.memory c.self-2.inside.output.items c.self.inside.output.items c.copy_text.new.output.items (bytes_from (live c.self-2.inside.memory) c.args.address c.in-Ok.count ++ 10 ∷ [])
    c.self-2.inside.status _ _ c.self-2.invariant (ap (λ o. length o) (output_stays _ _ _ _ _ c.args.self.now c.give.new.self _ c.self-2.view_is c.give.ensures ∙ sym (ap (λ (x : FlatWhole _). x.whole.output) c.self.view_is)))
    (omega (arith, c.len.ensures, c.self.inside.output.ok.0, c.if-count-len.false, c.self.invariant.machine.output, text_count (live c.self-2.inside.memory) c.args.address c.in-Ok.count)) c.copy_text.ensures.items c.copy_text.ensures.room

pub returns-clause-after : goal.returns-clause-after
returns-clause-after g c =
    text_written c.self-2.inside.code.now c.self-2.inside.calls c.self-2.inside.memory c.self-2.inside.output.items c.copy_text.new.output.items c.self-2.inside.status
    c.self.inside.code.now c.self.inside.calls c.self.inside.memory c.self.inside.output.items c.self.inside.status c.args.self.now c.give.new.self c.args.address c.in-Ok.count c.args.to c.self.view_is c.self-2.view_is c.give.ensures
    c.in-Ok.ensures.text (omega (arith, c.len.ensures, c.self.inside.output.ok.0, c.if-count-len.false, c.self.invariant.machine.output)) c.copy_text.ensures.items
