-- The object is made where its size is known.
use Rattle.std.proofs.Common.{◌∙◌, ◌<◌, ◌^◌, sym, arith}
use Rattle.qil_shadow.proofs.AllocLemmas.{alloc_unset, alloc_done}
use Rattle.qil_shadow.proofs.ShapeLemmas.{alloc_left, alloc_unset_left}
use Rattle.qil_shadow.proofs.shadow.Shadow.alloc_slot.Goals as goal

pub returns-in_ok-grow-in-Some-clause-done : goal.returns-in_ok-grow-in-Some-clause-done
returns-in_ok-grow-in-Some-clause-done g c = λ p class.
    let low : c.in-Some.size < 2 ^ 64 = omega arith in
    alloc_done p c.args.place c.args.slots.now class c.args.to c.args.op c.args.count c.args.self.now c.use_bits.new.self c.grow.new.self c.in-Some.size c.alignment.result (sym c.in-Some.is ∙ c.value_of.ensures) low
    c.alignment.ensures.value c.use_bits.ensures c.grow.ensures.rest (λ fits. c.in_ok-grow-in-Some.ensures.made fits) (λ based fits. c.in_ok-grow-in-Some.ensures.cleared based fits)

pub returns-in_ok-grow-in-Some-clause-left : goal.returns-in_ok-grow-in-Some-clause-left
returns-in_ok-grow-in-Some-clause-left g c = λ p class.
    let low : c.in-Some.size < 2 ^ 64 = omega arith in
    alloc_left p c.args.place c.args.slots.now class c.args.to c.args.op c.args.count c.args.self.now c.use_bits.new.self c.grow.new.self c.in-Some.size c.alignment.result (sym c.in-Some.is ∙ c.value_of.ensures) low
    c.alignment.ensures.value c.use_bits.ensures c.grow.ensures.rest (λ fits. c.in_ok-grow-in-Some.ensures.made fits)

pub returns-in-None-clause-left : goal.returns-in-None-clause-left
returns-in-None-clause-left g c = λ p class.
    alloc_unset_left p c.args.place c.args.slots.now class c.args.to c.args.op c.args.count c.args.self.now c.use_bits.new.self (sym c.in-None.is ∙ c.value_of.ensures) c.use_bits.ensures

pub returns-in-None-clause-done : goal.returns-in-None-clause-done
returns-in-None-clause-done g c = λ p class.
    alloc_unset p c.args.place c.args.slots.now class c.args.to c.args.op c.args.count c.args.self.now c.use_bits.new.self (sym c.in-None.is ∙ c.value_of.ensures)
