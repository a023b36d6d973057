-- What was gathered is put into the new call.
use Rattle.std.proofs.Common.{◌∙◌, refl}
use Rattle.qil_shadow.specs.Reads.{innermost}
use Rattle.qil_shadow.specs.Passing.{passed_by}
use Rattle.qil_shadow.proofs.KeptLemmas.{keeps_on, keeps_all_on}
use Rattle.qil_shadow.proofs.EnterLemmas.{call_entered, call_rest}
use Rattle.qil_shadow.proofs.PassLemmas.{at_kept, call_done}
use Rattle.qil_shadow.proofs.shadow.Shadow.call_function.Goals as goal

pub returns-clause-named : goal.returns-clause-named
returns-clause-named g c = λ given callee fs at all are here few.
    let heap = c.enter_heap.ensures.rest in
    call_done c.args.code.now c.args.place.func.index c.args.func.index fs c.args.self.now c.gather.new.self _ c.put_moved.new.self given callee c.slot_count.result c.args.to _ here c.slot_count.ensures at.slots
    (keeps_on c.args.self.now c.enter_heap.new.self c.gather.new.self heap c.in_ok-gather.ensures.rest.rest)
    (c.in_ok-gather.ensures.moved given (at_kept c.args.code.now c.args.place c.args.self.now c.enter_heap.new.self heap at) are
    ∙ (λ j. passed_by c.args.code.now (innermost c.args.code.now c.args.place.func.index (heap.calls_are j).calls) (c.params.ensures j) given))
    c.in_ok-enter.ensures refl refl c.put_moved.ensures.calls c.put_moved.ensures.rest

pub returns-clause-calls : goal.returns-clause-calls
returns-clause-calls g c = λ few.
    call_entered c.args.self.now c.gather.new.self c.put_moved.new.self c.enter.new.self c.slot_count.result _ c.args.to c.gather.new.self.moved.items
    (keeps_on c.args.self.now c.enter_heap.new.self c.gather.new.self c.enter_heap.ensures.rest c.in_ok-gather.ensures.rest.rest) c.in_ok-enter.ensures c.put_moved.ensures.calls c.slot_count.ensures

pub returns-clause-rest : goal.returns-clause-rest
returns-clause-rest g c =
    call_rest c.args.self.now c.gather.new.self _ c.put_moved.new.self (keeps_all_on c.args.self.now c.enter_heap.new.self c.gather.new.self c.enter_heap.ensures c.in_ok-gather.ensures.rest)
    (record { memory_is = refl; names_are = refl; end_is = refl; position_is = refl; found_is = refl; roles_are = refl }) c.put_moved.ensures.rest
