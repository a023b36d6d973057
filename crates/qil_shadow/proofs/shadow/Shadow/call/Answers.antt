-- By what lies at the address.
use Rattle.std.proofs.Common.{◌∙◌, ◌<◌, ◌^◌, sym, ap, subst, refl, Some, arith}
use Rattle.qil_shadow.proofs.KeptLemmas.{keeps_all_on}
use Rattle.qil_memory.specs.qil_layout.Callee.{callee_at}
use Rattle.qil_shadow.proofs.CallInstLemmas.{call_unset, call_of_nothing, call_of_function, call_of_built_in, IsBuiltIn}
use Rattle.qil_shadow.proofs.ShapeLemmas.{call_unset_left, nothing_left, function_left, built_in_left}
use Rattle.qil_shadow.proofs.shadow.Shadow.call.Goals as goal

pub returns-in_ok-call_function-in-Defined-clause-done : goal.returns-in_ok-call_function-in-Defined-clause-done
returns-in_ok-call_function-in-Defined-clause-done g c =
    let low : c.in-Some.address < 2 ^ 64 = omega arith in
    call_of_function c.args.code.now c.args.place c.args.slots.now c.args.to c.args.callee c.args.args.now c.args.self.now c.use_callee.new.self c.call_function.new.self c.in-Some.address c.in-Defined.func
    (sym c.in-Some.is ∙ c.value_of.ensures) low (ap (λ x. Some x) (sym c.in-Defined.is) ∙ sym c.in-Some-function_at.is ∙ c.function_at.ensures ∙ ap (λ q. callee_at q c.in-Some.address) c.image.ensures) c.use_callee.ensures
    (λ given f fs at all are here few. c.in_ok-call_function-in-Defined.ensures.named given f fs at all are here few) c.in_ok-call_function-in-Defined.ensures.rest.found_is

pub returns-in-PutChar-clause-done : goal.returns-in-PutChar-clause-done
returns-in-PutChar-clause-done g c =
    let low : c.in-Some.address < 2 ^ 64 = omega arith in
    call_of_built_in c.args.code.now c.args.place c.args.slots.now c.args.to c.args.callee c.args.args.now c.args.self.now c.use_callee.new.self c.call_given.new.self c.in-Some.address c.in-Some-function_at.found
    (sym c.in-Some.is ∙ c.value_of.ensures) low (sym c.in-Some-function_at.is ∙ c.function_at.ensures ∙ ap (λ q. callee_at q c.in-Some.address) c.image.ensures) (subst IsBuiltIn (sym c.in-PutChar.is) tt) c.use_callee.ensures
    c.call_given.ensures.calls c.call_given.ensures.rest

pub returns-in-Puts-clause-done : goal.returns-in-Puts-clause-done
returns-in-Puts-clause-done g c =
    let low : c.in-Some.address < 2 ^ 64 = omega arith in
    call_of_built_in c.args.code.now c.args.place c.args.slots.now c.args.to c.args.callee c.args.args.now c.args.self.now c.use_callee.new.self c.call_given-in-Puts.new.self c.in-Some.address c.in-Some-function_at.found
    (sym c.in-Some.is ∙ c.value_of.ensures) low (sym c.in-Some-function_at.is ∙ c.function_at.ensures ∙ ap (λ q. callee_at q c.in-Some.address) c.image.ensures) (subst IsBuiltIn (sym c.in-Puts.is) tt) c.use_callee.ensures
    c.call_given-in-Puts.ensures.calls c.call_given-in-Puts.ensures.rest

pub returns-in-Exit-clause-done : goal.returns-in-Exit-clause-done
returns-in-Exit-clause-done g c =
    let low : c.in-Some.address < 2 ^ 64 = omega arith in
    call_of_built_in c.args.code.now c.args.place c.args.slots.now c.args.to c.args.callee c.args.args.now c.args.self.now c.use_callee.new.self c.call_given-in-Exit.new.self c.in-Some.address c.in-Some-function_at.found
    (sym c.in-Some.is ∙ c.value_of.ensures) low (sym c.in-Some-function_at.is ∙ c.function_at.ensures ∙ ap (λ q. callee_at q c.in-Some.address) c.image.ensures) (subst IsBuiltIn (sym c.in-Exit.is) tt) c.use_callee.ensures
    c.call_given-in-Exit.ensures.calls c.call_given-in-Exit.ensures.rest

pub returns-in_ok-call_function-in-Defined-clause-left : goal.returns-in_ok-call_function-in-Defined-clause-left
returns-in_ok-call_function-in-Defined-clause-left g c =
    let low : c.in-Some.address < 2 ^ 64 = omega arith in
    function_left c.args.code.now c.args.place c.args.slots.now c.args.to c.args.callee c.args.args.now c.args.self.now c.use_callee.new.self c.call_function.new.self c.in-Some.address c.in-Defined.func
    (sym c.in-Some.is ∙ c.value_of.ensures) low (ap (λ x. Some x) (sym c.in-Defined.is) ∙ sym c.in-Some-function_at.is ∙ c.function_at.ensures ∙ ap (λ q. callee_at q c.in-Some.address) c.image.ensures) c.use_callee.ensures
    (λ few. c.in_ok-call_function-in-Defined.ensures.calls few) c.in_ok-call_function-in-Defined.ensures.rest

pub returns-in-PutChar-clause-left : goal.returns-in-PutChar-clause-left
returns-in-PutChar-clause-left g c =
    let low : c.in-Some.address < 2 ^ 64 = omega arith in
    built_in_left c.args.code.now c.args.place c.args.slots.now c.args.to c.args.callee c.args.args.now c.args.self.now c.use_callee.new.self c.call_given.new.self c.in-Some.address c.in-Some-function_at.found _
    (sym c.in-Some.is ∙ c.value_of.ensures) low (sym c.in-Some-function_at.is ∙ c.function_at.ensures ∙ ap (λ q. callee_at q c.in-Some.address) c.image.ensures) (subst IsBuiltIn (sym c.in-PutChar.is) tt) c.use_callee.ensures
    c.call_given.ensures.calls c.call_given.ensures.rest

pub returns-in-Puts-clause-left : goal.returns-in-Puts-clause-left
returns-in-Puts-clause-left g c =
    let low : c.in-Some.address < 2 ^ 64 = omega arith in
    built_in_left c.args.code.now c.args.place c.args.slots.now c.args.to c.args.callee c.args.args.now c.args.self.now c.use_callee.new.self c.call_given-in-Puts.new.self c.in-Some.address c.in-Some-function_at.found _
    (sym c.in-Some.is ∙ c.value_of.ensures) low (sym c.in-Some-function_at.is ∙ c.function_at.ensures ∙ ap (λ q. callee_at q c.in-Some.address) c.image.ensures) (subst IsBuiltIn (sym c.in-Puts.is) tt) c.use_callee.ensures
    c.call_given-in-Puts.ensures.calls c.call_given-in-Puts.ensures.rest

pub returns-in-Exit-clause-left : goal.returns-in-Exit-clause-left
returns-in-Exit-clause-left g c =
    let low : c.in-Some.address < 2 ^ 64 = omega arith in
    built_in_left c.args.code.now c.args.place c.args.slots.now c.args.to c.args.callee c.args.args.now c.args.self.now c.use_callee.new.self c.call_given-in-Exit.new.self c.in-Some.address c.in-Some-function_at.found _
    (sym c.in-Some.is ∙ c.value_of.ensures) low (sym c.in-Some-function_at.is ∙ c.function_at.ensures ∙ ap (λ q. callee_at q c.in-Some.address) c.image.ensures) (subst IsBuiltIn (sym c.in-Exit.is) tt) c.use_callee.ensures
    c.call_given-in-Exit.ensures.calls c.call_given-in-Exit.ensures.rest

pub returns-in_default-clause-done : goal.returns-in_default-clause-done
returns-in_default-clause-done g c = call_unset c.args.code.now c.args.place c.args.slots.now c.args.to c.args.callee c.args.args.now c.args.self.now (sym c.in_default.is ∙ c.value_of.ensures)

pub returns-in_default-clause-left : goal.returns-in_default-clause-left
returns-in_default-clause-left g c = call_unset_left c.args.code.now c.args.place c.args.slots.now c.args.to c.args.callee c.args.args.now c.args.self.now (sym c.in_default.is ∙ c.value_of.ensures)

pub returns-in_default-function_at-clause-done : goal.returns-in_default-function_at-clause-done
returns-in_default-function_at-clause-done g c =
    let low : c.in-Some.address < 2 ^ 64 = omega arith in
    call_of_nothing c.args.code.now c.args.place c.args.slots.now c.args.to c.args.callee c.args.args.now c.args.self.now _ c.in-Some.address
    (sym c.in-Some.is ∙ c.value_of.ensures) low (sym c.in_default-function_at.is ∙ c.function_at.ensures ∙ ap (λ q. callee_at q c.in-Some.address) c.image.ensures) c.use_callee.ensures.found_is

pub returns-in_default-function_at-clause-left : goal.returns-in_default-function_at-clause-left
returns-in_default-function_at-clause-left g c =
    let low : c.in-Some.address < 2 ^ 64 = omega arith in
    nothing_left c.args.code.now c.args.place c.args.slots.now c.args.to c.args.callee c.args.args.now c.args.self.now _ c.in-Some.address
    (sym c.in-Some.is ∙ c.value_of.ensures) low (sym c.in_default-function_at.is ∙ c.function_at.ensures ∙ ap (λ q. callee_at q c.in-Some.address) c.image.ensures)
    (keeps_all_on c.args.self.now c.use_callee.new.self _ c.use_callee.ensures
    (record { rest = record { calls_are = refl; memory_is = refl; names_are = refl; end_is = refl; position_is = refl; roles_are = refl }; found_is = refl }))
