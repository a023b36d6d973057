-- The function is looked for, and its parameters are counted, as a machine's start does.
use Rattle.std.proofs.Common.{sym}
use Rattle.qil_code.proofs.Readers.{uncoded}
use Rattle.qil_machine.proofs.StartedState.{missing_entry, wrong_count, may_start, entry_there}
use Rattle.qil_comparison.proofs.loading.can_start.Goals as goal

pub returns-in_default-clause-fault : goal.returns-in_default-clause-fault
returns-in_default-clause-fault g c = missing_entry c.args.code.now c.args.request.now.func.now c.args.request.now.args.now c.func_named.result c.in_default.is c.func_named.ensures

pub unreachable-requires : goal.unreachable-requires
unreachable-requires g c = entry_there c.args.code.now c.args.request.now.func.now c.in-Some.func.index (sym c.in-Some.ensures) (uncoded c.args.code.now c.in-Some.func.index c.in_default-func.ensures.code)

pub returns-then-as_slice-request-clause-fault : goal.returns-then-as_slice-request-clause-fault
returns-then-as_slice-request-clause-fault g c =
    wrong_count c.args.code.now c.args.request.now.func.now c.in-Some.func.index c.in-Some-func.found.now c.args.request.now.args.now c.in-Some-func.ensures.code c.in-Some-func.ensures.finds c.in-Some.ensures
    (rw c.as_slice.ensures at c.if-as_slice-request.true)

pub returns-clause-starts : goal.returns-clause-starts
returns-clause-starts g c =
    may_start c.args.code.now c.args.request.now.func.now c.in-Some.func.index c.in-Some-func.found.now c.args.request.now.args.now c.in-Some-func.ensures.code c.in-Some-func.ensures.finds c.in-Some.ensures
    (rw c.as_slice.ensures at c.if-as_slice-request.false)
