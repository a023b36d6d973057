-- The shadow at the start, where no function has a part in a heap.
use Rattle.std.proofs.Common.{refl, sym, subst}
use Rattle.qil_suspicions.proofs.Beginning.{IsFirst, begins}
use Rattle.qil_suspicions.proofs.pass.Pass.new.Goals as goal

pub returns-clause-start : goal.returns-clause-start
returns-clause-start g c = λ none kept f args at state.
    let first : IsFirst c.code-code.result.now c.args.func.index _ = record {
      finds = c.names_are_distinct.ensures.finds;
      own = c.in_ok-shadow.ensures.own;
      lies = c.in_ok-shadow.ensures.lies;
      start = c.in_ok-shadow.ensures.start;
      top = c.in_ok-shadow.ensures.rest.0;
      found = c.in_ok-shadow.ensures.rest.1;
      roles = c.in_ok-shadow.ensures.rest.2;
    } in
    begins _ c.code-code.result.now c.args.func.index f args c.code-code.ensures (subst (IsFirst c.code-code.result.now c.args.func.index) (sym (c.in_ok-know_heap.ensures none)) first) c.new.ensures kept at state
