-- One text more.
use Rattle.std.proofs.Common.{arith}
use Rattle.qil_rules.specs.Occurrences.{func_occurrences}
use Rattle.qil_checker.proofs.Programs.Gathered.{one_more}
use Rattle.qil_checker.proofs.program_index.push_funcs.Goals as goal

pub loop-func-preserved : goal.loop-func-preserved
loop-func-preserved g c =
    one_more func_occurrences c.loop-func.out.items c.push.new.self.items c.in_ok-func_text.field-0 c.func-item.result c.args.funcs.now c.loop-func.func-index _
    c.loop-func.invariant (omega arith) c.func-item.is c.in_ok-push.ensures.items c.in_ok-func_text.ensures
