-- One text more.
use Rattle.std.proofs.Common.{arith}
use Rattle.qil_rules.specs.Occurrences.{data_occurrences}
use Rattle.qil_checker.proofs.Programs.Gathered.{one_more}
use Rattle.qil_checker.proofs.program_index.push_datas.Goals as goal

pub loop-object-preserved : goal.loop-object-preserved
loop-object-preserved g c =
    one_more data_occurrences c.loop-object.out.items c.push.new.self.items c.in_ok-data_text.field-0 c.object-item.result c.args.datas.now c.loop-object.object-index _
    c.loop-object.invariant (omega arith) c.object-item.is c.in_ok-push.ensures.items c.in_ok-data_text.ensures
