-- One definition fewer is left.
use Rattle.std.proofs.Common.{◌+◌, ◌++◌, drop, arith}
use Rattle.qil_rules.specs.Occurrences.{texts, texts_in}
use Rattle.qil_checker.specs.Whole.{occurrences_of}
use Rattle.qil_checker.proofs.Programs.Gathered.{one_fewer, all_in}
use Rattle.qil_checker.proofs.program_index.texts_of.Goals as goal

pub loop-definition-preserved : goal.loop-definition-preserved
loop-definition-preserved g c =
    let order = c.as_slice-definition-items.result.now in
    one_fewer order c.loop-definition.definition-index _ (occurrences_of c.loop-definition.out.items) (occurrences_of c.push_next.new.out.items ++ texts_in (drop (c.loop-definition.definition-index + 1) order) c.push_next.new.self.datas.now c.push_next.new.self.funcs.now) (texts c.args.program.now) c.loop-definition.left.datas.now c.loop-definition.left.funcs.now (omega arith) (c.in_ok-push_next.ensures (drop (c.loop-definition.definition-index + 1) order)) c.loop-definition.invariant

pub returns : goal.returns
returns g c =
    all_in c.as_slice-definition-items.result.now c.loop-definition.definition-index c.loop-definition.left.datas.now c.loop-definition.left.funcs.now
    (occurrences_of c.loop-definition.out.items) (occurrences_of c.push_datas.new.out.items) (occurrences_of c.push_funcs.new.out.items) (texts c.args.program.now)
    (omega arith) c.in_ok-push_datas.ensures c.in_ok-push_funcs.ensures c.loop-definition.invariant
