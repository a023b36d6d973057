-- One parameter after the other.
use Rattle.std.proofs.Common.{◌≡◌, ◌++◌, [], ap, refl, rules, arith}
use Rattle.qil_shadow.specs.Reads.{innermost}
use Rattle.qil_shadow.specs.Passing.{passed_by}
use Rattle.qil_shadow.proofs.KeptLemmas.{keeps_all_on}
use Rattle.qil_shadow.proofs.PassLemmas.{at_kept, gathered_copied, gathered_all}
use Rattle.qil_shadow.proofs.shadow.Shadow.gather.Goals as goal

pub loop-index-init : goal.loop-index-init
loop-index-init g c = (
  record { rest = record { calls_are = refl; memory_is = refl; names_are = refl; end_is = refl; position_is = refl; roles_are = refl }; found_is = refl },
  λ given at are.
      let none : c.truncate.new.self.items ≡ [] = search rules in
      ap (λ ms. ms ++ passed_by c.args.code.now (innermost c.args.code.now c.args.place.func.index c.args.self.now.calls.calls) c.args.params.now given) none,
)

pub loop-index-preserved : goal.loop-index-preserved
loop-index-preserved g c = (
  keeps_all_on c.args.self.now c.loop-index.self c.gather_one.new.self c.loop-index.invariant.0 c.in_ok-gather_one.ensures.rest,
  λ given at are.
      gathered_copied c.args.code.now c.args.place c.args.self.now c.loop-index.self c.loop-index.self.moved.items c.gather_one.new.self.moved.items c.args.params.now given c.loop-index.index _ c.loop-index-test.true c.loop-index.invariant.0.rest
      (c.in_ok-gather_one.ensures.moved given (at_kept c.args.code.now c.args.place c.args.self.now c.loop-index.self c.loop-index.invariant.0.rest at) are) (c.loop-index.invariant.1 given at are),
)

pub returns-clause-moved : goal.returns-clause-moved
returns-clause-moved g c = λ given at are.
    gathered_all c.args.code.now (innermost c.args.code.now c.args.place.func.index c.args.self.now.calls.calls) c.loop-index.self.moved.items c.args.params.now given c.loop-index.index (omega (arith, c.loop-index-test.false)) (c.loop-index.invariant.1 given at are)

pub returns-clause-rest : goal.returns-clause-rest
returns-clause-rest g c = c.loop-index.invariant.0
