-- One phi after the other.
use Rattle.std.proofs.Common.{◌≡◌, ◌++◌, [], ap, refl, rules, arith}
use Rattle.qil_code.specs.Numbered.{names_of}
use Rattle.qil_shadow.specs.Reads.{innermost}
use Rattle.qil_shadow.specs.Phis.{moves_from, got_by}
use Rattle.qil_shadow.proofs.KeptLemmas.{keeps_all_on}
use Rattle.qil_shadow.proofs.PassLemmas.{at_kept}
use Rattle.qil_shadow.proofs.CallInstLemmas.{given_rest}
use Rattle.qil_shadow.proofs.PhiLemmas.{got_more, got_all, alike_all}
use Rattle.qil_shadow.proofs.shadow.Shadow.do_phis.Goals as goal

pub loop-index-init : goal.loop-index-init
loop-index-init g c = (
  record { rest = record { calls_are = refl; memory_is = refl; names_are = refl; end_is = refl; position_is = refl; roles_are = refl }; found_is = refl },
  λ func left target name e at.
      let none : c.truncate.new.self.items ≡ [] = search rules in
      ap (λ ms. ms ++ got_by c.args.code.now (names_of c.args.code.now c.args.place.func.index) (innermost c.args.code.now c.args.place.func.index c.args.self.now.calls.calls) (moves_from left target)) none,
)

pub loop-index-preserved : goal.loop-index-preserved
loop-index-preserved g c = (
  keeps_all_on c.args.self.now c.loop-index.self c.gather_phi.new.self c.loop-index.invariant.0 c.in_ok-gather_phi.ensures.rest,
  λ func left target name e at.
      got_more c.args.code.now c.args.place c.args.to c.args.moves.now func left target name c.args.self.now c.loop-index.self c.loop-index.self.moved.items c.gather_phi.new.self.moved.items c.loop-index.index _ e c.loop-index-test.true c.loop-index.invariant.0.rest
      (λ a read is. c.in_ok-gather_phi.ensures.moved a (at_kept c.args.code.now c.args.place c.args.self.now c.loop-index.self c.loop-index.invariant.0.rest at) read is) (c.loop-index.invariant.1 func left target name e at),
)

pub returns-clause-calls : goal.returns-clause-calls
returns-clause-calls g c = λ func left target name e at.
    got_all c.args.code.now c.args.place c.args.to c.args.moves.now func left target name (innermost c.args.code.now c.args.place.func.index c.args.self.now.calls.calls) c.args.self.now.calls c.loop-index.self.calls _ c.loop-index.self.moved.items c.loop-index.index e
    (omega (arith, c.loop-index-test.false)) (c.loop-index.invariant.1 func left target name e at) c.loop-index.invariant.0.rest.calls_are c.put_moved.ensures.calls

pub returns-clause-alike : goal.returns-clause-alike
returns-clause-alike g c = alike_all c.loop-index.self.moved.items c.args.self.now.calls c.loop-index.self.calls _ c.loop-index.invariant.0.rest.calls_are c.put_moved.ensures.calls

pub returns-clause-rest : goal.returns-clause-rest
returns-clause-rest g c = given_rest c.args.self.now c.loop-index.self _ c.loop-index.invariant.0 c.put_moved.ensures.rest
