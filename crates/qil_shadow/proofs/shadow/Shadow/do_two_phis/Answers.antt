-- What both get is set, one after the other.
use Rattle.qil_shadow.specs.Reads.{innermost}
use Rattle.qil_shadow.proofs.PhiLemmas.{both_got, alike_set, alike_on}
use Rattle.qil_shadow.proofs.shadow.Shadow.do_two_phis.Goals as goal

pub returns-clause-calls : goal.returns-clause-calls
returns-clause-calls g c = λ func left target l e at.
    both_got c.args.code.now c.args.place c.args.to c.args.first.now c.args.second.now func left target l (innermost c.args.code.now c.args.place.func.index c.args.self.now.calls.calls) c.phi_origin-origin.result c.phi_origin-other.result
    c.args.self.now.calls c.set.new.self _ e (λ a read is. c.phi_origin-origin.ensures a at.own at.slots read is) (λ a read is. c.phi_origin-other.ensures a at.own at.slots read is) c.set.ensures c.set-2.ensures

pub returns-clause-alike : goal.returns-clause-alike
returns-clause-alike g c =
    alike_on c.args.self.now.calls c.set.new.self _ (alike_set c.args.self.now.calls c.set.new.self c.args.first.now.target c.phi_origin-origin.result c.set.ensures)
    (alike_set c.set.new.self _ c.args.second.now.target c.phi_origin-other.result c.set-2.ensures)
