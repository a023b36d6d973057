-- What the phi gets is set.
use Rattle.qil_shadow.specs.Reads.{innermost}
use Rattle.qil_shadow.proofs.PhiLemmas.{only_got, alike_set}
use Rattle.qil_shadow.proofs.shadow.Shadow.do_phi.Goals as goal

pub returns-clause-calls : goal.returns-clause-calls
returns-clause-calls g c = λ func left target l e at.
    only_got c.args.code.now c.args.place c.args.to c.args.only.now func left target l (innermost c.args.code.now c.args.place.func.index c.args.self.now.calls.calls) c.phi_origin-origin.result c.args.self.now.calls _ e
    (λ a read is. c.phi_origin-origin.ensures a at.own at.slots read is) c.set.ensures

pub returns-clause-alike : goal.returns-clause-alike
returns-clause-alike g c = alike_set c.args.self.now.calls _ c.args.only.now.target c.phi_origin-origin.result c.set.ensures
