-- By how many phis there are.
use Rattle.std.proofs.Common.{◌≡◌, ◌∙◌, sym, subst, length, arith}
use Rattle.qil_shadow.specs.Phis.{IsEdge}
use Rattle.qil_shadow.proofs.PhiLemmas.{went_named, one_listed, two_listed}
use Rattle.qil_shadow.proofs.shadow.Shadow.take_edge.Goals as goal

pub returns-in-len1-clause-named : goal.returns-in-len1-clause-named
returns-in-len1-clause-named g c = λ f fs func left target l e label at.
    went_named c.args.code.now c.args.place c.args.edge.now.to c.args.edge.now.moves func left target l f fs c.args.self.now c.do_phi.new.self e label at
    (c.do_phi.ensures.calls func left target l
    (subst (λ ms. IsEdge c.args.code.now c.args.place c.args.edge.now.to ms func left target l)
    (sym c.as_slice.ensures ∙ one_listed c.as_slice.result.now _ (let one : length c.as_slice.result.now ≡ 1 = omega (arith, c.in-len1.len_at_least, c.in-len1.len_below) in one)) e) at) c.do_phi.ensures.rest

pub returns-in-len2-clause-named : goal.returns-in-len2-clause-named
returns-in-len2-clause-named g c = λ f fs func left target l e label at.
    went_named c.args.code.now c.args.place c.args.edge.now.to c.args.edge.now.moves func left target l f fs c.args.self.now c.do_two_phis.new.self e label at
    (c.do_two_phis.ensures.calls func left target l
    (subst (λ ms. IsEdge c.args.code.now c.args.place c.args.edge.now.to ms func left target l)
    (sym c.as_slice.ensures ∙ two_listed c.as_slice.result.now _ _ (let two : length c.as_slice.result.now ≡ 2 = omega (arith, c.in-len2.len_at_least, c.in-len2.len_below) in two)) e) at) c.do_two_phis.ensures.rest

pub returns-in_ok-do_phis-in_default-clause-named : goal.returns-in_ok-do_phis-in_default-clause-named
returns-in_ok-do_phis-in_default-clause-named g c = λ f fs func left target l e label at.
    went_named c.args.code.now c.args.place c.args.edge.now.to c.args.edge.now.moves func left target l f fs c.args.self.now c.do_phis.new.self e label at
    (c.in_ok-do_phis-in_default.ensures.calls func left target l (subst (λ ms. IsEdge c.args.code.now c.args.place c.args.edge.now.to ms func left target l) (sym c.as_slice.ensures) e) at) c.in_ok-do_phis-in_default.ensures.rest
