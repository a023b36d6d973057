-- The goals of `body` that the check leaves open.
use Rattle.std.proofs.Common.{sym, ap, ◌∙◌}
use Rattle.std.proofs.lemmas.Result.{err_from_is_err_and}
use Rattle.qil_parser.specs.Token.{seen}
use Rattle.qil_parser.proofs.BodyLoop.{with_insts, sub_last, class_last, plain_last, insts_end, dest_ends, phi_ends, phi_goes_on, class_takes}
use Rattle.qil_parser.proofs.FunctionProductions.{dest_takes, sources_line_takes}
use Rattle.qil_parser.proofs.Ends.{fewest_left}
use Rattle.qil_parser.proofs.cursor.Cursor.body.Goals as goal

pub returns-in_err-line : goal.returns-in_err-line
returns-in_err-line g c =
    let p = err_from_is_err_and c.from_residual.result c.from_residual.ensures.1 in
    rw (p.1, p.2) (dest_ends c.each.phis.items (seen c.each.self.rest.now) _ c.each.invariant (sym c.starts_with.ensures ∙ c.each-test.true) c.in_err-line.field-0.0 _ c.in_err-line.ensures)

pub returns-in_err-insts : goal.returns-in_err-insts
returns-in_err-insts g c =
    let p = err_from_is_err_and c.from_residual-in_err-insts.result c.from_residual-in_err-insts.ensures.1 in
    rw (p.1, p.2) (insts_end c.in_err-insts.field-0.0 _ c.each.phis.items _ _ (sub_last c.each.phis.items (seen c.each.self.rest.now) _ c.each.invariant (sym c.starts_with.ensures ∙ c.each-test.true) _ _ c.in_ok-line.ensures (sym c.starts_class.ensures ∙ c.if-not-starts_class.true)) c.in_err-insts.ensures)

pub returns-then-not-starts_class : goal.returns-then-not-starts_class
returns-then-not-starts_class g c = rw c.new.ensures (sub_last c.each.phis.items (seen c.each.self.rest.now) _ c.each.invariant (sym c.starts_with.ensures ∙ c.each-test.true) _ _ c.in_ok-line.ensures (sym c.starts_class.ensures ∙ c.if-not-starts_class.true) ∙ ap (with_insts c.each.phis.items) c.in_ok-insts.ensures)

pub returns-in_err-insts-2 : goal.returns-in_err-insts-2
returns-in_err-insts-2 g c =
    let p = err_from_is_err_and c.from_residual-in_err-insts-2.result c.from_residual-in_err-insts-2.ensures.1 in
    rw (p.1, p.2) (insts_end c.in_err-insts-2.field-0.0 _ c.each.phis.items _ _ (class_last c.each.phis.items (seen c.each.self.rest.now) _ c.each.invariant (sym c.starts_with.ensures ∙ c.each-test.true) _ _ c.in_ok-line.ensures (sym c.starts_class.ensures ∙ c.if-not-starts_class.false) _ _ c.in_ok-class.ensures (sym c.starts_with-in-each.ensures ∙ c.if-not-starts_with.true)) c.in_err-insts-2.ensures)

pub returns-then-not-starts_with : goal.returns-then-not-starts_with
returns-then-not-starts_with g c = rw c.new-then-not-starts_with.ensures (class_last c.each.phis.items (seen c.each.self.rest.now) _ c.each.invariant (sym c.starts_with.ensures ∙ c.each-test.true) _ _ c.in_ok-line.ensures (sym c.starts_class.ensures ∙ c.if-not-starts_class.false) _ _ c.in_ok-class.ensures (sym c.starts_with-in-each.ensures ∙ c.if-not-starts_with.true) ∙ ap (with_insts c.each.phis.items) c.in_ok-insts-2.ensures)

pub returns-in_err-sources : goal.returns-in_err-sources
returns-in_err-sources g c =
    let p = err_from_is_err_and c.from_residual-in_err-sources.result c.from_residual-in_err-sources.ensures.1 in
    rw (p.1, p.2) (phi_ends c.each.phis.items (seen c.each.self.rest.now) _ c.each.invariant (sym c.starts_with.ensures ∙ c.each-test.true) _ _ c.in_ok-line.ensures (sym c.starts_class.ensures ∙ c.if-not-starts_class.false) _ _ c.in_ok-class.ensures c.in_err-sources.field-0.0 _ (sym c.starts_with-in-each.ensures ∙ c.if-not-starts_with.false) c.in_err-sources.ensures)

pub each-smaller : goal.each-smaller
each-smaller g c = fewest_left _ _ _ _ (dest_takes.fewer (seen c.each.self.rest.now) _ _ c.in_ok-line.ensures) (class_takes.fewer _ _ _ c.in_ok-class.ensures) (sources_line_takes.fewer _ _ _ c.in_ok-sources.ensures)

pub each-preserved : goal.each-preserved
each-preserved g c = rw c.in_ok-push.ensures.items (phi_goes_on c.each.phis.items (seen c.each.self.rest.now) _ c.each.invariant (sym c.starts_with.ensures ∙ c.each-test.true) _ _ c.in_ok-line.ensures (sym c.starts_class.ensures ∙ c.if-not-starts_class.false) _ _ c.in_ok-class.ensures _ _ (sym c.starts_with-in-each.ensures ∙ c.if-not-starts_with.false) c.in_ok-sources.ensures)

pub returns-in_err-insts-3 : goal.returns-in_err-insts-3
returns-in_err-insts-3 g c =
    let p = err_from_is_err_and c.from_residual-in_err-insts-3.result c.from_residual-in_err-insts-3.ensures.1 in
    rw (p.1, p.2) (insts_end c.in_err-insts-3.field-0.0 _ c.each.phis.items _ _ (plain_last c.each.phis.items (seen c.each.self.rest.now) _ c.each.invariant (sym c.starts_with.ensures ∙ c.each-test.false)) c.in_err-insts-3.ensures)

pub returns : goal.returns
returns g c = rw c.new-2.ensures (plain_last c.each.phis.items (seen c.each.self.rest.now) _ c.each.invariant (sym c.starts_with.ensures ∙ c.each-test.false) ∙ ap (with_insts c.each.phis.items) c.in_ok-insts-3.ensures)
