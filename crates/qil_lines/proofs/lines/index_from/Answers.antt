-- Each way out, by the tests on the parts of the block.
use Rattle.std.proofs.Common.{length, refl, sym, ap, ◌∙◌, true, false}
use Rattle.std.specs.Prelude.{Some, None}
use Rattle.qil_lines.proofs.Places.{block_means, le_false, le_true}
use Rattle.qil_lines.proofs.lines.index_from.Goals as goal

pub returns-then-has_phi_from : goal.returns-then-has_phi_from
returns-then-has_phi_from g c = λ b next w.
    block_means c.args.line b c.args.block.now next false true _ _ _ (le_false c.args.line c.args.block.now.line c.if-line-block.false) (sym c.if-has_phi_from.true ∙ c.has_phi_from.ensures) refl refl refl

pub returns-in-Some : goal.returns-in-Some
returns-in-Some g c = λ b next w.
    block_means c.args.line b c.args.block.now next false false (Some c.in-Some.index) _ _ (le_false c.args.line c.args.block.now.line c.if-line-block.false)
    (sym c.if-has_phi_from.false ∙ c.has_phi_from.ensures) (sym c.in-Some.is ∙ c.inst_from.ensures) refl refl

pub returns-then-not-written : goal.returns-then-not-written
returns-then-not-written g c = λ b next w.
    block_means c.args.line b c.args.block.now next false false None false _ (le_false c.args.line c.args.block.now.line c.if-line-block.false)
    (sym c.if-has_phi_from.false ∙ c.has_phi_from.ensures) (sym c.in_default.is ∙ c.inst_from.ensures) (sym c.if-not-written.true ∙ sym w) refl

pub returns-then-line-block-2 : goal.returns-then-line-block-2
returns-then-line-block-2 g c = λ b next w.
    block_means c.args.line b c.args.block.now next false false None true true (le_false c.args.line c.args.block.now.line c.if-line-block.false)
    (sym c.if-has_phi_from.false ∙ c.has_phi_from.ensures) (sym c.in_default.is ∙ c.inst_from.ensures) (sym c.if-not-written.false ∙ sym w)
    (le_true c.args.line c.args.block.now.jump.line c.if-line-block-2.true)
    ∙ ap (λ v. Some (b, length v)) (sym c.as_slice.ensures)

pub returns : goal.returns
returns g c = λ b next w.
    block_means c.args.line b c.args.block.now next false false None true false (le_false c.args.line c.args.block.now.line c.if-line-block.false)
    (sym c.if-has_phi_from.false ∙ c.has_phi_from.ensures) (sym c.in_default.is ∙ c.inst_from.ensures) (sym c.if-not-written.false ∙ sym w)
    (le_false c.args.line c.args.block.now.jump.line c.if-line-block-2.false)
