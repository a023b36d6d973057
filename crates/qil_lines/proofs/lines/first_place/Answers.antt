-- One block more, or the place in it.
use Rattle.std.proofs.Common.{◌+◌, drop, ap, ◌∙◌}
use Rattle.qil_lines.specs.Marks.{marks_from}
use Rattle.qil_lines.specs.Lines.{place_from, at_index}
use Rattle.qil_lines.proofs.Places.{one_block, or_else}
use Rattle.qil_lines.proofs.lines.first_place.Goals as goal

pub returns-in-Some : goal.returns-in-Some
returns-in-Some g c =
    let n = c.loop-number.number in
    let blocks = c.args.func.now.blocks in
    c.loop-number.invariant
    ∙ one_block c.args.line n blocks c.as_slice-blocks.result.now c.index-blocks-number.result c.has_jump-written.result c.index_from.result c.as_slice-blocks.ensures c.loop-number-test.true
    c.index-blocks-number.is c.has_jump-written.ensures (λ b next w. c.index_from.ensures b next w)
    ∙ ap (λ v. or_else (at_index n v) (place_from c.args.line (marks_from (n + 1) (drop (n + 1) blocks)))) c.in-Some.is

pub loop-number-preserved : goal.loop-number-preserved
loop-number-preserved g c =
    let n = c.loop-number.number in
    let blocks = c.args.func.now.blocks in
    c.loop-number.invariant
    ∙ one_block c.args.line n blocks c.as_slice-blocks.result.now c.index-blocks-number.result c.has_jump-written.result c.index_from.result c.as_slice-blocks.ensures c.loop-number-test.true
    c.index-blocks-number.is c.has_jump-written.ensures (λ b next w. c.index_from.ensures b next w)
    ∙ ap (λ v. or_else (at_index n v) (place_from c.args.line (marks_from (n + 1) (drop (n + 1) blocks)))) c.in_default.is
