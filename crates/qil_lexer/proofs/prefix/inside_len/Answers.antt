-- Answers to the goals of `inside_len`.
use Rattle.std.proofs.Common.{◌≡◌, ◌≤◌, ◌-◌, suc, length, take, drop, arith, subst, sym, ap, ◌∙◌, Some}
use Rattle.std.proofs.lemmas.List.{take_rest, length-drop, drop-drop}
use Rattle.std.proofs.lemmas.Result.{err_from_is_err_and}
use Rattle.qil_lexer.specs.Shape.{Items, item_len}
use Rattle.qil_lexer.specs.Prefix.{IsClosed, StopFails}
use Rattle.qil_lexer.proofs.Items.{items_push, inside_longest, inside_fails}
use Rattle.qil_lexer.proofs.prefix.inside_len.Goals as goal

pub loop-len-preserved : goal.loop-len-preserved
loop-len-preserved c =
    let tail = c.args.tail.now in
    let end = c.loop-len.end in
    let items = c.loop-len.invariant.items in
    let one : item_len (drop end tail) ≡ Some c.in-Some.len = ap item_len (sym (take_rest tail end)) ∙ sym c.in-Some.ensures.is in
    let within : c.in-Some.len ≤ length (take (length tail - end) (drop end tail)) = c.in-Some.ensures.within.1 in
    record {
      within = omega (arith, ap length (take_rest tail end), length-drop end tail, c.loop-len.invariant.within);
      items = (suc items.0, subst (λ r. Items (suc items.0) tail r) (drop-drop c.in-Some.len end tail) (items_push items.0 c.in-Some.len tail (drop end tail) items.1 one));
    }

pub returns : goal.returns
returns c =
    let tail = c.args.tail.now in
    let end = c.loop-len.end in
    let items = c.loop-len.invariant.items in
    inside_longest items.0 end tail c.loop-len.invariant.within items.1 (subst IsClosed (take_rest tail end) c.in_ok-close.ensures)

pub returns-in_err-close : goal.returns-in_err-close
returns-in_err-close c =
    let tail = c.args.tail.now in
    let end = c.loop-len.end in
    let items = c.loop-len.invariant.items in
    let p = err_from_is_err_and c.from_residual.result c.from_residual.ensures.1 in
    rw (p.1, p.2) (inside_fails c.in_err-close.field-0.0 items.0 tail (drop end tail) items.1 (subst (StopFails c.in_err-close.field-0.0) (take_rest tail end) c.in_err-close.ensures))
