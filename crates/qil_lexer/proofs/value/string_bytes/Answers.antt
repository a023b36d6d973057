-- Answers to the goals of `string_bytes`.
use Rattle.std.proofs.Common.{◌≡◌, ◌≤◌, ◌-◌, length, take, drop, None, Some, ap, sym, ◌∙◌, arith}
use Rattle.std.proofs.lemmas.List.{take_rest, length-drop}
use Rattle.qil_lexer.specs.Shape.{item_len, item_value}
use Rattle.qil_lexer.proofs.Values.{values_more, values_end}
use Rattle.qil_lexer.proofs.value.string_bytes.Goals as goal

pub loop-len-preserved : goal.loop-len-preserved
loop-len-preserved g c =
    let text = c.args.text.now in
    let at = c.loop-len.at in
    let rest = take_rest text at in
    let one : item_len (drop at text) ≡ Some c.in-Some.len = ap item_len (sym rest) ∙ sym c.in-Some.ensures.is in
    let value : item_value (drop at text) ≡ c.item_value.result = ap item_value (sym rest) ∙ sym c.item_value.ensures in
    let fits : c.in-Some.len ≤ length (take (length text - at) (drop at text)) = c.in-Some.ensures.within.1 in
    record {
      within = omega (arith, ap length rest, length-drop at text, c.loop-len.invariant.within);
      goes_on = values_more c.loop-len.bytes.items c.push.new.self.items text at c.in-Some.len c.item_value.result c.in_ok-push.ensures.items c.loop-len.invariant.goes_on one value;
    }

pub returns : goal.returns
returns g c =
    let text = c.args.text.now in
    let at = c.loop-len.at in
    let none : item_len (drop at text) ≡ None = ap item_len (sym (take_rest text at)) ∙ sym c.item_len.ensures.is ∙ c.in_default.is in
    values_end c.loop-len.bytes.items text at c.requires c.loop-len.invariant.goes_on none
