-- Answers to the goals of `skip_gap`.
use Rattle.std.proofs.Common.{drop, arith, subst, sym, ◌∙◌}
use Rattle.std.proofs.lemmas.List.{take_rest, length-drop}
use Rattle.qil_lexer.specs.Cut.{IsLongestGap}
use Rattle.qil_lexer.proofs.Walk.{line_gap}
use Rattle.qil_lexer.proofs.lexer.Lexer.skip_gap.Goals as goal

pub invariant_of-self : goal.invariant_of-self
invariant_of-self c =
    let text = c.args.self.now.text.now in
    let at = c.args.self.now.at in
    let gap : IsLongestGap c.gap_len.result (drop at text) = subst (IsLongestGap c.gap_len.result) (take_rest text at) c.gap_len.ensures in
    record {
      in_text = omega (arith, gap.fits, length-drop at text, c.args.self.now.in_text);
      bounded = c.args.self.now.bounded;
      on_line = c.args.self.now.on_line ∙ sym (line_gap text at c.gap_len.result gap);
    }
