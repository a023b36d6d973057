-- Answers to the goals of `lines_len`.
use Rattle.std.proofs.Common.{drop, arith, subst}
use Rattle.std.proofs.lemmas.List.{take_rest, length-drop}
use Rattle.qil_lexer.specs.Prefix.{IsLine, NoLine}
use Rattle.qil_lexer.proofs.Lines.{lines_more, lines_longest}
use Rattle.qil_lexer.proofs.prefix.lines_len.Goals as goal

pub loop-len-preserved : goal.loop-len-preserved
loop-len-preserved c =
    let tail = c.args.tail.now in
    let end = c.loop-len.end in
    let line : IsLine c.in-Some.len (drop end tail) = subst (IsLine c.in-Some.len) (take_rest tail end) c.in-Some.ensures in
    record {
      within = omega (arith, line.0, length-drop end tail, c.loop-len.invariant.within);
      lines = lines_more end c.in-Some.len tail c.loop-len.invariant.lines line;
    }

pub returns : goal.returns
returns c =
    let tail = c.args.tail.now in
    let end = c.loop-len.end in
    let none : NoLine (drop end tail) = subst NoLine (take_rest tail end) c.in_default.ensures in
    record {
      fits = c.loop-len.invariant.within;
      shape = c.loop-len.invariant.lines;
      longest = λ m lt fits lines. absurd (omega (arith, lines_longest end tail c.loop-len.invariant.within c.loop-len.invariant.lines none m fits lines));
    }
