-- Answers to the goals of `tail_len`.
use Rattle.std.proofs.Common.{subst, sym, arith, inl, inr}
use Rattle.qil_lexer.proofs.Tails.{IsSigilKind, name_tail, word_tail, number_tail, newline_tail}
use Rattle.qil_lexer.proofs.prefix.tail_len.Goals as goal

pub returns-in_default : goal.returns-in_default
returns-in_default c =
    let sigil : IsSigilKind c.args.kind = elim c.in-Global.is [
      | inl a ↦ subst IsSigilKind (sym a) tt
      | inr others ↦ elim others [ inl b ↦ subst IsSigilKind (sym b) tt | inr rest ↦ elim rest [ inl l ↦ subst IsSigilKind (sym l) tt | inr d ↦ subst IsSigilKind (sym d) tt ] ]
    ] in
    rw c.name_len.ensures.is (name_tail c.args.kind c.args.first c.args.tail.now sigil (λ z. omega (arith, c.name_len.ensures.is, z)))

pub returns-in-Word : goal.returns-in-Word
returns-in-Word c = rw (c.in-Word.is, c.word_len.ensures.is) (word_tail c.args.first c.args.tail.now)

pub returns-in_default-digits_len-2 : goal.returns-in_default-digits_len-2
returns-in_default-digits_len-2 c = let n-is = c.digits_len.ensures.is in rw (c.in-Number.is, c.digits_len.ensures.is) (number_tail c.args.first c.args.tail.now (λ minus z. omega arith))

pub returns-in-Newline : goal.returns-in-Newline
returns-in-Newline c = rw c.in-Newline.is (newline_tail c.args.first c.lines_len.result c.args.tail.now c.lines_len.ensures)
