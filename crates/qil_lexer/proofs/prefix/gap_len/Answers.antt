-- Answers to the goals of `gap_len`.
use Rattle.std.proofs.Common.{◌≡◌, ◌+◌, refl, subst}
use Rattle.std.proofs.lemmas.List.{take_rest}
use Rattle.qil_lexer.specs.Cut.{IsLongestGap}
use Rattle.qil_lexer.proofs.Gaps.{gap_of, gap_longest, gap_of-parts}
use Rattle.qil_lexer.proofs.prefix.gap_len.Goals as goal

pub returns : goal.returns
returns c =
    let n = c.spacing_len-spaces.result in
    let bytes = c.args.bytes.now in
    let e : gap_of bytes ≡ n + c.comment_len.result = rw (gap_of-parts bytes, ← c.spacing_len-spaces.ensures.is, c.comment_len.ensures.is, take_rest bytes n) refl in
    subst (λ k. IsLongestGap k bytes) e (gap_longest bytes)
