-- Answers to the goals of `token_from`.
use Rattle.std.proofs.Common.{◌≡◌, ◌+◌, ◌∷◌, false, suc, subst, sym, arith, rules, refl}
use Rattle.std.proofs.lemmas.Bool.{false≢true}
use denote.Enum.Bare.{same_true, sameb}
use Rattle.qil_lexer.specs.contracts.token.TokenKind.{the_type}
use Rattle.qil_lexer.specs.declared.token.TokenKind.TheVariants.{Number}
use Rattle.qil_lexer.specs.Cut.{IsLongest}
use Rattle.qil_lexer.proofs.Tails.{longest_token}
use Rattle.qil_lexer.proofs.prefix.token_from.Goals as goal
use Rattle.qil_lexer.proofs.prefix.token_from.Goals.{else-eq-via-then-eq+else-not-is_in_range, else-eq-via-else-eq}

pub returns-then-not-is_in_range : goal.returns-then-not-is_in_range
returns-then-not-is_in_range c =
    let number : c.in-Some.kind ≡ Number = same_true the_type (search rules) _ _ (sym c.if-eq.ensures) in
    let longest = longest_token c.in-Some.kind c.args.first c.in_ok-len.len c.args.tail.now (sym c.in-Some.ensures.is) c.in_ok-len.ensures in
    let s : c.in_ok-len.len + 1 ≡ suc c.in_ok-len.len = omega arith in
    (suc c.in_ok-len.len, subst (λ k. IsLongest k (suc c.in_ok-len.len) (c.args.first ∷ c.args.tail.now)) number (rw s at longest), λ in_range. false≢true (c.if-not-is_in_range.ensures.1 in_range))

pub returns : goal.returns
returns c =
    let longest = longest_token c.in-Some.kind c.args.first c.in_ok-len.len c.args.tail.now (sym c.in-Some.ensures.is) c.in_ok-len.ensures in
    let s : c.in_ok-len.len + 1 ≡ suc c.in_ok-len.len = omega arith in
    record {
      longest = longest;
      in_range = λ number. elim c.else-eq.branch [
        | else-eq-via-then-eq+else-not-is_in_range w ↦ rw s (w.if-not-is_in_range.ensures.0 refl)
        | else-eq-via-else-eq w ↦ let differ : false ≡ sameb the_type c.in-Some.kind Number = w.if-eq.ensures in absurd (false≢true (rw number at differ))
      ];
    }
