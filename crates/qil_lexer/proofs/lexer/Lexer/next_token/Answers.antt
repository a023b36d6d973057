-- Answers to the goals of `next_token`. Each way out is by hand, as a search finds it late: what stands behind the gap, in words of the text before it.
use Rattle.std.proofs.Common.{◌≡◌, ◌∙◌, ℕ, ◌+◌, ◌-◌, ◌≤◌, List, [], length, drop, take, count_by, eqb, arith, subst, sym, ap, refl}
use Rattle.std.proofs.lemmas.List.{take_rest, length-drop, length-take-le}
use Rattle.qil_lexer.specs.declared.token.TokenKind.{TokenKind}
use Rattle.qil_lexer.specs.declared.token.Token.{Token}
use Rattle.qil_lexer.specs.Cut.{IsGapBetween, Fails, line_of}
use Rattle.qil_lexer.specs.Walk.{IsStep}
use Rattle.qil_lexer.specs.Prefix.{BeginsNoGap, IsPrefixToken}
use Rattle.qil_lexer.proofs.Walk.{line_more, begins_no_gap_behind}
use Rattle.qil_lexer.proofs.lexer.Lexer.next_token.Goals as goal

-- a gap up to where nothing is left
to_end : (text : List ℕ) (from at : ℕ) → drop at text ≡ [] → at ≤ length text → IsGapBetween text from at → IsGapBetween text from (length text)
to_end text from at none inside gap =
    let count = length-drop at text in
    let left : length (drop at text) ≡ 0 = ap length none in
    let same : at ≡ length text = omega arith in
    subst (IsGapBetween text from) same gap

-- a gap, and the token that stands behind it
step : (text : List ℕ) (from at to line n : ℕ) (kind : TokenKind) (token : Token) → IsGapBetween text from at → line ≡ line_of text at → IsPrefixToken kind n (drop at text) → token.kind ≡ kind → token.text.now ≡ take n (drop at text) → token.start ≡ at
    → token.line ≡ line → to ≡ at + n → IsStep text from to token
step text from at to line n kind token gap line_is prefix is slice start on to_is =
    let count : length token.text.now ≡ n = ap length slice ∙ length-take-le n (drop at text) prefix.longest.fits in
    record {
      gap = rw start gap;
      token_of = record {
        longest = rw (count, is, start) prefix.longest;
        slice = rw (count, start) slice;
        line = rw start (on ∙ line_is);
        in_range = λ number. rw slice (prefix.in_range (sym is ∙ number));
      };
      ends = rw (start, count) to_is;
    }

pub prefix_token-requires : goal.prefix_token-requires
prefix_token-requires c =
    let text = c.skip_gap.new.self.text.now in
    let at = c.skip_gap.new.self.at in
    let gap : IsGapBetween text c.args.self.now.at at = subst (λ t. IsGapBetween t c.args.self.now.at at) (sym c.skip_gap.ensures.text) c.skip_gap.ensures.gap in
    subst BeginsNoGap (sym (take_rest text at)) (begins_no_gap_behind text c.args.self.now.at at gap)

pub invariant_of-self : goal.invariant_of-self
invariant_of-self c =
    let text = c.skip_gap.new.self.text.now in
    let at = c.skip_gap.new.self.at in
    let n = c.in-Ok-Some.found.1 in
    let h = rw c.in-Ok-Some.field-0-is at c.in-Ok-Some.ensures in
    let prefix : IsPrefixToken c.in-Ok-Some.found.0 n (drop at text) = subst (IsPrefixToken c.in-Ok-Some.found.0 n) (take_rest text at) h in
    let count : c.newline_count.result ≡ count_by (λ b. eqb b 10) (take n (drop at text)) = subst (λ s. c.newline_count.result ≡ count_by (λ b. eqb b 10) (take n s)) (take_rest text at) c.newline_count.ensures in
    record {
      in_text = omega (arith, prefix.longest.fits, length-drop at text, c.skip_gap.new.self.in_text);
      bounded = c.skip_gap.new.self.bounded;
      on_line = omega (arith, c.skip_gap.new.self.on_line, line_more text at n, count);
    }

pub returns-in-Ok-None-clause-next : goal.returns-in-Ok-None-clause-next
returns-in-Ok-None-clause-next c =
    let text = c.skip_gap.new.self.text.now in
    let at = c.skip_gap.new.self.at in
    let none = rw c.in-Ok-None.field-0-is at c.in-Ok-None.ensures in
    let inside : at ≤ length c.args.self.now.text.now = subst (λ t. at ≤ length t) c.skip_gap.ensures.text c.skip_gap.new.self.in_text in
    to_end c.args.self.now.text.now c.args.self.now.at at (ap (drop at) (sym c.skip_gap.ensures.text) ∙ sym (take_rest text at) ∙ none) inside c.skip_gap.ensures.gap

pub returns-in-Err-clause-next : goal.returns-in-Err-clause-next
returns-in-Err-clause-next c =
    let text = c.skip_gap.new.self.text.now in
    let at = c.skip_gap.new.self.at in
    record {
      at = at;
      gap = c.skip_gap.ensures.gap;
      fails = subst (λ t. Fails c.in-Err.code (drop at t)) c.skip_gap.ensures.text (subst (Fails c.in-Err.code) (take_rest text at) c.in-Err.ensures);
      line_is = c.skip_gap.new.self.on_line ∙ ap (λ t. line_of t at) c.skip_gap.ensures.text;
    }

pub slice_bounds-token-end : goal.slice_bounds-token-end
slice_bounds-token-end c = let h = rw c.in-Ok-Some.field-0-is at c.in-Ok-Some.ensures in sym (length-take-le c.in-Ok-Some.found.1 _ h.longest.fits)

pub returns-clause-next : goal.returns-clause-next
returns-clause-next c =
    let text = c.skip_gap.new.self.text.now in
    let at = c.skip_gap.new.self.at in
    let n = c.in-Ok-Some.found.1 in
    let h = rw c.in-Ok-Some.field-0-is at c.in-Ok-Some.ensures in
    let there : take (length text - at) (drop at text) ≡ drop at c.args.self.now.text.now = take_rest text at ∙ ap (drop at) c.skip_gap.ensures.text in
    let prefix : IsPrefixToken c.in-Ok-Some.found.0 n (drop at c.args.self.now.text.now) = subst (IsPrefixToken c.in-Ok-Some.found.0 n) there h in
    step c.args.self.now.text.now c.args.self.now.at at _ c.skip_gap.new.self.line n c.in-Ok-Some.found.0 _ c.skip_gap.ensures.gap (c.skip_gap.new.self.on_line ∙ ap (λ t. line_of t at) c.skip_gap.ensures.text) prefix refl (ap (take n) there) refl refl refl
