-- Answers to the goals of `tokens`. What the loop keeps and the ways out of it are by hand, as a search finds them late.
use Rattle.std.proofs.Common.{◌≡◌, ◌∙◌, ℕ, ◌-◌, ◌<◌, ◌≤◌, ◌∷◌, ◌++◌, List, [], length, All, sym, ap, subst, arith, rules, refl, Err}
use Rattle.std.proofs.lemmas.Result.{err_from_is_err_and}
use Rattle.std.proofs.lemmas.List.Elements.{All-push}
use Rattle.qil_lexer.specs.Cut.{IsGapBetween, TextFault}
use Rattle.qil_lexer.specs.Walk.{IsNext, IsStep, IfRefused, LiesIn}
use Rattle.qil_lexer.proofs.Law.{refused, ends, cut_no_fault, goes_on_more, step_goes, one_cut, refused_is, not_refused}
use Rattle.qil_lexer.proofs.lexer.tokens.Goals as goal
use Rattle.qil_lexer.proofs.lexer.tokens.Goals.{After-drop-tokens}
use Rattle.qil_lexer.proofs.lexer.tokens.Given.{Over}

-- what came through the `?` is the text's fault, unless memory ran out
is_fault : (g : Over) (c : After-drop-tokens g) → IfRefused c.in_err-token.field-0.0 (TextFault c.args.text.now)
is_fault g c =
    let text = c.args.text.now in
    let at = c.loop-tokens.lexer.at in
    let next : IsNext text at c.next_token.new.self.at (Err c.in_err-token.field-0.0) = subst (λ t. IsNext t at c.next_token.new.self.at (Err c.in_err-token.field-0.0)) c.loop-tokens.invariant.text c.in_err-token.ensures.next in
    refused c.in_err-token.field-0.0 text c.loop-tokens.tokens.items at c.next_token.new.self.at (omega arith) c.loop-tokens.invariant.goes_on next

pub returns-in_err-token-clause-fault : goal.returns-in_err-token-clause-fault
returns-in_err-token-clause-fault g c = let p = err_from_is_err_and c.from_residual.result c.from_residual.ensures.1 in rw (p.1, p.2) (is_fault g c)

pub returns-in_err-token-clause-only_cut : goal.returns-in_err-token-clause-only_cut
returns-in_err-token-clause-only_cut g c = λ ts short cuts.
    let p = err_from_is_err_and c.from_residual.result c.from_residual.ensures.1 in
    rw (p.1, p.2) (not_refused c.in_err-token.field-0.0 c.args.text.now ts short cuts (is_fault g c))

pub returns-in_err-token-clause-only_fault : goal.returns-in_err-token-clause-only_fault
returns-in_err-token-clause-only_fault g c = λ code line fault.
    let p = err_from_is_err_and c.from_residual.result c.from_residual.ensures.1 in
    rw (p.1, p.2) (refused_is c.in_err-token.field-0.0 c.args.text.now code line (is_fault g c) fault)

pub returns-clause-cut : goal.returns-clause-cut
returns-clause-cut g c =
    let text = c.args.text.now in
    let at = c.loop-tokens.lexer.at in
    let next = rw c.in_default.is at c.in_ok-token.ensures.next in
    let gap : IsGapBetween text at (length text) = subst (λ t. IsGapBetween t at (length t)) c.loop-tokens.invariant.text next in
    ends text c.loop-tokens.tokens.items at (length text) c.loop-tokens.invariant.goes_on gap

pub returns-clause-only_cut : goal.returns-clause-only_cut
returns-clause-only_cut g c = λ ts short cuts. one_cut c.args.text.now c.loop-tokens.tokens.items ts (returns-clause-cut g c) cuts

pub returns-clause-only_fault : goal.returns-clause-only_fault
returns-clause-only_fault g c = λ code line fault. cut_no_fault c.args.text.now c.loop-tokens.tokens.items code line (omega arith) (returns-clause-cut g c) fault

pub loop-tokens-init : goal.loop-tokens-init
loop-tokens-init g c = record {
  text = c.new-lexer.ensures.text;
  pointer = refl;
  slices = rw c.new-tokens.ensures.items (search rules);
  goes_on = λ ts to. rw (c.new-lexer.ensures.start, c.new-tokens.ensures.items) (λ cuts. cuts);
}

falls : (n m from to : ℕ) → from < to → to ≤ m → m ≡ n → n - to < n - from
falls n m from to goes inside same = omega arith

pub returns-in_err-token-clause-cut : goal.returns-in_err-token-clause-cut
returns-in_err-token-clause-cut g c = let p = err_from_is_err_and c.from_residual.result c.from_residual.ensures.1 in rw p.1 tt

pub returns-in_err-token-clause-slices : goal.returns-in_err-token-clause-slices
returns-in_err-token-clause-slices g c = let p = err_from_is_err_and c.from_residual.result c.from_residual.ensures.1 in rw p.1 tt

pub loop-tokens-smaller : goal.loop-tokens-smaller
loop-tokens-smaller g c =
    let step : IsStep c.args.text.now c.loop-tokens.lexer.at c.next_token.new.self.at c.in-Some.token =
    subst (λ t. IsStep t c.loop-tokens.lexer.at c.next_token.new.self.at c.in-Some.token) c.loop-tokens.invariant.text (rw c.in-Some.is at c.in_ok-token.ensures.next) in
    falls _ _ _ _ (step_goes c.args.text.now c.loop-tokens.lexer.at c.next_token.new.self.at c.in-Some.token step) c.next_token.new.self.in_text (ap length (c.in_ok-token.ensures.text ∙ c.loop-tokens.invariant.text))

pub loop-tokens-preserved : goal.loop-tokens-preserved
loop-tokens-preserved g c =
    let step : IsStep c.args.text.now c.loop-tokens.lexer.at c.next_token.new.self.at c.in-Some.token =
    subst (λ t. IsStep t c.loop-tokens.lexer.at c.next_token.new.self.at c.in-Some.token) c.loop-tokens.invariant.text (rw c.in-Some.is at c.in_ok-token.ensures.next) in
    let lies = rw c.in-Some.is at c.in_ok-token.ensures.lies in
    record {
      text = c.in_ok-token.ensures.text ∙ c.loop-tokens.invariant.text;
      pointer = c.in_ok-token.ensures.pointer ∙ c.loop-tokens.invariant.pointer;
      slices = rw c.in_ok-push.ensures.items
          (All-push (LiesIn c.new-lexer.result.text.ref_ptr.0 c.new-lexer.result.text.ref_ptr.1) c.loop-tokens.tokens.items c.in-Some.token c.loop-tokens.invariant.slices
          (subst (λ (p : ℕ × ℕ). LiesIn p.0 p.1 c.in-Some.token) c.loop-tokens.invariant.pointer lies));
      goes_on = λ ts to. rw c.in_ok-push.ensures.items
          (goes_on_more c.args.text.now c.loop-tokens.tokens.items c.loop-tokens.lexer.at c.next_token.new.self.at c.in-Some.token c.loop-tokens.invariant.goes_on step ts to);
    }

pub returns-clause-slices : goal.returns-clause-slices
returns-clause-slices g c = subst (λ (p : ℕ × ℕ). All (LiesIn p.0 p.1) c.loop-tokens.tokens.items) c.new-lexer.ensures.pointer c.loop-tokens.invariant.slices

pub returns-in_err-push-clause-cut : goal.returns-in_err-push-clause-cut
returns-in_err-push-clause-cut g c = let p = err_from_is_err_and c.from_residual-in_err-push.result c.from_residual-in_err-push.ensures.1 in rw p.1 tt

pub returns-in_err-push-clause-slices : goal.returns-in_err-push-clause-slices
returns-in_err-push-clause-slices g c = let p = err_from_is_err_and c.from_residual-in_err-push.result c.from_residual-in_err-push.ensures.1 in rw p.1 tt

pub returns-in_err-push-clause-fault : goal.returns-in_err-push-clause-fault
returns-in_err-push-clause-fault g c = let p = err_from_is_err_and c.from_residual-in_err-push.result c.from_residual-in_err-push.ensures.1 in rw (p.1, p.2) tt

pub returns-in_err-push-clause-only_cut : goal.returns-in_err-push-clause-only_cut
returns-in_err-push-clause-only_cut g c = λ ts short cuts. let p = err_from_is_err_and c.from_residual-in_err-push.result c.from_residual-in_err-push.ensures.1 in rw (p.1, p.2) tt

pub returns-in_err-push-clause-only_fault : goal.returns-in_err-push-clause-only_fault
returns-in_err-push-clause-only_fault g c = λ code line fault. let p = err_from_is_err_and c.from_residual-in_err-push.result c.from_residual-in_err-push.ensures.1 in rw (p.1, p.2) tt
