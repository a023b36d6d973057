-- What the loop of `tokens` keeps, and its measure.
use Rattle.std.proofs.Common.{◌≡◌, ℕ, ◌-◌, ◌++◌, List, length, All}
use Rattle.qil_lexer.specs.declared.token.Token.{Token}
use Rattle.qil_lexer.specs.Cut.{CutsBetween}
use Rattle.qil_lexer.specs.Walk.{LiesIn}
use Rattle.qil_lexer.proofs.lexer.tokens.Given as goal

-- whatever cut goes on from here, the tokens before it go before it
abbrev pub invariant-loop-tokens : goal.invariant-loop-tokens
invariant-loop-tokens g l = record {
  text : l.lexer.text.now ≡ l.text;
  pointer : l.lexer.text.ref_ptr ≡ l.initial.lexer.text.ref_ptr;
  slices : All (LiesIn l.initial.lexer.text.ref_ptr.0 l.initial.lexer.text.ref_ptr.1) l.tokens.items;
  goes_on : (ts : List Token) (to : ℕ) → CutsBetween l.text l.lexer.at ts to → CutsBetween l.text 0 (l.tokens.items ++ ts) to;
}

abbrev pub decreases-loop-tokens : goal.decreases-loop-tokens
decreases-loop-tokens g l = length l.text - l.lexer.at
