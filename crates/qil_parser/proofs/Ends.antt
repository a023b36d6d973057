-- Loops that stop at a fault, and the tokens that are left to them.
use Rattle.std.proofs.Common.{◌≡◌, ℕ, ◌<◌, Bool, true, false, ◌||◌, cond, eqb, List, [], ◌∷◌, drop, length, get_or, Option, Some, None, ap, sym, ◌∙◌, arith, refl}
use Rattle.qil_lexer.specs.declared.token.Token.{Token}
use Rattle.qil_language.specs.Reading.{Read, got, taken, starts, many, tail}
use Rattle.qil_language.specs.Reads.{Takes}
use Rattle.qil_language.proofs.Loop.{with_prefix, many_fails, past, past_goes_on, past_fails, past_stops, items_then, separated_fails}
use Rattle.qil_parser.specs.declared.cursor_error.CursorError.{CursorError}
use Rattle.qil_parser.specs.declared.cursor_error.CursorError.TheVariants as ends
use Rattle.qil_parser.specs.declared.terminal.Terminal.{Terminal}
use Rattle.qil_parser.specs.declared.terminal.Terminal.TheVariants as terminals
use Rattle.qil_parser.specs.Token.{Tok, tok, seen, code, index}
use Rattle.qil_parser.specs.Parsing.{the, word}
use Rattle.qil_parser.specs.FunctionParsing as functions
use Rattle.qil_parser.specs.Functions.{jump_or}
use Rattle.qil_parser.specs.DataParsing.{loose, newlines}
use Rattle.qil_parser.specs.Outcome.{Fails}
use Rattle.qil_parser.proofs.DataProductions.{newline_takes}

seen_length : (ts : List Token) → length (seen ts) ≡ length ts
seen_length [] = refl
seen_length (t ∷ ts) = omega (arith, seen_length ts)

pub fewer_left : (ts us : List Token) → length (seen us) < length (seen ts) → length us < length ts
fewer_left ts us h = omega (arith, seen_length ts, seen_length us)

pub many_ends : {A : Type 0} (index : Tok → ℕ) (set : List ℕ) (r : List Tok → Read Tok A) (takes : Takes r) (e : CursorError) (left : List Tok) (prefix : List A) (ts : List Tok) (total : Read Tok (List A)) → starts index set ts ≡ true → Fails e left (r ts) → with_prefix prefix (many index set r ts) ≡ total → Fails e left total
many_ends index set r takes ends.Memory left prefix ts total h f so_far = tt
many_ends index set r takes (ends.Refused k) left prefix ts total h f so_far = many_fails index set r takes prefix ts k left total h f so_far

pub past_ends : {A : Type 0} (index : Tok → ℕ) (set : List ℕ) (r : List Tok → Read Tok A) (takes : Takes r) (e : CursorError) (left : List Tok) (ts : List Tok) → starts index set ts ≡ true → Fails e left (r ts) → Fails e left (past index set r ts)
past_ends index set r takes ends.Memory left ts h f = tt
past_ends index set r takes (ends.Refused k) left ts h f = past_fails index set r takes ts k left h f

pub separated_ends : {A : Type 0} (index : Tok → ℕ) (sep set : List ℕ) (c : List Tok → Read Tok (Unit {0})) (r : List Tok → Read Tok A) (takes_sep : Takes c) (takes : Takes r) (e : CursorError) (left : List Tok) (prefix : List A) (ts : List Tok) (total : Read Tok (List A)) → starts index set ts ≡ true → Fails e left (r ts) → with_prefix prefix (items_then index sep set c r takes_sep takes (tail index sep set c r) ts) ≡ total → Fails e left total
separated_ends index sep set c r takes_sep takes ends.Memory left prefix ts total h f so_far = tt
separated_ends index sep set c r takes_sep takes (ends.Refused k) left prefix ts total h f so_far = separated_fails index sep set c r takes_sep takes prefix ts k left total h f so_far

pub fewer_still : (ts us vs : List Token) → length (seen us) < length (seen ts) → length (seen vs) < length (seen us) → length vs < length ts
fewer_still ts us vs h k = omega (arith, seen_length ts, seen_length vs)

pub fewest_left : (ts us vs ws : List Token) → length (seen us) < length (seen ts) → length (seen vs) < length (seen us) → length (seen ws) < length (seen vs) → length ws < length ts
fewest_left ts us vs ws h k l = omega (arith, seen_length ts, seen_length us, seen_length vs, seen_length ws, h, k, l)

-- ---- a word that is known to come next

abbrev got_word : List Tok → Read Tok (Unit {0})
got_word ts = got tt ts

abbrev word_if : Bool → Option (Unit {0})
word_if b = cond b (Some tt) None

word_at : (b : Bool) (t : Tok) (ts : List Tok) → b || false ≡ true → taken (word_if b) t ts ≡ got_word ts
word_at true t ts h = refl
word_at false t ts h = absurd cc

pub word_passed : (m : Terminal) (ts : List Token) → starts index (the m) (seen ts) ≡ true → word m (seen ts) ≡ got tt (seen (drop 1 ts))
word_passed m [] h = absurd cc
word_passed m (t ∷ ts) h = word_at (eqb (code m) (index (tok t))) (tok t) (seen ts) h

pub loose_comma : (ts us vs : List Tok) → word terminals.Comma ts ≡ got tt us → newlines us ≡ got tt vs → loose (word terminals.Comma) ts ≡ got tt vs
loose_comma ts us vs comma ends = rw (comma, ends) refl

-- ---- newlines

pub newlines_continue : (ts : List Token) → starts index (the terminals.Newline) (seen ts) ≡ true → newlines (seen (drop 1 ts)) ≡ newlines (seen ts)
unfolding newlines
newlines_continue ts h = past_goes_on index (the terminals.Newline) (word terminals.Newline) newline_takes (seen ts) tt (seen (drop 1 ts)) h (word_passed terminals.Newline ts h)

pub newlines_stop : (ts : List Token) → starts index (the terminals.Newline) (seen ts) ≡ false → newlines (seen ts) ≡ got tt (seen ts)
unfolding newlines
newlines_stop ts h = past_stops index (the terminals.Newline) (word terminals.Newline) newline_takes (seen ts) h

-- ---- how a block ends

without_jump : (ts : List Tok) → starts index functions.jump_starts ts ≡ false → starts index (the terminals.Label) ts ≡ true → functions.ending ts ≡ got (jump_or None (functions.next_name ts)) ts
unfolding functions.ending
without_jump ts jump label = rw (jump, label) refl

-- where no jump comes next but a label, control falls through to the block of its name
pub falls_through : (ts : List Token) (d : Token) (name : List ℕ) → starts index functions.jump_starts (seen ts) ≡ false → starts index (the terminals.Label) (seen ts) ≡ true
    → name ≡ drop 1 (get_or ts 0 d).text.now → functions.ending (seen ts) ≡ got (jump_or None ((get_or ts 0 d).line, name)) (seen ts)
falls_through [] d name jump label is = absurd cc
falls_through (t ∷ ts) d name jump label is = without_jump (seen (t ∷ ts)) jump label ∙ ap (λ x. got (jump_or None (t.line, x)) (seen (t ∷ ts))) (sym is)
