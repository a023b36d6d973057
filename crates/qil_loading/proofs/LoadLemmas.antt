-- From the contracts of the lexer, the parser and the checker to that of loading.
use Rattle.std.proofs.Common.{◌≡◌, ℕ, ◌≤◌, ◌^◌, List, [], ◌∷◌, length, refl, sym, ap, ◌∙◌, subst, inl, inr}
use Rattle.std.specs.Prelude.{Result, Ok, Err, IfErr, IsErrAnd, MatchResult, map}
use Rattle.std.proofs.lemmas.Bool.{cases_lt}
use Rattle.qil_lexer.specs.declared.token.Token.{Token}
use Rattle.qil_lexer.specs.declared.error.LexCode.{LexCode}
use Rattle.qil_lexer.specs.declared.error.LexCode.TheVariants.{L6}
use Rattle.qil_lexer.specs.declared.error.LexError.{LexError}
use Rattle.qil_lexer.specs.declared.error.LexError.TheVariants as lex
use Rattle.qil_lexer.specs.Cut.{Cuts, TextFault, SameTokens, TokenContent, content_of}
use Rattle.qil_lexer.specs.Walk.{IfRefused}
use Rattle.qil_parser.specs.declared.error.ParseCode.{ParseCode}
use Rattle.qil_parser.specs.declared.error.ParseError.{ParseError}
use Rattle.qil_parser.specs.declared.error.ParseError.TheVariants as parse
use Rattle.qil_tree.specs.declared.tree.Program.{Program}
use Rattle.qil_parser.specs.Token.{Tok, tok, seen}
use Rattle.qil_parser.specs.Programs.{Spells}
use Rattle.qil_parser.specs.Fault.{TokenFault}
use Rattle.qil_parser.specs.Outcome.{IsFault, IsProgram}
use Rattle.qil_rules.specs.declared.rule.Rule.{Rule}
use Rattle.qil_checker.specs.declared.checker.CheckError.{CheckError}
use Rattle.qil_checker.specs.declared.checker.CheckError.TheVariants as check
use Rattle.qil_rules.specs.Occurrences.{texts}
use Rattle.qil_rules.specs.Rules.{WellFormed, Broken}
use Rattle.qil_rules.specs.Verdict.{Verdict}
use Rattle.qil_checker.specs.Check.{IsReported}
use Rattle.qil_loading.specs.declared.refusal.Refusal.{Refusal}
use Rattle.qil_loading.specs.declared.refusal.Refusal.TheVariants as refusals
use Rattle.qil_loading.specs.declared.load.LoadError.{LoadError}
use Rattle.qil_loading.specs.declared.load.LoadError.TheVariants.{OutOfMemory}
use Rattle.qil_loading.specs.Load.{IsProgramOf, Checks, RefusesCheck, IsCheckFault}
use Rattle.qil_loading.specs.LoadError.{of_lex, of_parse, of_check}

-- ---- tokens that say the same are the same to the parser

tok_of : TokenContent → Tok
tok_of content = record { kind = content.kind; text = content.bytes; line = content.line }

seen-contents : (ts : List Token) → seen ts ≡ map tok_of (map content_of ts)
unfolding tok_of
seen-contents [] = refl
seen-contents (t ∷ ts) = ap (λ (rest : List Tok). tok t ∷ rest) (seen-contents ts)

pub same_seen : (ts us : List Token) → SameTokens ts us → seen us ≡ seen ts
same_seen ts us same = seen-contents us ∙ ap (λ (contents : List TokenContent). map tok_of contents) (sym same) ∙ sym (seen-contents ts)

-- ---- what the lexer refuses

pub lex_refused : (A : Type 0) (text : List ℕ) (e : LexError) (load : LoadError) → IfRefused e (TextFault text) → load ≡ of_lex e → IsCheckFault A text load
lex_refused A text (lex.Refused code line) load reported is = rw is reported
lex_refused A text lex.OutOfMemory load reported is = rw is tt

lex_wanting : (e : LexError) → IfRefused e (λ code line. ⊥) → of_lex e ≡ OutOfMemory
lex_wanting (lex.Refused code line) reported = absurd reported
lex_wanting lex.OutOfMemory reported = refl

-- a text with a program is not refused by it
pub lex_accepts : {A : Type 0} (text : List ℕ) (e : LexError) (load : LoadError) (verdict : Verdict A) → Checks text verdict →
    ((ts : List Token) → length text ≤ 2 ^ 20 → Cuts text ts → IfRefused e (λ code line. ⊥)) → load ≡ of_lex e → load ≡ OutOfMemory
lex_accepts text e load verdict accepts only_cut is =
    is ∙ lex_wanting e (only_cut accepts.of_text.tokens accepts.of_text.short accepts.of_text.cut)

-- a text with tokens is no longer than it may be
pub short_text : (text : List ℕ) → ((code : LexCode) (line : ℕ) → TextFault text code line → ⊥) → length text ≤ 2 ^ 20
short_text text only_fault = elim (cases_lt (2 ^ 20) (length text)) [
  | inl gt ↦ absurd (only_fault L6 1 (inl (gt, refl, refl)))
  | inr le ↦ le
]

-- ---- what the parser refuses

pub parse_refused : (A : Type 0) (text : List ℕ) (ts : List Token) (e : ParseError) (load : LoadError) → length text ≤ 2 ^ 20 → Cuts text ts →
    IsFault A (seen ts) e → load ≡ of_parse e → IsCheckFault A text load
parse_refused A text ts (parse.Refused code line) load short cut fault is = rw is (record { tokens = ts; short = short; cut = cut; fault = fault })
parse_refused A text ts parse.OutOfMemory load short cut fault is = rw is tt

parse_wanting : {A : Type 0} (p : Program A) (e : ParseError) → IsProgram p (Err e) → of_parse e ≡ OutOfMemory
parse_wanting p (parse.Refused code line) reported = absurd reported
parse_wanting p parse.OutOfMemory reported = refl

-- the program of a text is spelled by the tokens that were found
pub spelled_here : {A : Type 0} (text : List ℕ) (ts : List Token) (p : Program A) →
    ((us : List Token) → length text ≤ 2 ^ 20 → Cuts text us → SameTokens ts us) → IsProgramOf text p → Spells (seen ts) p
spelled_here text ts p only_cut of_text =
    subst (λ (toks : List Tok). Spells toks p) (same_seen ts of_text.tokens (only_cut of_text.tokens of_text.short of_text.cut)) of_text.spelled

pub parse_accepts : {A : Type 0} (text : List ℕ) (ts : List Token) (e : ParseError) (load : LoadError) (verdict : Verdict A) → Checks text verdict →
    ((us : List Token) → length text ≤ 2 ^ 20 → Cuts text us → SameTokens ts us) →
    ((p : Program A) → Spells (seen ts) p → IsProgram p (Err e)) → load ≡ of_parse e → load ≡ OutOfMemory
parse_accepts text ts e load verdict accepts only_cut only_spelled is =
    is ∙ parse_wanting verdict.program e (only_spelled verdict.program (spelled_here text ts verdict.program only_cut accepts.of_text))

-- ---- what the checker refuses

pub check_refused : {A : Type 0} (text : List ℕ) (p : Program A) (e : CheckError) (load : LoadError) → IsProgramOf text p → IsReported (texts p) e → load ≡ of_check e → IsCheckFault A text load
check_refused text p (check.Refused rule line) load of_text reported is = rw is (record { program = p; of_text = of_text; breaks = reported })
check_refused text p check.OutOfMemory load of_text reported is = rw is tt

pub check_accepts : {A : Type 0} (text : List ℕ) (ts : List Token) (p : Program A) (e : CheckError) (load : LoadError) (verdict : Verdict A) → Checks text verdict →
    ((us : List Token) → length text ≤ 2 ^ 20 → Cuts text us → SameTokens ts us) →
    ((q : Program A) → Spells (seen ts) q → IsProgram q (Ok p)) →
    (WellFormed p → e ≡ check.OutOfMemory) → load ≡ of_check e → load ≡ OutOfMemory
check_accepts {A} text ts p e load verdict accepts only_cut only_spelled only_kept is =
    let same : p ≡ verdict.program = only_spelled verdict.program (spelled_here text ts verdict.program only_cut accepts.of_text) in
    let shortage : e ≡ check.OutOfMemory = only_kept (subst (λ (q : Program A). WellFormed q) (sym same) accepts.well_formed) in
    is ∙ ap (λ (x : CheckError). of_check x) shortage

-- a text that is refused gives no program
pub none_refused : (A : Type 0) (text : List ℕ) (ts : List Token) (p : Program A) (refusal : Refusal) → RefusesCheck A text refusal →
    ((code : LexCode) (line : ℕ) → TextFault text code line → ⊥) →
    ((us : List Token) → length text ≤ 2 ^ 20 → Cuts text us → SameTokens ts us) →
    ((code : ParseCode) (line : ℕ) → TokenFault A (seen ts) code line → ⊥) →
    ((q : Program A) → Spells (seen ts) q → IsProgram q (Ok p)) →
    ((rule : Rule) (line : ℕ) → Broken p rule line → ⊥) → ⊥
none_refused A text ts p (refusals.Text code line) h only_fault only_cut no_fault only_spelled no_broken = only_fault code line h
none_refused A text ts p (refusals.Tokens code line) h only_fault only_cut no_fault only_spelled no_broken =
    no_fault code line (subst (λ (toks : List Tok). TokenFault A toks code line) (same_seen ts h.tokens (only_cut h.tokens h.short h.cut)) h.fault)
none_refused A text ts p (refusals.Rule rule line) h only_fault only_cut no_fault only_spelled no_broken =
    let same : p ≡ h.program = only_spelled h.program (spelled_here text ts h.program only_cut h.of_text) in
    no_broken rule line (subst (λ (q : Program A). Broken q rule line) (sym same) h.breaks)
none_refused A text ts p (refusals.Layout code line) h only_fault only_cut no_fault only_spelled no_broken = absurd h
none_refused A text ts p (refusals.Start fault) h only_fault only_cut no_fault only_spelled no_broken = absurd h

-- what is said of each error that comes so is said of the result
pub err_from : {T E : Type 0} (r : Result T E) (Q P : E → Type 0) → IsErrAnd r Q → ((e : E) → Q e → P e) → IfErr r P
err_from (Ok x) Q P h f = tt
err_from (Err e) Q P h f = f e h

pub err_match : {T E : Type 0} (r : Result T E) (Q P : E → Type 0) (R : T → Type 0) → IsErrAnd r Q → ((e : E) → Q e → P e) → MatchResult r R P
err_match (Ok x) Q P R h f = absurd h
err_match (Err e) Q P R h f = f e h

-- the program that was found is that of any verdict on the text
pub same_program : {A : Type 0} (text : List ℕ) (ts : List Token) (p : Program A) (verdict : Verdict A) → Checks text verdict →
    ((us : List Token) → length text ≤ 2 ^ 20 → Cuts text us → SameTokens ts us) → ((q : Program A) → Spells (seen ts) q → IsProgram q (Ok p)) → p ≡ verdict.program
same_program text ts p verdict accepts only_cut only_spelled = only_spelled verdict.program (spelled_here text ts verdict.program only_cut accepts.of_text)
