-- What reading a whole list of tokens says of it.
use Rattle.std.proofs.Common.{◌≡◌, ℕ, Bool, true, false, ◌&&◌, if◌then◌else◌, List, [], ◌∷◌, ◌++◌, length, refl, sym, ap, subst, ◌∙◌, append-nil, arith}
use Rattle.std.proofs.lemmas.List.{append_cancel_left, append_cancel_right}
use Rattle.qil_lexer.specs.declared.token.TokenKind.{TokenKind}
use Rattle.qil_lexer.specs.declared.token.TokenKind.TheVariants as kinds
use Rattle.qil_language.specs.Reading.{Read, got, failed, has}
use Rattle.qil_language.specs.Reads.{Got, Failed, Explains, Same}
use Rattle.qil_language.proofs.Law.{and_true}
use Rattle.qil_tree.specs.declared.tree.Program.{Program}
use Rattle.qil_parser.specs.declared.terminal.Terminal.TheVariants as terminals
use Rattle.qil_parser.specs.declared.error.ParseCode.TheVariants as codes
use Rattle.qil_parser.specs.Token.{Tok, kind_terminal, code, index}
use Rattle.qil_parser.specs.Programs.{Spells, OpenAt}
use Rattle.qil_parser.specs.Words.{left_out}
use Rattle.qil_parser.specs.DataParsing.{program, def_firsts}
use Rattle.qil_parser.specs.Fault.{StopsAt, ClosesOpen, Names}
use Rattle.qil_parser.specs.Outcome.{closes, code_of}
use Rattle.qil_parser.proofs.DataProductions.{program_reads}
use Rattle.qil_parser.proofs.OpenPrograms.{program_marks}

same_refl : (ts : List Tok) → Same ts ts
same_refl [] = tt
same_refl (t ∷ ts) = refl

abbrev more_of : List ℕ
more_of = code terminals.Newline ∷ def_firsts

explained : {A : Type 0} (ts : List Tok) (o : Read Tok (Program A)) → program ts ≡ o → Explains index Spells more_of ts o
explained {A} ts o e = subst (λ (x : Read Tok (Program A)). Explains index Spells more_of ts x) e ((program_reads (length ts)).explains ts (omega arith))

too_long : (prefix : List Tok) (t : Tok) (more : List Tok) → prefix ++ t ∷ more ≡ prefix → ⊥
too_long prefix t more e =
    let h : t ∷ more ≡ [] = append_cancel_left prefix (t ∷ more) [] (e ∙ sym (append-nil prefix)) in
    absurd cc

-- all tokens are read
pub whole : {A : Type 0} (ts : List Tok) (p : Program A) → program ts ≡ got p [] → Spells ts p × ((q : Program A) → Spells ts q → q ≡ p)
whole {A} ts p e =
    let g : Got index Spells more_of ts p [] = explained ts (got p []) e in
    let all : g.prefix ≡ ts = sym (g.parts ∙ append-nil g.prefix) in
    (subst (λ (l : List Tok). Spells l p) all g.spelled, λ q s. (g.only ts q [] [] s refl (append-nil ts ∙ g.parts) tt).1)

-- a program ends before the tokens do
pub stops_after : {A : Type 0} (ts : List Tok) (p : Program A) (t : Tok) (after : List Tok) → program ts ≡ got p (t ∷ after) → (prefix : List Tok) × StopsAt A ts prefix (t ∷ after)
stops_after {A} ts p t after e =
    let g : Got index Spells more_of ts p (t ∷ after) = explained ts (got p (t ∷ after)) e in (
      g.prefix,
      record {
        parts = g.parts;
        refused = λ q s. too_long g.prefix t after (sym g.parts ∙ (g.only ts q [] (t ∷ after) s refl (append-nil ts ∙ g.parts) refl).0);
        longest = λ u rest h more q s. let same : t ≡ u = ap (head_or t) h in too_long g.prefix u more (g.only (g.prefix ++ u ∷ more) q [] (u ∷ more) s refl (append-nil (g.prefix ++ u ∷ more)) same).0;
        ending = [];
        program = p;
        begun = subst (λ (l : List Tok). Spells l p) (sym (append-nil g.prefix)) g.spelled;
      },
    )
  where
    head_or : Tok → List Tok → Tok
    head_or d [] = d
    head_or d (v ∷ l) = v

-- no program begins with the tokens that were read and the next
pub stops_at : {A : Type 0} (ts : List Tok) (k : Bool) (rest : List Tok) → program {A = A} ts ≡ failed k rest → (prefix : List Tok) × StopsAt A ts prefix rest
stops_at {A} ts k rest e =
    let g : Failed index (Spells {A = A}) more_of ts rest = explained ts (failed k rest) e in (
      g.prefix,
      record {
        parts = g.parts;
        refused = λ q s. g.none ts q [] rest s refl (append-nil ts ∙ g.parts) (same_refl rest);
        longest = λ u after h more q s. g.none (g.prefix ++ u ∷ more) q [] (u ∷ more) s refl (append-nil (g.prefix ++ u ∷ more)) (subst (λ (l : List Tok). Same l (u ∷ more)) (sym h) refl);
        ending = g.ending;
        program = g.value;
        begun = g.begun;
      },
    )

-- ---- the mark

marked_open : {A : Type 0} (ts prefix rest : List Tok) → ts ≡ prefix ++ rest → program {A = A} ts ≡ failed true rest → OpenAt A prefix
marked_open {A} ts prefix rest e h =
    let k = (program_marks {A = A} (length ts)).opens ts rest (omega arith) h in
    subst (OpenAt A) (append_cancel_right k.0 prefix rest (sym k.1 ∙ e)) k.2

open_marked : {A : Type 0} (ts prefix : List Tok) (t : Tok) (after : List Tok) → ts ≡ prefix ++ t ∷ after → ClosesOpen A prefix t → program {A = A} ts ≡ failed true (t ∷ after)
open_marked {A} ts prefix t after e c =
    let h : has (code terminals.CloseBrace ∷ []) (index t) ≡ true = ap (λ (k : TokenKind). has (code terminals.CloseBrace ∷ []) (code (kind_terminal k t.text))) c.1 in
    ap (program {A = A}) e ∙ (program_marks (length (prefix ++ t ∷ after))).stops prefix t after (omega arith) h c.0

closes_is : (kind : TokenKind) → closes kind ≡ true → kind ≡ kinds.CloseBrace
closes_is kinds.CloseBrace h = refl
closes_is _ h = absurd cc

is_closes : (kind : TokenKind) → kind ≡ kinds.CloseBrace → closes kind ≡ true
is_closes kind e = ap closes e

pick : {A : Type 0} (prefix : List Tok) (t : Tok) (b left : Bool) → left_out t.kind t.text ≡ left → (b ≡ true → ClosesOpen A prefix t) → (b ≡ false → ClosesOpen A prefix t → ⊥) → Names A prefix t (if b then codes.P4 else (if left then codes.P2 else codes.P1))
pick prefix t true left e f g = f refl
pick prefix t false true e f g = (g refl, e)
pick prefix t false false e f g = (g refl, e)

-- the mark says what the token is called
pub named_by : {A : Type 0} (ts prefix : List Tok) (t : Tok) (after : List Tok) (k : Bool) → ts ≡ prefix ++ t ∷ after → (k ≡ true → program {A = A} ts ≡ failed true (t ∷ after)) → (program {A = A} ts ≡ failed true (t ∷ after) → k ≡ true) → Names A prefix t (code_of k t.kind t.text)
named_by {A} ts prefix t after k e there back =
    pick {A = A} prefix t (k && closes t.kind) (left_out t.kind t.text) refl
    (λ h. let a = and_true k (closes t.kind) h in (marked_open ts prefix (t ∷ after) e (there a.0), closes_is t.kind a.1))
    (λ h c. let one : k ≡ true = back (open_marked ts prefix t after e c) in let two : closes t.kind ≡ true = is_closes t.kind c.1 in let both : k && closes t.kind ≡ true = rw (one, two) refl in let bad : true ≡ false = sym both ∙ h in absurd cc)
