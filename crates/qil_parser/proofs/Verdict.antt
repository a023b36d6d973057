-- What the parser answers, from what was read.
use Rattle.std.proofs.Common.{◌≡◌, ℕ, suc, ◌-◌, ◌≤◌, ◌<◌, Bool, true, false, List, [], ◌∷◌, length, Some, Ok, Err, sym, ap, subst, ◌∙◌, arith}
use Rattle.std.specs.Prelude.{slice_get}
use Rattle.qil_lexer.specs.declared.token.Token.{Token}
use Rattle.qil_language.specs.Reading.{Read, got, failed}
use Rattle.qil_parser.specs.declared.error.ParseCode.{ParseCode}
use Rattle.qil_parser.specs.declared.error.ParseError.{ParseError}
use Rattle.qil_parser.specs.declared.error.ParseError.TheVariants as errors
use Rattle.qil_tree.specs.declared.tree.Program.{Program}
use Rattle.qil_parser.specs.Token.{Tok, tok, seen}
use Rattle.qil_parser.specs.Programs.{Spells}
use Rattle.qil_parser.specs.DataParsing.{program}
use Rattle.qil_parser.specs.Fault.{Names, TokenFault, last_line}
use Rattle.qil_parser.specs.Outcome.{TellsError, IsFault, IsProgram, IsRefusedAt}
use Rattle.qil_parser.proofs.Whole.{whole, stops_after, stops_at, named_by}
use Rattle.qil_parser.proofs.Unique.{one_fault}

pub spelled_all : {A : Type 0} (ts : List Token) (p : Program A) (rest : List Token) → program (seen ts) ≡ got p (seen rest) → length rest < 1 → Spells (seen ts) p × ((q : Program A) → Spells (seen ts) q → q ≡ p)
spelled_all ts p [] e le = whole (seen ts) p e
spelled_all ts p (t ∷ rest) e le = absurd (omega arith)

not_both : {A : Type 0} (o : Read Tok (Program A)) (p : Program A) (rest us : List Tok) → o ≡ got p rest → o ≡ failed true us → ⊥
not_both o p rest us e f = let bad : got p rest ≡ failed true us = sym e ∙ f in absurd cc

abbrev failure : (A : Type 0) → Bool → List Tok → Read Tok (Program A)
failure A k us = failed k us

same_mark : {A : Type 0} (o : Read Tok (Program A)) (k : Bool) (rest us : List Tok) → o ≡ failed k rest → o ≡ failed true us → k ≡ true
same_mark {A} o k rest us e f = let both : failure A k rest ≡ failure A true us = sym e ∙ f in cc

pub fault_after : {A : Type 0} (ts : List Token) (p : Program A) (rest : List Token) (r : ParseError) → program (seen ts) ≡ got p (seen rest) → 1 ≤ length rest → TellsError (seen ts) false (seen rest) r → IsFault A (seen ts) r
fault_after ts p [] r e le named = absurd (omega arith)
fault_after {A} ts p (t ∷ rest) (errors.Refused code line) e le named =
    let s = stops_after (seen ts) p _ (seen rest) e in
    let n = named_by {A = A} (seen ts) s.0 (tok t) (seen rest) false s.1.parts (λ h. absurd cc) (λ h. absurd (not_both (program (seen ts)) p (seen (t ∷ rest)) (seen (t ∷ rest)) e h)) in
    record { prefix = s.0; rest = seen (t ∷ rest); stops = s.1; named = (subst (Names A s.0 (tok t)) (sym named.0) n, named.1) }
fault_after ts p (t ∷ rest) errors.OutOfMemory e le named = tt

pub fault_at : {A : Type 0} (ts : List Token) (k : Bool) (rest : List Token) (r : ParseError) → program {A = A} (seen ts) ≡ failed k (seen rest) → TellsError (seen ts) k (seen rest) r → IsFault A (seen ts) r
fault_at {A} ts k [] (errors.Refused code line) e named =
    let s = stops_at {A = A} (seen ts) k [] e in
    record { prefix = s.0; rest = []; stops = s.1; named = named }
fault_at {A} ts k (t ∷ rest) (errors.Refused code line) e named =
    let s = stops_at {A = A} (seen ts) k (seen (t ∷ rest)) e in
    let n = named_by {A = A} (seen ts) s.0 (tok t) (seen rest) k s.1.parts (λ h. e ∙ ap (λ (b : Bool). failed b (seen (t ∷ rest))) h) (λ h. same_mark (program (seen ts)) k (seen (t ∷ rest)) (seen (t ∷ rest)) e h) in
    record { prefix = s.0; rest = seen (t ∷ rest); stops = s.1; named = (subst (Names A s.0 (tok t)) (sym named.0) n, named.1) }
fault_at ts k rest errors.OutOfMemory e named = tt

-- ---- nothing else is answered

pub no_program : {A : Type 0} (ts : List Tok) (r : ParseError) → IsFault A ts r → (p : Program A) → Spells ts p → IsProgram p (Err r)
no_program ts (errors.Refused code line) f p s = absurd (f.stops.refused p s)
no_program ts errors.OutOfMemory f p s = tt

pub no_fault : {A : Type 0} (ts : List Tok) (p : Program A) → Spells ts p → (code : ParseCode) (line : ℕ) → TokenFault A ts code line → IsRefusedAt code line (Ok p)
no_fault ts p s code line f = f.stops.refused p s

pub that_fault : {A : Type 0} (ts : List Tok) (r : ParseError) → IsFault A ts r → (code : ParseCode) (line : ℕ) → TokenFault A ts code line → IsRefusedAt {A = A} code line (Err r)
that_fault ts (errors.Refused c l) g code line f = one_fault ts c code l line g f
that_fault ts errors.OutOfMemory g code line f = tt

pub last_is : (ts : List Token) (t : Token) → Some t ≡ slice_get ts (length ts - 1) → t.line ≡ last_line (seen ts)
last_is [] t e = absurd cc
last_is (u ∷ []) t e = let f : Some t ≡ Some u = e in let h : t ≡ u = cc in ap (λ (x : Token). x.line) h
last_is (u ∷ (v ∷ ts)) t e =
    let n : length (u ∷ (v ∷ ts)) - 1 ≡ suc (length (v ∷ ts) - 1) = omega arith in
    last_is (v ∷ ts) t (e ∙ ap (slice_get (u ∷ (v ∷ ts))) n)
