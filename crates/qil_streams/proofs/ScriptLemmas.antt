-- The lines of a script that is cut after some of its lines.
use Rattle.std.proofs.Common.{◌≡◌, ◌≢◌, ℕ, ◌<◌, List, [], ◌∷◌, ◌++◌, length, arith, sym, ◌∙◌, ap, refl, false, nat_eq, append_assoc}
use Rattle.std.proofs.lemmas.List.{append-nil}
use Rattle.qil_streams.specs.Reader.{IsLine}
use Rattle.qil_streams.specs.Script.{lines_of, whole_lines_of}

ne_false : (b : ℕ) → b ≢ 10 → nat_eq b 10 ≡ false
ne_false b h = grind arith

pub lines_of-line : (line more : List ℕ) → IsLine line → lines_of (line ++ 10 ∷ more) ≡ line ∷ lines_of more
lines_of-line [] more h = refl
lines_of-line (b ∷ bs) more h = rw (ne_false b h.0, lines_of-line bs more h.1) refl

pub lines_of-last : (line : List ℕ) → IsLine line → 0 < length line → lines_of line ≡ line ∷ []
lines_of-last [] h lt = absurd (omega arith)
lines_of-last (b ∷ []) h lt = rw (ne_false b h.0) refl
lines_of-last (b ∷ c ∷ bs) h lt = rw (ne_false b h.0, lines_of-last (c ∷ bs) h.1 (omega arith)) refl

pub whole_lines_of-line : (line more : List ℕ) → IsLine line → whole_lines_of (line ++ 10 ∷ more) ≡ line ∷ whole_lines_of more
whole_lines_of-line [] more h = refl
whole_lines_of-line (b ∷ bs) more h = rw (ne_false b h.0, whole_lines_of-line bs more h.1) refl

pub whole_lines_of-part : (line : List ℕ) → IsLine line → whole_lines_of line ≡ []
whole_lines_of-part [] h = refl
whole_lines_of-part (b ∷ bs) h = rw (ne_false b h.0, whole_lines_of-part bs h.1) refl

-- the bytes so far are these whole lines, whatever comes next
pub record WholeLines (done : List ℕ) (before : List (List ℕ)) : Type 0 where
  pub lines : (more : List ℕ) → lines_of (done ++ more) ≡ before ++ lines_of more
  pub whole : (more : List ℕ) → whole_lines_of (done ++ more) ≡ before ++ whole_lines_of more

pub WholeLines-nil : WholeLines [] []
WholeLines-nil = record { lines = λ more. refl; whole = λ more. refl }

pub WholeLines-line : (done : List ℕ) (before : List (List ℕ)) (line : List ℕ) → WholeLines done before → IsLine line → WholeLines (done ++ (line ++ 10 ∷ [])) (before ++ line ∷ [])
WholeLines-line done before line whole_lines is_line = record {
  lines = λ more. simp append_assoc (whole_lines.lines (line ++ 10 ∷ more) ∙ ap (λ v. before ++ v) (lines_of-line line more is_line));
  whole = λ more. simp append_assoc (whole_lines.whole (line ++ 10 ∷ more) ∙ ap (λ v. before ++ v) (whole_lines_of-line line more is_line));
}

pub WholeLines-whole_part : (done : List ℕ) (before : List (List ℕ)) (line : List ℕ) → WholeLines done before → IsLine line → whole_lines_of (done ++ line) ≡ before
WholeLines-whole_part done before line whole_lines is_line = whole_lines.whole line ∙ ap (λ v. before ++ v) (whole_lines_of-part line is_line) ∙ append-nil before

pub WholeLines-end : (done : List ℕ) (before : List (List ℕ)) → WholeLines done before → lines_of done ≡ before
WholeLines-end done before whole_lines = ap (λ v. lines_of v) (sym (append-nil done)) ∙ whole_lines.lines [] ∙ append-nil before

pub WholeLines-last : (done : List ℕ) (before : List (List ℕ)) (line : List ℕ) → WholeLines done before → IsLine line → 0 < length line → lines_of (done ++ line) ≡ before ++ line ∷ []
WholeLines-last done before line whole_lines is_line some = whole_lines.lines line ∙ ap (λ v. before ++ v) (lines_of-last line is_line some)
