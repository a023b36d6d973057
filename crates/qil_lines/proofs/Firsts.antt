-- The first mark whose line isn't before a line.
use Rattle.std.proofs.Common.{◌≡◌, ℕ, ◌<◌, ◌≤◌, List, [], ◌∷◌, ◌++◌, refl, sym, ap, ◌∙◌, arith, true, false, Bool, cond}
use Rattle.std.specs.Prelude.{Option, Some, None, nat_le, IfSome, IfNone}
use Rattle.std.specs.List.{AllByRecursion}
use Rattle.std.proofs.lemmas.Bool.Decides.{nat_tests}
use Rattle.qil_lines.specs.Marks.{Mark}
use Rattle.qil_lines.specs.Lines.{place_from, IsFirst, AreBefore}
use Rattle.qil_lines.specs.Places.{pair_of}
use Rattle.qil_lines.specs.declared.lines.Place.{Place}
use Rattle.qil_lines.proofs.Places.{le_true, le_false}

pub is_le : (m n : ℕ) → nat_le m n ≡ true → m ≤ n
is_le m n h = grind (arith, nat_tests)

pub is_lt : (m n : ℕ) → nat_le m n ≡ false → n < m
is_lt m n h = grind (arith, nat_tests)

abbrev pub Found : ℕ → List Mark → ℕ × ℕ → Type 0
Found line marks p = (mark : Mark) × IsFirst line marks mark × (p.0 ≡ mark.block) × (p.1 ≡ mark.index)

pub found_later : (line : ℕ) (m : Mark) (ms : List Mark) (p : ℕ × ℕ) → m.line < line → Found line ms p → Found line (m ∷ ms) p
found_later line m ms p h f = (f.0, (m ∷ f.1.0, f.1.1, ap (λ v. m ∷ v) f.1.2, (h, f.1.3), f.1.4), f.2, f.3)

pub first_found : (line : ℕ) (marks : List Mark) (p : ℕ × ℕ) → place_from line marks ≡ Some p → Found line marks p
first_found line [] p e = let never : None ≡ Some p = e in cc
first_found line (m ∷ ms) p e = by_test (nat_le line m.line) refl e (first_found line ms p)
  where
    by_test : (t : Bool) → nat_le line m.line ≡ t → cond t (Some (m.block, m.index)) (place_from line ms) ≡ Some p → (place_from line ms ≡ Some p → Found line ms p) → Found line (m ∷ ms) p
    by_test true t h later =
        let same : (m.block, m.index) ≡ p = cc in
        (m, ([], ms, refl, tt, is_le line m.line t), ap (λ v. v.0) (sym same), ap (λ v. v.1) (sym same))
    by_test false t h later = found_later line m ms p (is_lt line m.line t) (later h)

pub none_found : (line : ℕ) (marks : List Mark) → place_from line marks ≡ None → AreBefore line marks
none_found line [] e = tt
none_found line (m ∷ ms) e = by_test (nat_le line m.line) refl e (none_found line ms)
  where
    by_test : (t : Bool) → nat_le line m.line ≡ t → cond t (Some (m.block, m.index)) (place_from line ms) ≡ None → (place_from line ms ≡ None → AreBefore line ms) → AreBefore line (m ∷ ms)
    by_test true t h later = let never : Some (m.block, m.index) ≡ None = h in cc
    by_test false t h later = (is_lt line m.line t, later h)

-- the first mark is the one that is found
pub only_first : (line : ℕ) (before after : List Mark) (mark : Mark) → AllByRecursion (λ m. m.line < line) before → line ≤ mark.line → place_from line (before ++ mark ∷ after) ≡ Some (mark.block, mark.index)
only_first line [] after mark h l = rw (← le_true line mark.line l) refl
only_first line (m ∷ ms) after mark h l = rw (← le_false line m.line h.0) (only_first line ms after mark h.1 l)

pub place_found : (line : ℕ) (marks : List Mark) (place : Option Place) → place_from line marks ≡ pair_of place
    → IfSome place (λ p. (mark : Mark) × IsFirst line marks mark × (p.block ≡ mark.block) × (p.index ≡ mark.index))
place_found line marks None e = tt
place_found line marks (Some p) e = first_found line marks (p.block, p.index) e

pub place_none : (line : ℕ) (marks : List Mark) (place : Option Place) → place_from line marks ≡ pair_of place → IfNone place (AreBefore line marks)
place_none line marks None e = none_found line marks e
place_none line marks (Some p) e = tt

pub place_only : (line : ℕ) (marks : List Mark) (place : Option Place) → place_from line marks ≡ pair_of place → (mark : Mark) → IsFirst line marks mark → pair_of place ≡ Some (mark.block, mark.index)
place_only line marks place e mark f = sym e ∙ ap (λ v. place_from line v) f.2 ∙ only_first line f.0 f.1 mark f.3 f.4
