-- Lines that a byte 10 ends, one after the other: there is one way to read them.
use Rattle.std.proofs.Common.{◌≡◌, ℕ, ◌+◌, ◌≤◌, List, [], ◌∷◌, ◌++◌, length, length-append, refl, sym, ap, ◌∙◌, append_assoc, arith, inl, inr, subst}
use Rattle.std.specs.List.{AllByRecursion, flat_map}
use Rattle.qrev_protocol.specs.Frame.{ended, IsLine, IsBlank, IsHeaderLine, header}

pub head_same : (x y : ℕ) (xs ys : List ℕ) → x ∷ xs ≡ y ∷ ys → x ≡ y
head_same x y xs ys e = cc

pub tail_same : (x y : ℕ) (xs ys : List ℕ) → x ∷ xs ≡ y ∷ ys → xs ≡ ys
tail_same x y xs ys e = cc

pub first_and_rest : {X : Type 0} (x y : X) (xs ys : List X) → x ≡ y → xs ≡ ys → x ∷ xs ≡ y ∷ ys
first_and_rest x y xs ys e f = cc

-- bytes without a 10 end no later than the first 10 comes
pub before_newline : (part more line rest : List ℕ) → IsLine part → part ++ more ≡ line ++ 10 ∷ rest → length part ≤ length line
before_newline [] more line rest h e = omega arith
before_newline (x ∷ xs) more [] rest h e = absurd (h.0 (head_same x 10 (xs ++ more) rest e))
before_newline (x ∷ xs) more (y ∷ ys) rest h e =
    let shorter = before_newline xs more ys rest h.1 (tail_same x y (xs ++ more) (ys ++ 10 ∷ rest) e) in omega arith

-- two lines that are at one place
pub same_line : (a b x y : List ℕ) → IsLine a → IsLine b → a ++ 10 ∷ x ≡ b ++ 10 ∷ y → (a ≡ b) × (x ≡ y)
same_line [] [] x y p q e = (refl, tail_same 10 10 x y e)
same_line [] (b ∷ bs) x y p q e = absurd (q.0 (sym (head_same 10 b x (bs ++ 10 ∷ y) e)))
same_line (a ∷ rest) [] x y p q e = absurd (p.0 (head_same a 10 (rest ++ 10 ∷ x) y e))
same_line (a ∷ rest) (b ∷ bs) x y p q e =
    let inner = same_line rest bs x y p.1 q.1 (tail_same a b (rest ++ 10 ∷ x) (bs ++ 10 ∷ y) e) in
    let first = head_same a b (rest ++ 10 ∷ x) (bs ++ 10 ∷ y) e in
    (first_and_rest a b rest bs first inner.0, inner.1)

pub IsLine-blank : (line : List ℕ) → IsBlank line → IsLine line
IsLine-blank line (inl e) = subst IsLine (sym e) tt
IsLine-blank line (inr e) = subst IsLine (sym e) ((λ h. omega (arith, h)), tt)

-- the lines of a header begin with lines that were read, and these others follow
pub record Follows (lines all : List (List ℕ)) (blank part rest : List ℕ) : Type 0 where
  pub more : List (List ℕ)
  pub all_is : all ≡ lines ++ more
  pub are_lines : AllByRecursion IsHeaderLine more
  pub part_is : part ≡ header more blank ++ rest

-- one line, and what comes after it
pub ended_first : (line lines part : List ℕ) → (ended line ++ lines) ++ part ≡ line ++ 10 ∷ (lines ++ part)
ended_first line lines part = append_assoc (line ++ 10 ∷ []) lines part ∙ append_assoc line (10 ∷ []) (lines ++ part)

pub follows : (lines all : List (List ℕ)) (blank part rest : List ℕ) → AllByRecursion IsHeaderLine lines → AllByRecursion IsHeaderLine all → IsBlank blank
    → flat_map ended lines ++ part ≡ header all blank ++ rest → Follows lines all blank part rest
follows [] all blank part rest h k b e = record { more = all; all_is = refl; are_lines = k; part_is = e }
follows (x ∷ xs) [] blank part rest h k b e =
    let one = same_line x blank (flat_map ended xs ++ part) rest h.0.0 (IsLine-blank blank b)
    (sym (ended_first x (flat_map ended xs) part) ∙ e ∙ append_assoc blank (10 ∷ []) rest) in
    absurd (h.0.1 (subst IsBlank (sym one.0) b))
follows (x ∷ xs) (y ∷ ys) blank part rest h k b e =
    let one = same_line x y (flat_map ended xs ++ part) (header ys blank ++ rest) h.0.0 k.0.0
    (sym (ended_first x (flat_map ended xs) part) ∙ e ∙ ap (λ v. v ++ rest) (append_assoc (ended y) (flat_map ended ys) (ended blank)) ∙ ended_first y (header ys blank) rest) in
    let inner = follows xs ys blank part rest h.1 k.1 b one.1 in record {
      more = inner.more;
      all_is = sym (first_and_rest x y (xs ++ inner.more) ys one.0 (sym inner.all_is));
      are_lines = inner.are_lines;
      part_is = inner.part_is;
    }

-- a header begins with a line that byte 10 ends
pub header_first : (lines : List (List ℕ)) (blank rest : List ℕ) → (line tail : List ℕ) × (header lines blank ++ rest ≡ line ++ 10 ∷ tail) × (length line + 1 ≤ length (header lines blank))
header_first [] blank rest = (blank, rest, append_assoc blank (10 ∷ []) rest, omega (arith, length-append blank (10 ∷ [])))
header_first (x ∷ xs) blank rest = (
  x,
  header xs blank ++ rest,
  ap (λ v. v ++ rest) (append_assoc (ended x) (flat_map ended xs) (ended blank)) ∙ ended_first x (header xs blank) rest,
  omega (arith, length-append (ended x ++ flat_map ended xs) (ended blank), length-append (ended x) (flat_map ended xs), length-append x (10 ∷ [])),
)
