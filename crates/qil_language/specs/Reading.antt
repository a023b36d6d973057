-- Reading from left to right, one token ahead.
use Rattle.std.specs.Prelude.{ℕ, zero, suc, Bool, true, false, ◌||◌, cond, eqb, List, [], ◌∷◌, ◌++◌, length, Option, Some, None}

-- what was read and the tokens after it, or the tokens from the first that fits nothing on
pub data Read (T A : Type 0) : Type 0 where
  got : A → List T → Read T A
  failed : Bool → List T → Read T A

infixl 10 ◌>>=◌
abbrev pub ◌>>=◌ : {T A B : Type 0} → Read T A → (A × List T → Read T B) → Read T B
(got a rest) >>= f = f (a, rest)
(failed e rest) >>= f = failed e rest

-- membership in a set of token kinds
abbrev pub has : List ℕ → ℕ → Bool
has [] n = false
has (k ∷ ks) n = eqb k n || has ks n

abbrev pub starts : {T : Type 0} → (T → ℕ) → List ℕ → List T → Bool
starts index set [] = false
starts index set (t ∷ ts) = has set (index t)

abbrev pub taken : {T A : Type 0} → Option A → T → List T → Read T A
taken (Some a) t ts = got a ts
taken None t ts = failed false (t ∷ ts)

abbrev pub one : {T A : Type 0} → (T → Option A) → List T → Read T A
one f [] = failed false []
one f (t ∷ ts) = taken (f t) t ts

abbrev pub nothing : {T A : Type 0} → A → List T → Read T A
nothing a ts = got a ts

abbrev pub seq : {T A B : Type 0} → (List T → Read T A) → (List T → Read T B) → List T → Read T (A × B)
seq r s ts = r ts >>= λ x. s x.1 >>= λ y. got (x.0, y.0) y.1

abbrev pub image : {T A B : Type 0} → (A → B) → (List T → Read T A) → List T → Read T B
image f r ts = r ts >>= λ x. got (f x.0) x.1

-- the first where a token of the set comes, else the second
abbrev pub either : {T A : Type 0} → (T → ℕ) → List ℕ → (List T → Read T A) → (List T → Read T A) → List T → Read T A
either index set r s ts = cond (starts index set ts) (r ts) (s ts)

-- as long as a token of the set comes, at most n times
abbrev pub many_at : {T A : Type 0} → (T → ℕ) → List ℕ → (List T → Read T A) → ℕ → List T → Read T (List A)
many_at index set r zero ts = got [] ts
many_at index set r (suc n) ts = cond (starts index set ts) (r ts >>= λ x. many_at index set r n x.1 >>= λ y. got (x.0 ∷ y.0) y.1) (got [] ts)

abbrev pub many : {T A : Type 0} → (T → ℕ) → List ℕ → (List T → Read T A) → List T → Read T (List A)
many index set r ts = many_at index set r (length ts) ts

abbrev pub cons_of : {A : Type 0} → A × List A → List A
cons_of v = v.0 ∷ v.1

-- after a first item: a separator, then an item and so on, or nothing
abbrev pub tail_at : {T A : Type 0} → (T → ℕ) → List ℕ → List ℕ → (List T → Read T (Unit {0})) → (List T → Read T A) → ℕ → List T → Read T (List A)
tail_at index sep set c r zero ts = got [] ts
tail_at index sep set c r (suc n) ts = either index sep (image (λ v. v.1) (seq c (either index set (image cons_of (seq r (tail_at index sep set c r n))) (nothing [])))) (nothing []) ts

abbrev pub tail : {T A : Type 0} → (T → ℕ) → List ℕ → List ℕ → (List T → Read T (Unit {0})) → (List T → Read T A) → List T → Read T (List A)
tail index sep set c r ts = tail_at index sep set c r (length ts) ts

-- what was read before, and what is still read
abbrev pub joined : {T A : Type 0} → List A → Read T (List A) → Read T (List A)
joined prefix o = o >>= λ x. got (prefix ++ x.0) x.1

-- the same, with a mark where no token of the set comes
abbrev pub flagged : {T A : Type 0} → (T → ℕ) → List ℕ → (List T → Read T A) → List T → Read T A
flagged index set r ts = cond (starts index set ts) (r ts) (failed true ts)
