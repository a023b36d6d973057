-- What it means that a reader reads a language: what it gives is the only way to read, and where it fails no way goes on.
use Rattle.std.specs.Prelude.{◌≡◌, ℕ, ◌≤◌, ◌<◌, Bool, true, false, ◌&&◌, not, List, [], ◌∷◌, ◌++◌, length}
use Rattle.qil_language.specs.Reading.{Read, got, failed, has, starts}

-- ---- sets of kinds of tokens

-- a set, if
abbrev pub when : Bool → List ℕ → List ℕ
when true xs = xs
when false xs = []

-- no member in common
abbrev pub apart : List ℕ → List ℕ → Bool
apart [] ys = true
apart (x ∷ xs) ys = not (has ys x) && apart xs ys

-- each member is one of the other's
abbrev pub within : List ℕ → List ℕ → Bool
within [] ys = true
within (x ∷ xs) ys = has ys x && within xs ys

-- ---- a reader and a language

-- nothing more of the two lists than their heads counts
abbrev pub Same : {T : Type 0} → List T → List T → Type 0
Same [] [] = Unit {0}
Same [] (t ∷ z) = ⊥
Same (t ∷ rest) [] = ⊥
Same (t ∷ rest) (u ∷ z) = t ≡ u

-- Of these tokens a prefix represents the value, and no other prefix that the rest doesn't go on with is a phrase:
-- not of these tokens, nor of others that begin with the prefix and the next token.
pub record Got {T A : Type 0} (index : T → ℕ) (S : List T → A → Type 0) (more : List ℕ) (ts : List T) (a : A) (rest : List T) : Type 0 where
  pub prefix : List T
  pub parts : ts ≡ prefix ++ rest
  pub spelled : S prefix a
  pub only : (p : List T) (b : A) (w z : List T) → S p b → starts index more w ≡ false → p ++ w ≡ prefix ++ z → Same rest z → (p ≡ prefix) × (b ≡ a)

-- A prefix begins a phrase, and with the next token (or the end) after it, it begins none.
pub record Failed {T A : Type 0} (index : T → ℕ) (S : List T → A → Type 0) (more : List ℕ) (ts rest : List T) : Type 0 where
  pub prefix : List T
  pub parts : ts ≡ prefix ++ rest
  pub ending : List T
  pub value : A
  pub begun : S (prefix ++ ending) value
  pub none : (p : List T) (b : A) (w z : List T) → S p b → starts index more w ≡ false → p ++ w ≡ prefix ++ z → Same rest z → ⊥

-- what a reading says of the tokens
abbrev pub Explains : {T A : Type 0} → (T → ℕ) → (List T → A → Type 0) → List ℕ → List T → Read T A → Type 0
Explains index S more ts (got a rest) = Got index S more ts a rest
Explains index S more ts (failed e rest) = Failed index S more ts rest

-- the first token is one of a set, or there is none where that may be
abbrev pub Begins : {T : Type 0} → (T → ℕ) → List ℕ → Bool → List T → Type 0
Begins index first empty [] = empty ≡ true
Begins index first empty (t ∷ ts) = has first (index t) ≡ true

-- no failure with a mark
abbrev pub Quiet : {T A : Type 0} → Read T A → Type 0
Quiet (got a rest) = Unit {0}
Quiet (failed e rest) = e ≡ false

-- r reads S in up to limit tokens: what it gives is the only reading, and where it fails, no reading goes on.
-- Phrases begin with a token of first, or have none where empty; a token of more may go on with a phrase.
pub record Reads {T A : Type 0} (limit : ℕ) (calm : Bool) (index : T → ℕ) (S : List T → A → Type 0) (r : List T → Read T A) (first : List ℕ) (empty : Bool) (more : List ℕ) : Type 0 where
  pub explains : (ts : List T) → length ts ≤ limit → Explains index S more ts (r ts)
  pub begins : (p : List T) (a : A) → S p a → Begins index first empty p
  pub text : List T
  pub value : A
  pub example : S text value
  -- whether no failure of r is marked
  pub quiet : calm ≡ true → (ts : List T) → Quiet (r ts)

-- r fails with a mark after a phrase of O, before a token of ends; and with a mark only after a phrase of O
pub record Marks {T A : Type 0} (limit : ℕ) (index : T → ℕ) (O : List T → Type 0) (r : List T → Read T A) (first : List ℕ) (empty : Bool) (ends : List ℕ) : Type 0 where
  pub opens : (ts rest : List T) → length ts ≤ limit → r ts ≡ failed true rest → (p : List T) × (ts ≡ p ++ rest) × O p
  pub begins : (p : List T) → O p → Begins index first empty p
  pub stops : (p : List T) (t : T) (after : List T) → length (p ++ t ∷ after) ≤ limit → has ends (index t) ≡ true → O p → r (p ++ t ∷ after) ≡ failed true (t ∷ after)

-- what is read takes a token or more
pub record Takes {T A : Type 0} (r : List T → Read T A) : Type 0 where
  pub fewer : (ts : List T) (a : A) (rest : List T) → r ts ≡ got a rest → length rest < length ts
