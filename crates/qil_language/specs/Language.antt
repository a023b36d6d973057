-- What spells what: relations between lists of tokens and values, and the ways to put them together.
use Rattle.std.specs.Prelude.{◌≡◌, List, [], ◌∷◌, ◌++◌, Option, Some, ◌⊎◌}

-- one token, which represents the value
pub record One {T A : Type 0} (f : T → Option A) (ts : List T) (a : A) : Type 0 where
  pub token : T
  pub alone : ts ≡ token ∷ []
  pub means : f token ≡ Some a

-- no token
pub record Nothing {T A : Type 0} (x : A) (ts : List T) (a : A) : Type 0 where
  pub none : ts ≡ []
  pub value : x ≡ a

-- one phrase and then another
pub record Seq {T A B : Type 0} (S : List T → A → Type 0) (U : List T → B → Type 0) (ts : List T) (ab : A × B) : Type 0 where
  pub left : List T
  pub right : List T
  pub parts : ts ≡ left ++ right
  pub first : S left ab.0
  pub second : U right ab.1

-- a phrase, whose value is made into another
pub record Image {T A B : Type 0} (f : A → B) (S : List T → A → Type 0) (ts : List T) (b : B) : Type 0 where
  pub value : A
  pub spelled : S ts value
  pub made : f value ≡ b

-- one phrase or the other
abbrev pub Either : {T A : Type 0} → (List T → A → Type 0) → (List T → A → Type 0) → List T → A → Type 0
Either S U ts a = S ts a ⊎ U ts a

-- a phrase for each value of the list
abbrev pub Many : {T A : Type 0} → (List T → A → Type 0) → List T → List A → Type 0
Many {T} S ts [] = ts ≡ []
Many {T} S ts (a ∷ others) = (p : List T) × (q : List T) × (ts ≡ p ++ q) × S p a × Many S q others

-- After a first item: separators with an item each, and perhaps a separator at the end.
abbrev pub Tail : {T A : Type 0} → (List T → Unit {0} → Type 0) → (List T → A → Type 0) → List T → List A → Type 0
Tail {T} C S ts [] = (ts ≡ []) ⊎ C ts tt
Tail {T} C S ts (a ∷ others) = (c : List T) × (p : List T) × (q : List T) × (ts ≡ c ++ (p ++ q)) × C c tt × S p a × Tail C S q others

-- a phrase, whatever it represents
pub record Phrase {T A : Type 0} (S : List T → A → Type 0) (ts : List T) : Type 0 where
  pub value : A
  pub spelled : S ts value

-- a phrase, whatever it represents, and then the rest
pub record Then {T A : Type 0} (S : List T → A → Type 0) (O : List T → Type 0) (ts : List T) : Type 0 where
  pub left : List T
  pub right : List T
  pub parts : ts ≡ left ++ right
  pub value : A
  pub first : S left value
  pub second : O right
