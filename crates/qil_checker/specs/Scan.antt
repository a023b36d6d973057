-- What one text of a program breaks, and what it defines again.
use Rattle.std.specs.Prelude.{◌≡◌, ℕ, ◌<◌, List, Some}
use Rattle.qil_rules.specs.declared.rule.Rule.{Rule}
use Rattle.qil_rules.specs.declared.occurrence.Occurrence.{Occurrence}
use Rattle.qil_rules.specs.Text.{IsAgain}
use Rattle.qil_rules.specs.Rules.{Breaks, line_at}

-- the text, the n-th of its program, keeps the rule
abbrev pub Keeps : Rule → List (List Occurrence) → List Occurrence → ℕ → Type 0
Keeps rule all text n = (k : ℕ) → Breaks rule all text n k → ⊥

-- the line of the first occurrence of the text that breaks the rule
pub record Breach (rule : Rule) (all : List (List Occurrence)) (text : List Occurrence) (n line : ℕ) : Type 0 where
  pub occurrence : ℕ
  pub breaks : Breaks rule all text n occurrence
  pub first : (j : ℕ) → j < occurrence → Breaks rule all text n j → ⊥
  pub line_is : line_at text occurrence ≡ Some line

-- each temporary has at most one definition
abbrev pub IsSingle : List Occurrence → Type 0
IsSingle text = (k : ℕ) (x : List ℕ) → IsAgain text k x → ⊥

-- the temporary of the first definition that is not its temporary's first
pub record IsAgainFirst (text : List Occurrence) (temp : List ℕ) : Type 0 where
  pub occurrence : ℕ
  pub again : IsAgain text occurrence temp
  pub first : (j : ℕ) (x : List ℕ) → j < occurrence → IsAgain text j x → ⊥
