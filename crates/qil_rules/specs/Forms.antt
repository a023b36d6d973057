-- Whether each temporary of a program has one definition.
use Rattle.std.specs.Prelude.{◌≡◌, ℕ, List, Some, slice_get}
use Rattle.qil_tree.specs.declared.tree.Program.{Program}
use Rattle.qil_rules.specs.declared.form.Form.{Form}
use Rattle.qil_rules.specs.declared.form.Form.TheVariants.{Single, Multiple}
use Rattle.qil_rules.specs.Occurrences.{Occurrence, texts}
use Rattle.qil_rules.specs.Text.{IsAgain}
use Rattle.qil_rules.specs.Rules.{HasName, Place, IsEarlier}

-- at a place a temporary is defined that was defined before in the same function
abbrev pub IsAgainAt : List (List Occurrence) → Place → List ℕ → Type 0
IsAgainAt all at x = (text : List Occurrence) × (slice_get all at.text ≡ Some text) × IsAgain text at.occurrence x

-- the first such place of the text
pub record IsFirstAgain (all : List (List Occurrence)) (func temp : List ℕ) : Type 0 where
  pub at : Place
  pub again : IsAgainAt all at temp
  pub first : (before : Place) (x : List ℕ) → IsEarlier before at → IsAgainAt all before x → ⊥
  pub name : HasName all at.text func

-- each temporary has one definition, or else that one is the first to be defined again
abbrev pub HaveForm : List (List Occurrence) → Form → Type 0
HaveForm all Single = (at : Place) (x : List ℕ) → IsAgainAt all at x → ⊥
HaveForm all (Multiple func temp) = IsFirstAgain all func temp

abbrev pub HasForm : {A : Type 0} → Program A → Form → Type 0
HasForm p form = HaveForm (texts p) form
