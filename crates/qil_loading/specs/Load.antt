-- Which texts are accepted, and for what others are refused.
use Rattle.std.specs.Prelude.{◌≡◌, ℕ, ◌≤◌, ◌^◌, List, length, Some, None, Err}
use Rattle.qil_lexer.specs.declared.token.Token.{Token}
use Rattle.qil_lexer.specs.Cut.{Cuts, TextFault}
use Rattle.qil_tree.specs.declared.tree.Program.{Program}
use Rattle.qil_parser.specs.Token.{seen}
use Rattle.qil_parser.specs.Programs.{Spells}
use Rattle.qil_parser.specs.Fault.{TokenFault}
use Rattle.qil_rules.specs.Rules.{WellFormed, Broken}
use Rattle.qil_rules.specs.Forms.{HasForm}
use Rattle.qil_rules.specs.Verdict.{Verdict}
use Rattle.qil_layout.specs.Layout.{fault_of}
use Rattle.qil_semantics.specs.Start.{start_of}
use Rattle.qil_loading.specs.declared.refusal.Refusal.{Refusal}
use Rattle.qil_loading.specs.declared.refusal.Refusal.TheVariants as refusals
use Rattle.qil_loading.specs.declared.load.LoadError.{LoadError}
use Rattle.qil_loading.specs.declared.load.LoadError.TheVariants as errors

-- the text is cut into tokens that spell the program
pub record IsProgramOf {A : Type 0} (text : List ℕ) (p : Program A) : Type 0 where
  pub tokens : List Token
  pub short : length text ≤ 2 ^ 20
  pub cut : Cuts text tokens
  pub spelled : Spells (seen tokens) p

-- the tokens of the text are no program's
pub record HasTokenFault (A : Type 0) (text : List ℕ) (refusal : List Token → Type 0) : Type 0 where
  pub tokens : List Token
  pub short : length text ≤ 2 ^ 20
  pub cut : Cuts text tokens
  pub fault : refusal tokens

-- the program of the text breaks a rule
pub record HasBrokenRule (A : Type 0) (text : List ℕ) (broken : Program A → Type 0) : Type 0 where
  pub program : Program A
  pub of_text : IsProgramOf text program
  pub breaks : broken program

-- a text that is no well-formed program
abbrev pub RefusesCheck : Type 0 → List ℕ → Refusal → Type 0
RefusesCheck A text (refusals.Text code line) = TextFault text code line
RefusesCheck A text (refusals.Tokens code line) = HasTokenFault A text (λ tokens. TokenFault A (seen tokens) code line)
RefusesCheck A text (refusals.Rule rule line) = HasBrokenRule A text (λ p. Broken p rule line)
RefusesCheck A text (refusals.Layout code line) = ⊥
RefusesCheck A text (refusals.Start fault) = ⊥

-- a text that is a well-formed program
pub record Checks {A : Type 0} (text : List ℕ) (verdict : Verdict A) : Type 0 where
  pub of_text : IsProgramOf text verdict.program
  pub well_formed : WellFormed verdict.program
  pub has_form : HasForm verdict.program verdict.form

-- a text that is a well-formed program, the data of which can be laid out
pub record Accepts {A : Type 0} (text : List ℕ) (verdict : Verdict A) : Type 0 where
  pub checks : Checks text verdict
  pub lies : fault_of verdict.program ≡ None

-- a text with an entry and arguments that is refused: the first of lexing, parsing, checking, laying out and starting
-- that fails
abbrev pub Refuses : Type 0 → List ℕ → List ℕ → List ℕ → Refusal → Type 0
Refuses A text entry args (refusals.Layout code line) = (verdict : Verdict A) × Checks text verdict × (fault_of verdict.program ≡ Some (code, line))
Refuses A text entry args (refusals.Start fault) = (verdict : Verdict A) × Accepts text verdict × (start_of verdict.program entry args ≡ Err fault)
Refuses A text entry args refusal = RefusesCheck A text refusal

abbrev pub IsCheckFault : Type 0 → List ℕ → LoadError → Type 0
IsCheckFault A text (errors.Refused refusal) = RefusesCheck A text refusal
IsCheckFault A text errors.OutOfMemory = Unit {0}
