-- What `check` answers.
use Rattle.std.specs.Prelude.{◌≡◌, ℕ, List, Result, Ok, Err}
use Rattle.qil_rules.specs.declared.rule.Rule.{Rule}
use Rattle.qil_checker.specs.declared.checker.CheckError.{CheckError}
use Rattle.qil_checker.specs.declared.checker.CheckError.TheVariants.{Refused, OutOfMemory}
use Rattle.qil_rules.specs.declared.occurrence.Occurrence.{Occurrence}
use Rattle.qil_rules.specs.Rules.{AreBroken}

-- a refusal tells what is broken first
abbrev pub IsReported : List (List Occurrence) → CheckError → Type 0
IsReported all (Refused rule line) = AreBroken all rule line
IsReported all OutOfMemory = Unit {0}

abbrev pub TellsRule : Rule → ℕ → CheckError → Type 0
TellsRule rule line (Refused r l) = (r ≡ rule) × (l ≡ line)
TellsRule rule line OutOfMemory = Unit {0}

-- that refusal, unless memory ran out
abbrev pub IsRefusedBy : {T P : Type 0} → Rule → ℕ → Result T (P × CheckError) → Type 0
IsRefusedBy rule line (Ok x) = ⊥
IsRefusedBy rule line (Err e) = TellsRule rule line e.1
