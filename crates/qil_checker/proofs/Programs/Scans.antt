-- What breaks a rule stands in the text.
use Rattle.std.proofs.Common.{◌<◌, ℕ, length, List, ⊎_elim, None}
use Rattle.qil_tree.specs.declared.ops.Class.TheVariants as classes
use Rattle.qil_rules.specs.declared.rule.Rule.{Rule}
use Rattle.qil_rules.specs.declared.rule.Rule.TheVariants.{C1, C2, C3, C4, C5, C6, C7, C8, C9, C10, C11, C12}
use Rattle.qil_rules.specs.declared.occurrence.OccurrenceKind.TheVariants.{DataName, FunctionName, Label, Edge, PhiLabel, PhiOf, Defines, Uses, Global, Returns, Long}
use Rattle.qil_rules.specs.declared.occurrence.Occurrence.{Occurrence}
use Rattle.qil_rules.specs.Rules.{Breaks}
use Rattle.qil_checker.proofs.Texts.Places.{stands_within}

pub breaks_within : (rule : Rule) (all : List (List Occurrence)) (text : List Occurrence) (n k : ℕ) → Breaks rule all text n k → k < length text
breaks_within C1 all text n k b = ⊎_elim (λ s. stands_within text k (DataName b.0) s) (λ s. stands_within text k (FunctionName b.0) s) b.1
breaks_within C2 all text n k b = stands_within text k (Label b.0) b.4
breaks_within C3 all text n k b = ⊎_elim (λ s. stands_within text k (Edge s.0 b.0) s.1) (λ s. stands_within text k (PhiLabel b.0) s) b.1
breaks_within C4 all text n k b = stands_within text k (Edge b.1 b.0) b.2
breaks_within C5 all text n k b = stands_within text k (Defines b.0 b.1) b.3
breaks_within C6 all text n k b = stands_within text k (Uses b.0 b.1) b.2
breaks_within C7 all text n k b = stands_within text k (Uses b.0 classes.L) b.1
breaks_within C8 all text n k b = stands_within text k (PhiOf b.0 b.1) b.2
breaks_within C9 all text n k b = stands_within text k (Global b.0) b.1
breaks_within C10 all text n k b = stands_within text k (Returns None) b
breaks_within C11 all text n k b = stands_within text k (Long classes.W) b
breaks_within C12 all text n k b = stands_within text k (FunctionName b.0) b.1
