-- What is found of the texts holds of the program that they were made of.
use Rattle.std.proofs.Common.{subst, List, Option, MatchOption}
use Rattle.qil_checker.specs.declared.program_index.BrokenRule.{BrokenRule}
use Rattle.qil_rules.specs.declared.occurrence.Occurrence.{Occurrence}
use Rattle.qil_rules.specs.Occurrences.{texts}
use Rattle.qil_rules.specs.Rules.{AreBroken, AreWellFormed}
use Rattle.qil_checker.proofs.checker.examine.Goals as goal

pub returns-in-Some-clause-reported : goal.returns-in-Some-clause-reported
returns-in-Some-clause-reported g c =
    let found = subst (λ (all : List (List Occurrence)). MatchOption c.in_ok-refusal.field-0 (AreWellFormed all) (λ r. AreBroken all r.rule r.line)) c.in_ok-whole.ensures c.in_ok-refusal.ensures in
    let all = texts c.args.program.now in
    subst (λ (o : Option BrokenRule). MatchOption o (AreWellFormed all) (λ r. AreBroken all r.rule r.line)) c.in-Some.is found

pub returns-clause-well_formed : goal.returns-clause-well_formed
returns-clause-well_formed g c =
    let found = subst (λ (all : List (List Occurrence)). MatchOption c.in_ok-refusal.field-0 (AreWellFormed all) (λ r. AreBroken all r.rule r.line)) c.in_ok-whole.ensures c.in_ok-refusal.ensures in
    let all = texts c.args.program.now in
    subst (λ (o : Option BrokenRule). MatchOption o (AreWellFormed all) (λ r. AreBroken all r.rule r.line)) c.in-None.is found
