-- What is kept of a checked program holds of what is seen of it.
use Rattle.std.proofs.Common.{subst}
use Rattle.qil_tree.specs.Trees.{HasBlocks}
use Rattle.qil_rules.specs.Verdict.{Verdict}
use Rattle.qil_rules.specs.Rules.{WellFormed}
use Rattle.qil_rules.proofs.checked.Checked.program.Goals as goal

pub returns-clause-blocks : goal.returns-clause-blocks
returns-clause-blocks g c = subst (λ (v : Verdict g.row.A.Denot). HasBlocks v.program) c.self.view_is c.self.invariant.0

pub returns-clause-well_formed : goal.returns-clause-well_formed
returns-clause-well_formed g c = subst (λ (v : Verdict g.row.A.Denot). WellFormed v.program) c.self.view_is c.self.invariant.1
