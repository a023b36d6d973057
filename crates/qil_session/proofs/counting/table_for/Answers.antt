-- The table is for the code of the machine.
use Rattle.std.proofs.Common.{◌≡◌, ◌∙◌, subst}
use Rattle.std.specs.Prelude.{IfOk}
use Rattle.qil_tree.specs.declared.tree.Program.{Program}
use Rattle.qil_counts.specs.Counts.{places, unmet_all}
use Rattle.qil_session.proofs.counting.table_for.Goals as goal

pub returns : goal.returns
returns g c = subst (λ (p : Program _). IfOk c.new.result (λ t. t ≡ unmet_all (places p))) (c.code_of.ensures ∙ c.machine.ensures.program) c.new.ensures
