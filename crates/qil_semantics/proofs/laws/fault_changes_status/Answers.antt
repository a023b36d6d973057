-- The goals of `fault_changes_status` that the check leaves open.
use Rattle.qil_semantics.proofs.laws.fault_changes_status.Goals as goal
use Rattle.qil_semantics.proofs.FaultLemmas.{fault_changes_status}

pub returns : goal.returns
returns g c p s h = fault_changes_status p s h
