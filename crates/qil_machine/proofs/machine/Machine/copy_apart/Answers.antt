-- What is made is kept, and what holds of it holds then.
use Rattle.qil_machine.proofs.Keeping.{kept_does, kept_made, kept_weight, kept_fault, kept_same}
use Rattle.qil_machine.proofs.machine.Machine.copy_apart.Goals as goal

pub returns-clause-does : goal.returns-clause-does
returns-clause-does g c = kept_does _ c.copy_bytes.result c.keep_made.result _ c.keep_made.ensures.kept c.copy_bytes.ensures.does

pub returns-clause-made : goal.returns-clause-made
returns-clause-made g c = kept_made _ _ c.copy_bytes.result c.keep_made.result _ c.keep_made.ensures.kept c.copy_bytes.ensures.made

pub returns-clause-weighs : goal.returns-clause-weighs
returns-clause-weighs g c = kept_weight _ c.copy_bytes.result c.keep_made.result _ c.keep_made.ensures.kept c.copy_bytes.ensures.weighs

pub returns-clause-fault : goal.returns-clause-fault
returns-clause-fault g c = kept_fault _ c.copy_bytes.result c.keep_made.result _ c.keep_made.ensures.kept c.copy_bytes.ensures.fault

pub returns-clause-err : goal.returns-clause-err
returns-clause-err g c = kept_same _ c.copy_bytes.result c.keep_made.result _ c.keep_made.ensures.kept c.copy_bytes.ensures.err
