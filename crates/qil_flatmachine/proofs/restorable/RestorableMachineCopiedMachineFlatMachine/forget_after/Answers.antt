use Rattle.std.proofs.Common.{◌∙◌, ap}
use Rattle.qil_flatmachine.specs.Kept.{WithCopies}
use Rattle.qil_flatmachine.proofs.Copying.{states_first}
use Rattle.qil_flatmachine.proofs.restorable.RestorableMachineCopiedMachineFlatMachine.forget_after.Goals as goal

pub returns-clause-kept : goal.returns-clause-kept
returns-clause-kept g c = states_first c.args.self.now.copies _ c.args.count (rw (ap (λ (m : WithCopies _). m.copies) c.self.view_is) at c.truncate.ensures.items)
