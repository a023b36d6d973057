use Rattle.std.proofs.Common.{◌≡◌, ◌∙◌, ◌+◌, ap, suc, arith}
use Rattle.qil_flatmachine.specs.Kept.{WithCopies}
use Rattle.qil_flatmachine.proofs.Copying.{states_without}
use Rattle.qil_flatmachine.proofs.restorable.RestorableMachineCopiedMachineFlatMachine.forget.Goals as goal

pub returns-clause-kept : goal.returns-clause-kept
returns-clause-kept g c =
    let next : suc c.args.index ≡ c.args.index + 1 = omega arith in
    states_without c.args.self.now.copies _ c.args.index (rw next at (rw (ap (λ (m : WithCopies _). m.copies) c.self.view_is) at c.remove.ensures.items))
