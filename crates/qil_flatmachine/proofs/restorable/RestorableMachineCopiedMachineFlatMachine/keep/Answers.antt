use Rattle.std.proofs.Common.{subst}
use Rattle.qil_flatmachine.specs.Seen.{FlatWhole}
use Rattle.qil_flatmachine.specs.Kept.{IsOf}
use Rattle.qil_flatmachine.proofs.Copying.{copy_added}
use Rattle.qil_flatmachine.proofs.restorable.RestorableMachineCopiedMachineFlatMachine.keep.Goals as goal

pub invariant_of-self-2 : goal.invariant_of-self-2
invariant_of-self-2 g c =
    copy_added _ _ _ _ _ c.reserve.ensures.items c.push_reserved.ensures.items c.self.invariant (subst (λ (m : FlatWhole _). IsOf m.base c.in_ok-copy.copy) c.deref.ensures c.in_ok-copy.ensures.of)
