-- Where the poke is made the clone stays: by hand, so that another list of clones is refused at once.
use Rattle.std.proofs.Common.{refl}
use Rattle.qil_undo_log.proofs.snapshots.poke_cloned.Goals as goal

pub returns-clause-kept : goal.returns-clause-kept
returns-clause-kept g c = refl
