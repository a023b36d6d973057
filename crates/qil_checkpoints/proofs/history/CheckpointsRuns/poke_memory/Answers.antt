-- There is room for one more position.
use Rattle.std.proofs.Common.{◌<◌, arith}
use Rattle.qil_checkpoints.proofs.HeldLemmas.{held-position}
use Rattle.qil_checkpoints.proofs.history.CheckpointsRuns.poke_memory.Goals as goal

pub poke-requires : goal.poke-requires
poke-requires g c =
    let at = held-position g.M.HasCopies.present g.M.HasCopies.kept c.args.self.now in
    let fits : c.args.self.now.position < 4611686018427387904 = omega (arith, at, c.requires.before) in
    record { before = fits; width = c.requires.width }
