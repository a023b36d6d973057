-- By the slot as by the name.
use Rattle.qil_checkpoints.proofs.checkpoints.Checkpoints.poke_temp.Goals as goal

pub returns-in-Err-clause-why : goal.returns-in-Err-clause-why
returns-in-Err-clause-why g c = c.in-Err.ensures.why c.args.value
