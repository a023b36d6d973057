use Rattle.qil_machine.proofs.machine.Machine.poke_named.Goals as goal

pub returns-in-Err-clause-why : goal.returns-in-Err-clause-why
returns-in-Err-clause-why g c = c.in-Err.ensures.why c.args.value
