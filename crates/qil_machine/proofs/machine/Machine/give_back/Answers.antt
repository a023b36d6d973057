use Rattle.std.proofs.Common.{◌∙◌}
use Rattle.qil_machine.proofs.Jumps.{ret_is, returned_is}
use Rattle.qil_machine.proofs.machine.Machine.give_back.Goals as goal

pub returns-in-None-clause-does : goal.returns-in-None-clause-does
returns-in-None-clause-does g c =
    rw c.in-None.is (ret_is _ c.args.self.now c.innermost.result.now c.self.view_is c.self.invariant c.innermost.ensures
    ∙ returned_is _ c.args.self.now _ _ c.self.view_is c.self.invariant c.requires.running c.ret.ensures.after c.ret.ensures.bytes)
