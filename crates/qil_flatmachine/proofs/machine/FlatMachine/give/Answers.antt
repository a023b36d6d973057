use Rattle.std.proofs.Common.{Some}
use Rattle.qil_flatmachine.proofs.Written.{given_calls, given_is}
use Rattle.qil_flatmachine.proofs.machine.FlatMachine.give.Goals as goal

pub invariant_of-self : goal.invariant_of-self
invariant_of-self g c =
    (given_is _ c.self.inside.calls c.set_ip.new.self c.self.inside.memory _ _ _ c.args.self.now c.args.to (Some c.args.value) c.self.view_is c.code.ensures.flat c.self.invariant c.requires.running c.requires.receiver c.requires.next
    (given_calls c.self.inside.calls c.receive.new.calls c.set_ip.new.self c.args.to (Some c.args.value) c.ip-next.result c.ip-next.ensures c.receive.ensures c.set_ip.ensures)).is

pub returns : goal.returns
returns g c =
    (given_is _ c.self.inside.calls c.set_ip.new.self c.self.inside.memory _ _ _ c.args.self.now c.args.to (Some c.args.value) c.self.view_is c.code.ensures.flat c.self.invariant c.requires.running c.requires.receiver c.requires.next
    (given_calls c.self.inside.calls c.receive.new.calls c.set_ip.new.self c.args.to (Some c.args.value) c.ip-next.result c.ip-next.ensures c.receive.ensures c.set_ip.ensures)).view
