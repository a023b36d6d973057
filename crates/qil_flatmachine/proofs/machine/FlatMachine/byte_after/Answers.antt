-- After the last address nothing is live.
use Rattle.std.proofs.Common.{◌≡◌, ◌+◌, ◌∙◌, ap, arith, sym}
use Rattle.qil_history.proofs.FarBytes.{dead_far}
use Rattle.qil_flatmachine.specs.Seen.{FlatWhole}
use Rattle.qil_flatmachine.proofs.machine.FlatMachine.byte_after.Goals as goal

pub returns-in-None : goal.returns-in-None
returns-in-None g c =
    let top : c.top-top.result ≡ c.args.self.now.whole.memory.top = c.top-top.ensures.value ∙ ap (λ (x : FlatWhole _). x.whole.memory.top) c.self.view_is in
    sym (dead_far c.args.self.now.whole.memory (c.args.address + c.args.offset) (omega (arith, top)) (omega (arith, c.in-None.ensures)))
