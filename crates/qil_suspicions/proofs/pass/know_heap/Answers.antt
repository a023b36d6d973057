-- One more is none of none.
use Rattle.std.proofs.Common.{refl}
use Rattle.qil_suspicions.proofs.RunLemmas.{no_item}
use Rattle.qil_suspicions.proofs.pass.know_heap.Goals as goal

pub loop-part-init : goal.loop-part-init
loop-part-init g c = λ none. refl

pub loop-part-preserved : goal.loop-part-preserved
loop-part-preserved g c = λ none. no_item c.args.heap.now c.loop-part.part-index c.loop-part-test.true none

pub returns : goal.returns
returns g c = c.loop-part.invariant
