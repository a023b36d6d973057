-- One name more, and at the end all: by hand, as a search takes seconds to find each.
use Rattle.std.specs.Prelude.{map}
use Rattle.qil_resolution.proofs.OneMore.{one_named, none_left}
use Rattle.qil_resolution.proofs.gather.funcs_of.Goals as goal

pub loop-func-preserved : goal.loop-func-preserved
loop-func-preserved g c = one_named (λ f. f.name) c.args.funcs.now c.loop-func.func-index c.func-item.result _ _ _ _ c.loop-func-test.true c.func-item.is c.bytes.ensures c.in_ok-note.ensures c.loop-func.invariant

pub returns : goal.returns
returns g c = none_left (λ fs. map (λ f. f.name) fs) c.args.funcs.now c.loop-func.func-index c.loop-func.names _ c.loop-func-test.false c.loop-func.invariant
