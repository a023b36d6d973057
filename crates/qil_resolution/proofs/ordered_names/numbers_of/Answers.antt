-- One name more, and once all were gone through, they are noted.
use Rattle.std.specs.Prelude.{map}
use Rattle.qil_resolution.proofs.OneMore.{one_lent, none_left}
use Rattle.qil_resolution.proofs.ordered_names.numbers_of.Goals as goal

pub loop-name-preserved : goal.loop-name-preserved
loop-name-preserved g c = one_lent c.args.names.now c.loop-name.name-index _ _ _ _ c.loop-name-test.true c.in_ok-note.ensures c.loop-name.invariant

pub returns : goal.returns
returns g c = none_left (λ ns. map (λ n. n.now) ns) c.args.names.now c.loop-name.name-index c.loop-name.numbers _ c.loop-name-test.false c.loop-name.invariant
