-- By the pokes between.
use Rattle.std.proofs.Common.{sym, subst, List}
use Rattle.qil_checkpoints.specs.declared.poked.Poked.{Poked}
use Rattle.qil_checkpoints.specs.Walk.{ArePoked, IsPart}
use Rattle.qil_checkpoints.proofs.Parts.{are_rising, part-poked, part-is}
use Rattle.qil_checkpoints.proofs.replaying.run_through.Goals as goal

pub part_of-requires : goal.part_of-requires
part_of-requires g c = are_rising 0 c.args.pokes.now c.requires.poked.0 c.requires.poked.2

pub replay-requires : goal.replay-requires
replay-requires g c = subst (λ (qs : List Poked). ArePoked c.args.from qs c.args.to) (sym c.part_of.ensures)
    (part-poked c.args.pokes.now c.requires.poked.0 c.args.from c.args.to c.requires.poked.2 c.requires.order c.requires.poked.1)

pub returns-clause-state : goal.returns-clause-state
returns-clause-state g c = λ s moves at.
    c.replay.ensures.state s c.args.pokes.now
    (subst (λ (qs : List Poked). IsPart c.args.pokes.now qs c.args.from c.args.to) (sym c.part_of.ensures)
    (part-is c.args.pokes.now c.requires.poked.0 c.args.from c.args.to c.requires.poked.2 c.requires.order c.requires.poked.1)) moves at
