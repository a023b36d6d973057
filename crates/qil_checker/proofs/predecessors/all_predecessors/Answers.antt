-- What search would try in vain at first is answered here at once.
use Rattle.std.proofs.Common.{arith}
use Rattle.std.proofs.lemmas.Grind.{common_steps}
use borrow.Author.Differences.{ints}
use Rattle.qil_checker.proofs.predecessors.all_predecessors.Goals as goal

pub loop-place-init : goal.loop-place-init
loop-place-init c = grind (ints, arith, common_steps)

pub offset_bounds-occurrences-place : goal.offset_bounds-occurrences-place
offset_bounds-occurrences-place c = grind (ints, arith, common_steps)

pub bounds-occurrences-place : goal.bounds-occurrences-place
bounds-occurrences-place c = grind (ints, arith, common_steps)

pub bytes-requires-in-Edge : goal.bytes-requires-in-Edge
bytes-requires-in-Edge c = grind (ints, arith, common_steps)

pub returns-in_err-note-in-Edge : goal.returns-in_err-note-in-Edge
returns-in_err-note-in-Edge c = grind (ints, arith, common_steps)

pub loop-place-smaller : goal.loop-place-smaller
loop-place-smaller c = grind (ints, arith, common_steps)

pub loop-place-preserved : goal.loop-place-preserved
loop-place-preserved c = grind (ints, arith, common_steps)

pub returns : goal.returns
returns c = grind (ints, arith, common_steps)
