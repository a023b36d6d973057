-- No stop so far has the number.
use Rattle.std.proofs.Common.{◌≡◌, false, take}
use Rattle.qil_stops.specs.Listed.{is_listed}
use Rattle.qil_stops.proofs.stops.index_of.Given as goal

abbrev pub invariant-loop-index : goal.invariant-loop-index
invariant-loop-index l = is_listed l.number (take l.index l.stops) ≡ false
