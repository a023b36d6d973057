-- The bytes so far are copied.
use Rattle.std.proofs.Common.{◌≡◌, false}
use Rattle.qil_memory.specs.Calls.{overlap}
use Rattle.qil_shadow.specs.Bytes.{laid_origins, origins_at}
use Rattle.qil_shadow.specs.Spots.{HasSpot, origins_in}
use Rattle.qil_shadow.proofs.memory.OriginMemory.copy.Given as goal

abbrev pub invariant-loop-index : goal.invariant-loop-index
invariant-loop-index g l =
    HasSpot l.source l.count → HasSpot l.target l.count → overlap l.source l.target l.count ≡ false
    → origins_in l.self ≡ laid_origins (origins_in l.fn.self) l.target (origins_at (origins_in l.fn.self) l.source l.index)
