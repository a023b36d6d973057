-- With the bytes that are left it would be all.
use Rattle.std.proofs.Common.{◌≡◌, ◌+◌, ◌-◌, length}
use Rattle.qil_shadow.specs.Bytes.{laid_origins, bytes_from}
use Rattle.qil_shadow.specs.Words.{kept}
use Rattle.qil_shadow.proofs.region.Region.store_bytes.Given as goal

abbrev pub invariant-loop-index : goal.invariant-loop-index
invariant-loop-index g l =
    (length l.self ≡ length l.fn.self)
    × (laid_origins (kept l.self) (l.at + l.index) (bytes_from l.count l.origin l.index (l.count - l.index)) ≡ laid_origins (kept l.fn.self) l.at (bytes_from l.count l.origin 0 l.count))
