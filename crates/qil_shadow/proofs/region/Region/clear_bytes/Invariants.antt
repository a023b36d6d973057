-- With the bytes that are left it would be all.
use Rattle.std.proofs.Common.{◌≡◌, ◌+◌, ◌-◌, length, replicate}
use Rattle.qil_shadow.specs.declared.origin.ByteOrigin.TheVariants.{Number}
use Rattle.qil_shadow.specs.Bytes.{laid_origins}
use Rattle.qil_shadow.specs.Words.{kept}
use Rattle.qil_shadow.proofs.region.Region.clear_bytes.Given as goal

abbrev pub invariant-loop-index : goal.invariant-loop-index
invariant-loop-index g l =
    (length l.self ≡ length l.fn.self)
    × (laid_origins (kept l.self) (l.at + l.index) (replicate (l.count - l.index) Number) ≡ laid_origins (kept l.fn.self) l.at (replicate l.count Number))
