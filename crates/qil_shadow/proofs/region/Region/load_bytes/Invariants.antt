-- The bytes so far are those that are kept.
use Rattle.std.proofs.Common.{◌≡◌, ℕ, ◌+◌, ◌<◌, get_or, length}
use Rattle.qil_shadow.specs.declared.origin.ByteOrigin.TheVariants.{Number}
use Rattle.qil_shadow.specs.Words.{kept}
use Rattle.qil_shadow.proofs.region.Region.load_bytes.Given as goal

abbrev pub invariant-loop-index : goal.invariant-loop-index
invariant-loop-index g l = (length l.found ≡ 8) × ((k : ℕ) → k < l.index → get_or l.found k Number ≡ kept l.self (l.at + k))
