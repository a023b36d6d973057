-- Runs back, one after the other.
use Rattle.std.proofs.Common.{◌≡◌, subst, ℕ, []}
use Rattle.qil_semantics.specs.declared.reason.Reason.TheVariants as reasons
use Rattle.qrev_recorder.specs.qil_replies.qil_stops.declared.depth_end.DepthEnd.{DepthEnd}
use Rattle.qrev_recorder.specs.qil_replies.qil_stops.declared.depth_end.DepthEnd.TheVariants as ends
use Rattle.qrev_debuggee.specs.Moves.{Recorded, RanBackTo, RanBackPast, again}

-- where the last one came to the limit of moves another may follow
pub once_more : {A : Type 0} (old between new : Recorded A) (most : ℕ) (before end : DepthEnd) → RanBackPast old most between before → before ≡ ends.Stopped reasons.Limit → RanBackTo between new [] most end → RanBackPast old most new end
once_more {A} old between new most before end ran limit run = again between new end (subst (λ (e : DepthEnd). RanBackPast old most between e) limit ran) run
