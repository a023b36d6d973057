-- Each run goes on where the one before came to the limit.
use Rattle.std.proofs.Common.{rules, ◌≡◌}
use Rattle.qil_semantics.specs.declared.reason.Reason.TheVariants as reasons
use Rattle.qrev_recorder.specs.qil_replies.qil_stops.declared.depth_end.DepthEnd.TheVariants as ends
use Rattle.qrev_debuggee.specs.Moves.{once}
use Rattle.qrev_debuggee.proofs.Backing.{once_more}
use Rattle.qrev_debuggee.proofs.motion.go_to_beginning.Goals as goal

pub loop-init : goal.loop-init
loop-init g c = once _ _ c.in_ok-end.ensures.run

pub loop-preserved : goal.loop-preserved
loop-preserved g c =
    let limit : c.loop.end ≡ ends.Stopped reasons.Limit = search rules in
    once_more _ _ _ _ c.loop.end _ c.loop.invariant limit c.in_ok-end-2.ensures.run
