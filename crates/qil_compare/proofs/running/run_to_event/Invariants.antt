-- The moves so far, which had no event.
use Rattle.std.proofs.Common.{◌≡◌, ◌≤◌, ◌-◌}
use Rattle.qil_compare.proofs.Walking.{IsSilent}
use Rattle.qil_compare.proofs.running.run_to_event.Given as goal

abbrev pub invariant-loop-made : goal.invariant-loop-made
invariant-loop-made g l = record {
  few : l.made ≤ l.limit;
  program : (g.R.Readers.whole l.side).program ≡ (g.R.Readers.whole l.fn.side).program;
  way : IsSilent (g.R.Readers.whole l.fn.side).program l.other l.kinds (g.R.Forward.timeline l.fn.side) l.made (g.R.Forward.timeline l.side);
}

abbrev pub decreases-loop-made : goal.decreases-loop-made
decreases-loop-made g l = l.limit - l.made
