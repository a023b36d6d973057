-- So far both had the same events.
use Rattle.std.proofs.Common.{◌≡◌, ◌≤◌}
use Rattle.qil_semantics.specs.Timeline.{position}
use Rattle.qil_compare.proofs.Fronts.{AreAlike}
use Rattle.qil_compare.proofs.comparing.compare.Given as goal

abbrev pub invariant-loop-events : goal.invariant-loop-events
invariant-loop-events g l = record {
  good_program : (g.R.Readers.whole l.good).program ≡ (g.R.Readers.whole l.fn.good).program;
  bad_program : (g.R.Readers.whole l.bad).program ≡ (g.R.Readers.whole l.fn.bad).program;
  good_near : position (g.R.Forward.timeline l.good) ≤ 1000000004294967295;
  bad_near : position (g.R.Forward.timeline l.bad) ≤ 1000000004294967295;
  alike : AreAlike l.kinds (g.R.Readers.whole l.fn.good).program (g.R.Readers.whole l.fn.bad).program (g.R.Forward.timeline l.fn.good) (g.R.Forward.timeline l.good) (g.R.Forward.timeline l.fn.bad) (g.R.Forward.timeline l.bad)
      l.events l.good_told l.bad_told;
}
