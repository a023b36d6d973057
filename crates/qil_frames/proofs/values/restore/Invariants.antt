use Rattle.std.proofs.Common.{◌≡◌, ◌≤◌, length, drop}
use Rattle.qil_frames.specs.Enter.{put_back}
use Rattle.qil_frames.proofs.values.restore.Given as goal

abbrev pub invariant-loop-i : goal.invariant-loop-i
invariant-loop-i l = record {
  inside : l.i ≤ length l.kept;
  room : length l.values ≡ length l.fn.values;
  so_far : l.values ≡ put_back (drop l.i l.kept) l.fn.values;
}

abbrev pub decreases-loop-i : goal.decreases-loop-i
decreases-loop-i l = l.i
