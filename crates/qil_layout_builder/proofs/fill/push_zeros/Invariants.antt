-- As many zeros as were counted stand after the others.
use Rattle.std.proofs.Common.{◌≡◌, ◌++◌, ◌≤◌, replicate}
use Rattle.qil_layout_builder.proofs.fill.push_zeros.Given as goal

abbrev pub invariant-loop : goal.invariant-loop
invariant-loop g l = (l.out.items ≡ l.fn.out.items ++ replicate l.counter 0) × (l.counter ≤ l.count)
