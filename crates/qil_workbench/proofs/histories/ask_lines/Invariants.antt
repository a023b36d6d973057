-- No move changes a program.
use Rattle.std.proofs.Common.{◌≡◌}
use Rattle.qil_workbench.proofs.histories.ask_lines.Given as goal

abbrev pub invariant-loop-line : goal.invariant-loop-line
invariant-loop-line g l = l.records.machine.program ≡ l.clones.machine.program
