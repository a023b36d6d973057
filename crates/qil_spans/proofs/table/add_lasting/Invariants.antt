-- The first of those that last were added.
use Rattle.std.proofs.Common.{◌≡◌, ◌+◌, ◌≤◌, ◌-◌, ◌++◌, length}
use Rattle.std.specs.Vec.{vec_capacity}
use Rattle.qil_state.specs.State.{state_of}
use Rattle.qil_spans.specs.Table.{lasting_in}
use Rattle.qil_spans.proofs.table.add_lasting.Given as goal

abbrev pub invariant-loop-index : goal.invariant-loop-index
invariant-loop-index g l = record {
  items : l.list.items ≡ l.fn.list.items ++ lasting_in (g.M.Readers.whole l.machine).program (state_of (g.M.Readers.whole l.machine)) (length (state_of (g.M.Readers.whole l.machine)).frames - length l.begins) l.begins l.index;
  few : length l.list.items ≤ length l.fn.list.items + l.index;
  capacity : vec_capacity l.list ≡ vec_capacity l.fn.list;
}
