-- What was living at the end of the list has ended, and what is in the list is living.
use Rattle.std.proofs.Common.{◌≡◌, ◌+◌, length, map, drop}
use Rattle.std.specs.List.{AllByRecursion}
use Rattle.qil_shadow.specs.Table.{IsTable, IsWithin, ends_with}
use Rattle.qil_shadow.proofs.object.Objects.end.Given as goal

abbrev pub invariant-loop : goal.invariant-loop
invariant-loop g l = record {
  table : IsTable l.self-inside.all.items l.self-inside.fixed l.self-inside.living.items l.self-inside.starts.items l.self-inside.are_apart;
  fixed : l.self-inside.fixed ≡ l.fn.self.fixed;
  starts : l.self-inside.starts.items ≡ l.fn.self.starts;
  same : map (ends_with l.depth l.position) l.self-inside.all.items ≡ map (ends_with l.depth l.position) l.fn.self.objects;
  within : AllByRecursion (IsWithin l.depth) (drop l.self-inside.fixed l.self-inside.all.items);
  left : length l.self-inside.living.items + l.counter ≡ l.end;
}
