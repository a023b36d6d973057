-- The functions so far are noted.
use Rattle.std.proofs.Common.{◌≡◌, ◌+◌, ◌*◌, ◌++◌, length, map, drop}
use Rattle.qil_tree.specs.declared.tree.Program.{Program}
use Rattle.qil_shadow.specs.Objects.{function_objects}
use Rattle.qil_shadow.specs.Numbered.{object_named}
use Rattle.qil_shadow.proofs.start.note_functions.Given as goal

abbrev pub invariant-loop-index : goal.invariant-loop-index
invariant-loop-index g l = record {
  fixed : l.objects.fixed ≡ length l.objects.objects;
  starts : l.objects.starts ≡ l.fn.objects.starts;
  named : (p : Program g.row.A.Denot) → length p.funcs ≡ l.count
      → map (object_named p) l.objects.objects ++ function_objects (4096 + 16 * l.index) (drop l.index p.funcs) ≡ map (object_named p) l.fn.objects.objects ++ function_objects 4096 p.funcs;
}
