-- What the sources of a phi do, for the block that is left.
use Rattle.std.specs.Prelude.{List, map, filter}
use Rattle.std.specs.Str.{bytes_eq}
use Rattle.qil_tree.specs.declared.tree.Target.{Target}
use Rattle.qil_tree.specs.declared.tree.PhiSource.{PhiSource}
use Rattle.qil_tree.specs.declared.tree.Program.{Program}
use Rattle.qil_semantics.specs.State.{Name}
use Rattle.qil_semantics.specs.Step as step
use Rattle.qil_code.specs.declared.numbered.PhiMove.{PhiMove}
use Rattle.qil_code.specs.Numbered.{move_of}

abbrev pub given : Target → PhiSource → step.PhiMove
given to q = record { target = to; value = q.value }

abbrev pub source_moves : {A : Type 0} → Program A → List Name → Name → Target → List PhiSource → List PhiMove
source_moves p ns left to sources = map (move_of p ns) (map (given to) (filter (λ q. bytes_eq q.label left) sources))
