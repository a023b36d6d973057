-- With those that are left it would be all.
use Rattle.std.proofs.Common.{◌≡◌, List, ◌++◌, drop}
use Rattle.qil_tree.specs.declared.tree.Argument.{Argument}
use Rattle.qil_shadow.specs.Reads.{innermost}
use Rattle.qil_shadow.specs.Kept.{KeepsAll}
use Rattle.qil_shadow.specs.Instructions.{IsAt}
use Rattle.qil_shadow.specs.Passing.{AreArguments, passed_by}
use Rattle.qil_shadow.proofs.shadow.Shadow.gather.Given as goal

abbrev pub invariant-loop-index : goal.invariant-loop-index
invariant-loop-index g l =
    KeepsAll l.fn.self l.self
    × ((given : List Argument) → IsAt l.code l.place l.fn.self → AreArguments l.code l.place l.args given
    → l.self.moved.items ++ passed_by l.code (innermost l.code l.place.func.index l.fn.self.calls.calls) (drop l.index l.params) (drop l.index given)
    ≡ passed_by l.code (innermost l.code l.place.func.index l.fn.self.calls.calls) l.params given)
