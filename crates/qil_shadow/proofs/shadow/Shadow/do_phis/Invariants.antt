-- With those that are left it would be all.
use Rattle.std.proofs.Common.{◌≡◌, ℕ, List, ◌++◌, drop}
use Rattle.qil_tree.specs.declared.tree.Block.{Block}
use Rattle.qil_tree.specs.declared.tree.Func.{Func}
use Rattle.qil_code.specs.Numbered.{names_of}
use Rattle.qil_shadow.specs.Reads.{innermost}
use Rattle.qil_shadow.specs.Kept.{KeepsAll}
use Rattle.qil_shadow.specs.Instructions.{IsAt}
use Rattle.qil_shadow.specs.Phis.{IsEdge, moves_from, got_by}
use Rattle.qil_shadow.proofs.shadow.Shadow.do_phis.Given as goal

abbrev pub invariant-loop-index : goal.invariant-loop-index
invariant-loop-index g l =
    KeepsAll l.fn.self l.self
    × ((func : Func _) (left target : Block _) (name : List ℕ) → IsEdge l.code l.place l.to l.moves func left target name → IsAt l.code l.place l.fn.self
    → l.self.moved.items ++ drop l.index (got_by l.code (names_of l.code l.place.func.index) (innermost l.code l.place.func.index l.fn.self.calls.calls) (moves_from left target))
    ≡ got_by l.code (names_of l.code l.place.func.index) (innermost l.code l.place.func.index l.fn.self.calls.calls) (moves_from left target))
