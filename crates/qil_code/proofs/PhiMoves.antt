-- What the phis of a block do where another is left: the numbered moves are those of the tree, one by one, and each name in them is a name of the block.
use Rattle.std.proofs.Common.{◌≡◌, ◌∙◌, refl, sym, ap, Bool, true, false, if◌then◌else◌, List, [], ◌∷◌, ◌++◌}
use Rattle.std.specs.Prelude.{map, filter}
use Rattle.std.specs.List.{All, flat_map}
use Rattle.std.specs.Str.{bytes_eq}
use Rattle.std.proofs.lemmas.List.Elements.{All-nil, All-cons, All-append, All-head, All-tail}
use Rattle.qil_tree.specs.declared.tree.Target.{Target}
use Rattle.qil_tree.specs.declared.tree.PhiSource.{PhiSource}
use Rattle.qil_tree.specs.declared.tree.Phi.{Phi}
use Rattle.qil_tree.specs.declared.tree.Block.{Block}
use Rattle.qil_tree.specs.declared.tree.Program.{Program}
use Rattle.qil_semantics.specs.State.{Name}
use Rattle.qil_semantics.specs.Names.{operand_names, phi_names, inst_names, jump_names, block_names}
use Rattle.qil_semantics.specs.Step.{phi_moves}
use Rattle.qil_semantics.specs.Step as step
use Rattle.qil_code.specs.Gather.{sources_names}
use Rattle.qil_code.specs.Moves.{given}
use Rattle.qil_code.specs.Numbered.{move_of, one_phi_moves}
use Rattle.qil_code.specs.Named.{named_move, resolved_move}
use Rattle.qil_code.proofs.Has.{Has, HasAll, HasAll-left, HasAll-right}
use Rattle.qil_code.proofs.Naming.{named-move}

-- the names in a move have numbers
abbrev pub HasMove : List Name → step.PhiMove → Type 0
HasMove ns m = HasAll ns (m.target.name ∷ operand_names m.value)

map_append : {X Y : Type 0} (f : X → Y) (xs ys : List X) → map f (xs ++ ys) ≡ map f xs ++ map f ys
map_append f [] ys = refl
map_append f (x ∷ xs) ys = ap (λ l. f x ∷ l) (map_append f xs ys)

-- the moves of phis, numbered phi by phi, are the moves numbered one by one
pub moves-of-tree : {A : Type 0} (p : Program A) (ns : List Name) (left : Name) (phis : List (Phi A)) → flat_map (one_phi_moves p ns left) phis ≡ map (move_of p ns) (flat_map (phi_moves left) phis)
moves-of-tree p ns left [] = refl
moves-of-tree p ns left (phi ∷ phis) =
    ap (λ l. one_phi_moves p ns left phi ++ l) (moves-of-tree p ns left phis) ∙ sym (map_append (move_of p ns) (phi_moves left phi) (flat_map (phi_moves left) phis))

-- ---- names

kept_have : (ns : List Name) (to : Target) (b : Bool) (s : PhiSource) (ss : List PhiSource) → Has ns to.name → HasAll ns (operand_names s.value)
    → All (HasMove ns) (map (given to) ss) → All (HasMove ns) (map (given to) (if b then s ∷ ss else ss))
kept_have ns to true s ss h k all = All-cons (HasMove ns) (given to s) (map (given to) ss) (h, k) all
kept_have ns to false s ss h k all = all

sources_have : (ns : List Name) (left : Name) (to : Target) (ss : List PhiSource) → Has ns to.name → HasAll ns (sources_names ss)
    → All (HasMove ns) (map (given to) (filter (λ q. bytes_eq q.label left) ss))
sources_have ns left to [] h k = All-nil (HasMove ns)
sources_have ns left to (s ∷ ss) h k =
    kept_have ns to (bytes_eq s.label left) s (filter (λ q. bytes_eq q.label left) ss) h (HasAll-left ns (operand_names s.value) (sources_names ss) k)
    (sources_have ns left to ss h (HasAll-right ns (operand_names s.value) (sources_names ss) k))

phis_have : {A : Type 0} (ns : List Name) (left : Name) (phis : List (Phi A)) → HasAll ns (flat_map phi_names phis) → All (HasMove ns) (flat_map (phi_moves left) phis)
phis_have ns left [] h = All-nil (HasMove ns)
phis_have ns left (phi ∷ phis) h =
    let here : HasAll ns (phi_names phi) = HasAll-left ns (phi_names phi) (flat_map phi_names phis) h in
    All-append (HasMove ns) (phi_moves left phi) (flat_map (phi_moves left) phis)
    (sources_have ns left phi.target phi.sources here.0 here.1) (phis_have ns left phis (HasAll-right ns (phi_names phi) (flat_map phi_names phis) h))

pub moves-have : {A : Type 0} (ns : List Name) (left : Name) (b : Block A) → HasAll ns (block_names b) → All (HasMove ns) (flat_map (phi_moves left) b.phis)
moves-have ns left b h = phis_have ns left b.phis (HasAll-left ns (flat_map phi_names b.phis) (flat_map inst_names b.insts ++ jump_names b.jump.kind) h)

-- ---- moves read back

pub named-moves : {A : Type 0} (p : Program A) (ns : List Name) (ms : List step.PhiMove) → All (HasMove ns) ms → map (named_move ns) (map (move_of p ns) ms) ≡ map (resolved_move p) ms
named-moves p ns [] h = refl
named-moves p ns (m ∷ ms) h = λ i. named-move p ns m (All-head (HasMove ns) m ms h) i ∷ named-moves p ns ms (All-tail (HasMove ns) m ms h) i

pub block-moves-named : {A : Type 0} (p : Program A) (ns : List Name) (left : Name) (b : Block A) → HasAll ns (block_names b)
    → map (named_move ns) (flat_map (one_phi_moves p ns left) b.phis) ≡ map (resolved_move p) (flat_map (phi_moves left) b.phis)
block-moves-named p ns left b h =
    ap (map (named_move ns)) (moves-of-tree p ns left b.phis) ∙ named-moves p ns (flat_map (phi_moves left) b.phis) (moves-have ns left b h)
