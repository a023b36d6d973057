-- Blocks found by their labels, and the way to them.
use Rattle.std.proofs.Common.{◌≡◌, ◌∙◌, sym, ap, refl, subst, ℕ, suc, Bool, true, false, if◌then◌else◌, List, [], ◌∷◌, Option, Some, None}
use Rattle.std.specs.Prelude.{option_map, unwrap_or, slice_get}
use Rattle.std.specs.Str.{bytes_eq}
use Rattle.qil_tree.specs.declared.tree.Block.{Block}
use Rattle.qil_tree.specs.declared.tree.Program.{Program}
use Rattle.qil_symbols.specs.Numbers.{place_of}
use Rattle.qil_semantics.specs.State.{Name}
use Rattle.qil_semantics.specs.Step.{block_labelled}
use Rattle.qil_code.specs.declared.numbered.PhiMove.{PhiMove}
use Rattle.qil_code.specs.declared.numbered.Edge.{Edge}
use Rattle.qil_code.specs.Gather.{labels_in}
use Rattle.qil_code.specs.Slots.{number_in}
use Rattle.qil_code.specs.Numbered.{block_moves, moves_into, edge_of}

not_none : {X : Type 0} {Y : Type 0} (x : X) → None ≡ Some x → Y
not_none x e = absurd (subst (λ o. elim o as (λ _. Type 0) [ None ↦ Unit {0} | Some y ↦ ⊥ ]) e tt)

same_number : (i j : ℕ) → Some i ≡ Some j → i ≡ j
same_number i j e = ap (λ o. unwrap_or o 0) e

-- what a label finds in a list of blocks, and where
pub record IsFound {A : Type 0} (blocks : List (Block A)) (l : Name) (i : ℕ) : Type 0 where
  pub block : Block A
  pub there : slice_get blocks i ≡ Some block
  pub found : block_labelled blocks l ≡ Some block

found_at : {A : Type 0} (b : Block A) (bs : List (Block A)) (l : Name) (t : Bool) (deep : Option ℕ) (i : ℕ) → bytes_eq b.label l ≡ t
    → ((j : ℕ) → deep ≡ Some j → IsFound bs l j)
    → (if t then Some 0 else option_map (λ j. suc j) deep) ≡ Some i → IsFound (b ∷ bs) l i
found_at b bs l true deep i e f at = subst (λ k. IsFound (b ∷ bs) l k) (same_number 0 i at) (record { block = b; there = refl; found = rw e refl })
found_at b bs l false None i e f at = not_none i at
found_at b bs l false (Some j) i e f at =
    let d = f j refl in
    subst (λ k. IsFound (b ∷ bs) l k) (same_number (suc j) i at) (record { block = d.block; there = d.there; found = rw e d.found })

pub label-found : {A : Type 0} (blocks : List (Block A)) (l : Name) (i : ℕ) → place_of (labels_in blocks) l ≡ Some i → IsFound blocks l i
unfolding place_of
label-found [] l i e = not_none i e
label-found (b ∷ bs) l i e = found_at b bs l (bytes_eq b.label l) (place_of (labels_in bs) l) i refl (λ j f. label-found bs l j f) e

none_of : {A : Type 0} (b : Block A) (bs : List (Block A)) (l : Name) (t : Bool) (deep : Option ℕ) → bytes_eq b.label l ≡ t
    → (deep ≡ None → block_labelled bs l ≡ None) → (if t then Some 0 else option_map (λ j. suc j) deep) ≡ None → block_labelled (b ∷ bs) l ≡ None
none_of b bs l true deep e f at = not_none 0 (sym at)
none_of b bs l false None e f at = rw e (f refl)
none_of b bs l false (Some j) e f at = not_none (suc j) (sym at)

pub label-missing : {A : Type 0} (blocks : List (Block A)) (l : Name) → place_of (labels_in blocks) l ≡ None → block_labelled blocks l ≡ None
unfolding place_of
label-missing [] l e = refl
label-missing (b ∷ bs) l e = none_of b bs l (bytes_eq b.label l) (place_of (labels_in bs) l) refl (label-missing bs l) e

abbrev the : {A : Type 0} → ℕ → List PhiMove → Edge A
the i moves = record { to = record { index = i }; moves = moves }

pub edge-there : {A : Type 0} (p : Program A) (blocks : List (Block A)) (ns ls : List Name) (left l : Name) (i : ℕ) (moves : List PhiMove)
    → ls ≡ labels_in blocks → Some i ≡ place_of ls l → ((b : Block A) → slice_get blocks i ≡ Some b → moves ≡ block_moves p ns left b)
    → the {A = A} i moves ≡ edge_of p blocks ns left l
edge-there p blocks ns ls left l i moves is at h =
    let place : place_of (labels_in blocks) l ≡ Some i = ap (λ m. place_of m l) (sym is) ∙ sym at in
    let d = label-found blocks l i place in
    let number : number_in (labels_in blocks) l ≡ i = ap (λ o. unwrap_or o 0) place in
    let into : moves_into p ns left (block_labelled blocks l) ≡ block_moves p ns left d.block = ap (λ o. moves_into p ns left o) d.found in
    λ k. record { to = record { index = sym number k }; moves = (h d.block d.there ∙ sym into) k }

pub edge-nowhere : {A : Type 0} (p : Program A) (blocks : List (Block A)) (ns ls : List Name) (left l : Name) (moves : List PhiMove)
    → ls ≡ labels_in blocks → None ≡ place_of ls l → moves ≡ [] → the {A = A} 0 moves ≡ edge_of p blocks ns left l
edge-nowhere p blocks ns ls left l moves is at none =
    let place : place_of (labels_in blocks) l ≡ None = ap (λ m. place_of m l) (sym is) ∙ sym at in
    let number : number_in (labels_in blocks) l ≡ 0 = ap (λ o. unwrap_or o 0) place in
    let into : moves_into p ns left (block_labelled blocks l) ≡ [] = ap (λ o. moves_into p ns left o) (label-missing blocks l place) in
    λ k. record { to = record { index = sym number k }; moves = (none ∙ sym into) k }
