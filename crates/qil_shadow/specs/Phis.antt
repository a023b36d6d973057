-- What the phis of a block get on an edge, by number and by names.
use Rattle.std.specs.Prelude.{◌≡◌, ℕ, List, [], ◌∷◌, map, flat_map, find, Option, Some, None, option_map, slice_get}
use Rattle.std.specs.Str.{bytes_eq}
use Rattle.std.specs.List.{AllByRecursion}
use Rattle.qil_tree.specs.declared.tree.Operand.{Operand}
use Rattle.qil_tree.specs.declared.tree.Phi.{Phi}
use Rattle.qil_tree.specs.declared.tree.Block.{Block}
use Rattle.qil_tree.specs.declared.tree.Func.{Func}
use Rattle.qil_tree.specs.declared.tree.Program.{Program}
use Rattle.qil_memory.specs.qil_rules.Text.{IsAmong}
use Rattle.qil_semantics.specs.State.{Name}
use Rattle.qil_semantics.specs.Step.{block_labelled, phi_moves}
use Rattle.qil_semantics.specs.Step as step
use Rattle.qil_code.specs.declared.numbered.Slot.{Slot}
use Rattle.qil_code.specs.declared.numbered.BlockId.{BlockId}
use Rattle.qil_code.specs.declared.numbered.PhiMove.{PhiMove}
use Rattle.qil_code.specs.Numbered.{func_at, block_at, names_of, slot_in, move_of}
use Rattle.qil_shadow.specs.declared.origin.Origin.{Origin}
use Rattle.qil_shadow.specs.declared.suspicion.Place.{Place}
use Rattle.qil_shadow.specs.Shadow.{Origins}
use Rattle.qil_shadow.specs.Shadowed.{operand_origin}
use Rattle.qil_shadow.specs.Calls.{LiveCalls}
use Rattle.qil_shadow.specs.Reads.{IsKnown}
use Rattle.qil_shadow.specs.Shapes.{shapes_of}

-- ---- which operand a phi takes

-- of its first source for the block of a label
abbrev pub source_value : {A : Type 0} → Name → Phi A → Option Operand
source_value left phi = option_map (λ q. q.value) (find (λ q. bytes_eq q.label left) phi.sources)

abbrev pub phi_value : {A : Type 0} → Name → Option (Phi A) → Option Operand
phi_value left None = None
phi_value left (Some phi) = source_value left phi

abbrev pub phi_between : {A : Type 0} → Option (Block A) → Option (Block A) → ℕ → Option Operand
phi_between None target k = None
phi_between (Some left) None k = None
phi_between (Some left) (Some target) k = phi_value left.label (slice_get target.phis k)

-- the phi of a number, on the way from a place to a block
abbrev pub phi_read : {A : Type 0} → Program A → Place → ℕ → ℕ → Option Operand
phi_read p place to k = phi_between (block_at p place.func.index place.block.index) (block_at p place.func.index to) k

-- ---- an edge

-- a phi has one source for the block of a label
abbrev pub IsSingle : {A : Type 0} → Name → Phi A → Type 0
IsSingle left phi = (m : step.PhiMove) × (phi_moves left phi ≡ m ∷ [])

-- what is read is known, and what is set is a temporary of the function
abbrev pub IsMove : {A : Type 0} → Program A → List Name → step.PhiMove → Type 0
IsMove p ns m = IsKnown p ns m.value × IsAmong m.target.name ns

-- what the phis of a block do where another is left
abbrev pub moves_from : {A : Type 0} → Block A → Block A → List step.PhiMove
moves_from left target = flat_map (phi_moves left.label) target.phis

-- From the block of a place an edge of these moves leads to a block of its function, which has a label. Each phi there has one source
-- for the block that is left.
pub record IsEdge {A : Type 0} (p : Program A) (place : Place) (to : BlockId) (moves : List PhiMove) (func : Func A) (left target : Block A) (l : Name) : Type 0 where
  pub func_is : func_at p place.func.index ≡ Some func
  pub left_is : block_at p place.func.index place.block.index ≡ Some left
  pub found : block_labelled func.blocks l ≡ Some target
  pub there : block_at p place.func.index to.index ≡ Some target
  pub moves_are : moves ≡ map (move_of p (names_of p place.func.index)) (moves_from left target)
  pub single : AllByRecursion (IsSingle left.label) target.phis
  pub known : AllByRecursion (IsMove p (names_of p place.func.index)) (moves_from left target)

-- ---- what they get

abbrev pub one_got : {A : Type 0} → Program A → List Name → Origins → step.PhiMove → Slot × Origin
one_got p ns t m = (slot_in ns m.target.name, operand_origin p t m.target.class m.value)

abbrev pub got_by : {A : Type 0} → Program A → List Name → Origins → List step.PhiMove → List (Slot × Origin)
got_by p ns t ms = map (one_got p ns t) ms

-- ---- temporaries alone are set

pub record AreAlike (was now : LiveCalls) : Type 0 where
  pub shapes_are : shapes_of now.calls ≡ shapes_of was.calls
  pub objects_are : now.objects ≡ was.objects
  pub top_is : now.top ≡ was.top
