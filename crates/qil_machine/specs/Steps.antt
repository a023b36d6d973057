-- What a step finds at the place of the innermost frame.
use Rattle.std.specs.Prelude.{◌≡◌, ◌<◌, ◌==◌, if◌then◌else◌, ℕ, List, [], ◌∷◌, length, Option, Some, None, Ok, Err, slice_get}
use Rattle.qil_tree.specs.declared.ops.Class.TheVariants as classes
use Rattle.qil_tree.specs.declared.tree.Program.{Program}
use Rattle.qil_semantics.specs.Values.{Outcome, val}
use Rattle.qil_semantics.specs.Slots.{temps_of}
use Rattle.qil_code.specs.declared.numbered.NumberedInst.{NumberedInst}
use Rattle.qil_code.specs.declared.numbered.NumberedInst.TheVariants as insts
use Rattle.qil_code.specs.declared.numbered.NumberedJump.{NumberedJump}
use Rattle.qil_code.specs.declared.numbered.NumberedJump.TheVariants as jumps
use Rattle.qil_code.specs.declared.numbered.NumberedBlock.{NumberedBlock}
use Rattle.qil_code.specs.declared.numbered.Edge.{Edge}
use Rattle.qil_code.specs.declared.numbered.NumberedOperand.{NumberedOperand}
use Rattle.qil_code.specs.Ranges.{InRange, InstInRange, BlockInRange}
use Rattle.qil_code.specs.Named.{named_operand}
use Rattle.qil_code.specs.Numbered.{names_of}
use Rattle.qil_code.specs.Reading.{block_code_at, labels_at}
use Rattle.qil_code.specs.Facts.{Finds, KnowsLabels}
use Rattle.qil_frames.specs.Frames.{SlotFrame}

-- the innermost frame has all slots that an instruction names
abbrev pub HasInst : {A : Type 0} → Program A → List SlotFrame → NumberedInst A → Type 0
HasInst p [] inst = ⊥
HasInst p (f ∷ fs) inst = InstInRange (length f.slots) inst

-- the innermost frame stands in this block, at this index
pub record IsAtPlace {A : Type 0} (p : Program A) (f : SlotFrame) (block : NumberedBlock A) (k : ℕ) : Type 0 where
  pub code : block_code_at p f.func f.block ≡ Some block
  pub index : f.index ≡ k
  pub range : BlockInRange (length (names_of p f.func)) (length (labels_at p f.func)) block
  pub finds : Finds p
  pub knows : KnowsLabels p

abbrev pub IsHere : {A : Type 0} → Program A → List SlotFrame → NumberedBlock A → ℕ → Type 0
IsHere p [] block k = ⊥
IsHere p (f ∷ fs) block k = IsAtPlace p f block k

-- the innermost frame has the slot of an operand
abbrev pub HasOperand : List SlotFrame → NumberedOperand → Type 0
HasOperand [] source = ⊥
HasOperand (f ∷ fs) source = InRange (length f.slots) source

abbrev pub HasReturned : List SlotFrame → Option NumberedOperand → Type 0
HasReturned fs None = Unit {0}
HasReturned fs (Some source) = HasOperand fs source

-- ---- which steps may take memory

abbrev pub InstTakes : {A : Type 0} → NumberedInst A → Type 0
InstTakes (insts.Assign c s e) = ⊥
InstTakes (insts.Store width a b) = ⊥
InstTakes inst = Unit {0}

-- an edge to a block with several phis
abbrev pub EdgeTakes : {A : Type 0} → Edge A → Type 0
EdgeTakes e = 1 < length e.moves

-- by what is read, the edge that is taken: the first unless the low 32 bits are zero
abbrev pub ReadTakes : {A : Type 0} → Outcome ℕ → Edge A → Edge A → Type 0
ReadTakes (Ok v) e g = EdgeTakes (if v == 0 then g else e)
ReadTakes (Err fault) e g = ⊥

-- what an operand of class `w` is in a frame
abbrev pub word_in : {A : Type 0} → Program A → SlotFrame → NumberedOperand → Outcome ℕ
word_in p f a = val p (temps_of (names_of p f.func) f.slots) classes.W (named_operand (names_of p f.func) a)

abbrev pub BranchTakes : {A : Type 0} → Program A → List SlotFrame → NumberedOperand → Edge A → Edge A → Type 0
BranchTakes p [] a e g = ⊥
BranchTakes p (f ∷ fs) a e g = ReadTakes (word_in p f a) e g

-- a jump that goes along such an edge
abbrev pub JumpTakes : {A : Type 0} → Program A → List SlotFrame → NumberedJump A → Type 0
JumpTakes p fs (jumps.Jmp e) = EdgeTakes e
JumpTakes p fs (jumps.Jnz a e g) = BranchTakes p fs a e g
JumpTakes p fs (jumps.Ret a) = ⊥
JumpTakes p fs jumps.Hlt = ⊥

abbrev pub TakesAt : {A : Type 0} → Program A → List SlotFrame → NumberedBlock A → Option (NumberedInst A) → Type 0
TakesAt p fs block (Some inst) = InstTakes inst
TakesAt p fs block None = JumpTakes p fs block.jump

abbrev pub TakesIn : {A : Type 0} → Program A → List SlotFrame → Option (NumberedBlock A) → ℕ → Type 0
TakesIn p fs None k = ⊥
TakesIn p fs (Some block) k = TakesAt p fs block (slice_get block.insts k)

-- the next step is a call, an allocation, a copy of bytes, or a jump that goes to a block with several phis
abbrev pub StepTakes : {A : Type 0} → Program A → List SlotFrame → Type 0
StepTakes p [] = ⊥
StepTakes p (f ∷ fs) = TakesIn p (f ∷ fs) (block_code_at p f.func f.block) f.index
