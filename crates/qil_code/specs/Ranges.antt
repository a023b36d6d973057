-- Numbered parts whose slots and blocks are there: n is the number of the function's slots, b that of its blocks.
use Rattle.std.specs.Prelude.{ℕ, ◌<◌, ◌^◌, List, length, Option, Some, None}
use Rattle.std.specs.List.{All}
use Rattle.qil_code.specs.declared.numbered.NumberedOperand.{NumberedOperand}
use Rattle.qil_code.specs.declared.numbered.NumberedOperand.TheVariants as numbered_operands
use Rattle.qil_code.specs.declared.numbered.NumberedExpr.{NumberedExpr}
use Rattle.qil_code.specs.declared.numbered.NumberedExpr.TheVariants as numbered_exprs
use Rattle.qil_code.specs.declared.numbered.Receiver.{Receiver}
use Rattle.qil_code.specs.declared.numbered.NumberedInst.{NumberedInst}
use Rattle.qil_code.specs.declared.numbered.NumberedInst.TheVariants as numbered_insts
use Rattle.qil_code.specs.declared.numbered.PhiMove.{PhiMove}
use Rattle.qil_code.specs.declared.numbered.Edge.{Edge}
use Rattle.qil_code.specs.declared.numbered.NumberedJump.{NumberedJump}
use Rattle.qil_code.specs.declared.numbered.NumberedJump.TheVariants as numbered_jumps
use Rattle.qil_code.specs.declared.numbered.NumberedBlock.{NumberedBlock}
use Rattle.qil_code.specs.declared.numbered.FuncCode.{FuncCode}

abbrev pub InRange : ℕ → NumberedOperand → Type 0
InRange n (numbered_operands.Constant v) = Unit {0}
InRange n (numbered_operands.Slot s) = s.index < n

abbrev pub ExprInRange : ℕ → NumberedExpr → Type 0
ExprInRange n (numbered_exprs.Unary op a) = InRange n a
ExprInRange n (numbered_exprs.Binary op a b) = InRange n a × InRange n b
ExprInRange n (numbered_exprs.Compare op c a b) = InRange n a × InRange n b
ExprInRange n (numbered_exprs.Extend op a) = InRange n a
ExprInRange n (numbered_exprs.Load op a) = InRange n a

abbrev pub ReceiverInRange : ℕ → Option Receiver → Type 0
ReceiverInRange n None = Unit {0}
ReceiverInRange n (Some r) = r.slot.index < n

abbrev pub InstInRange : {A : Type 0} → ℕ → NumberedInst A → Type 0
InstInRange n (numbered_insts.Assign c s e) = (s.index < n) × ExprInRange n e
InstInRange n (numbered_insts.Alloc c s op a) = (s.index < n) × InRange n a
InstInRange n (numbered_insts.Store width a b) = InRange n a × InRange n b
InstInRange n (numbered_insts.Blit a b count) = InRange n a × InRange n b
InstInRange n (numbered_insts.Call to callee args) = ReceiverInRange n to × InRange n callee × All (λ a. InRange n a.source) args

pub record MoveInRange (n : ℕ) (m : PhiMove) : Type 0 where
  pub target : m.target.index < n
  pub source : InRange n m.source

-- what a list in memory may hold of phis or instructions, so that an index has 32 bits
abbrev pub IsShort : {X : Type 0} → List X → Type 0
IsShort xs = length xs < 2 ^ 32

pub record EdgeInRange {A : Type 0} (n b : ℕ) (e : Edge A) : Type 0 where
  pub to : e.to.index < b
  pub moves : All (MoveInRange n) e.moves
  pub short : IsShort e.moves

abbrev pub ReturnedInRange : ℕ → Option NumberedOperand → Type 0
ReturnedInRange n None = Unit {0}
ReturnedInRange n (Some a) = InRange n a

abbrev pub JumpInRange : {A : Type 0} → ℕ → ℕ → NumberedJump A → Type 0
JumpInRange n b (numbered_jumps.Jmp e) = EdgeInRange n b e
JumpInRange n b (numbered_jumps.Jnz a e f) = InRange n a × EdgeInRange n b e × EdgeInRange n b f
JumpInRange n b (numbered_jumps.Ret a) = ReturnedInRange n a
JumpInRange n b numbered_jumps.Hlt = Unit {0}

pub record BlockInRange {A : Type 0} (n b : ℕ) (k : NumberedBlock A) : Type 0 where
  pub insts : All (InstInRange n) k.insts
  pub jump : JumpInRange n b k.jump
  pub short : IsShort k.insts

-- the parameters have slots, there is a first block, and all slots and blocks that a block names are there
pub record FuncInRange {A : Type 0} (k : FuncCode A) : Type 0 where
  pub params : All (λ q. q.0.index < length k.temps) k.code.params
  pub blocks : 0 < length k.code.blocks
  pub each : All (BlockInRange (length k.temps) (length k.labels)) k.code.blocks

-- ---- lists that are short, which no rule of the language promises

abbrev pub JumpIsShort : {A : Type 0} → NumberedJump A → Type 0
JumpIsShort (numbered_jumps.Jmp e) = IsShort e.moves
JumpIsShort (numbered_jumps.Jnz a e f) = IsShort e.moves × IsShort f.moves
JumpIsShort (numbered_jumps.Ret a) = Unit {0}
JumpIsShort numbered_jumps.Hlt = Unit {0}

pub record BlockIsShort {A : Type 0} (k : NumberedBlock A) : Type 0 where
  pub insts : IsShort k.insts
  pub jump : JumpIsShort k.jump

abbrev pub FuncIsShort : {A : Type 0} → FuncCode A → Type 0
FuncIsShort k = All BlockIsShort k.code.blocks
