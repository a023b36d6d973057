-- The lines of a function's text that mean a place in it.
use Rattle.std.specs.Prelude.{ℕ, ◌+◌, List, [], ◌∷◌, ◌++◌, map, length, Bool, true, not, nat_eq, cond}
use Rattle.qil_tree.specs.declared.tree.Block.{Block}
use Rattle.qil_tree.specs.declared.tree.Inst.{Inst}

-- a line, and the place that it means: a block by its number, and how many of its instructions are done
pub record Mark : Type 0 where
  pub line : ℕ
  pub block : ℕ
  pub index : ℕ

-- each instruction means itself
abbrev pub inst_marks : {A : Type 0} → ℕ → ℕ → List (Inst A) → List Mark
inst_marks b k [] = []
inst_marks b k (inst ∷ insts) = record { line = inst.line; block = b; index = k } ∷ inst_marks b (k + 1) insts

-- whether the text has the jump of a block: one that is left out depends on the line of the next block's label
abbrev pub is_written : {A : Type 0} → Block A → List (Block A) → Bool
is_written block [] = true
is_written block (next ∷ blocks) = not (nat_eq block.jump.line next.line)

-- a written jump means itself
abbrev pub jump_marks : {A : Type 0} → ℕ → Block A → List (Block A) → List Mark
jump_marks b block next = cond (is_written block next) (record { line = block.jump.line; block = b; index = length block.insts } ∷ []) []

-- The label and the phis of a block mean its beginning.
abbrev pub head_marks : {A : Type 0} → ℕ → Block A → List Mark
head_marks b block = record { line = block.line; block = b; index = 0 } ∷ map (λ phi. record { line = phi.line; block = b; index = 0 }) block.phis

abbrev pub block_marks : {A : Type 0} → ℕ → Block A → List (Block A) → List Mark
block_marks b block next = head_marks b block ++ inst_marks b 0 block.insts ++ jump_marks b block next

-- the marks of blocks, of which the first has this number
abbrev pub marks_from : {A : Type 0} → ℕ → List (Block A) → List Mark
marks_from b [] = []
marks_from b (block ∷ blocks) = block_marks b block blocks ++ marks_from (b + 1) blocks
