-- The line of a place, and the place of a line.
use Rattle.std.specs.Prelude.{◌≡◌, ℕ, zero, suc, ◌<◌, ◌≤◌, true, List, [], ◌∷◌, ◌++◌, length, map, Option, Some, None, slice_get, option_and_then, cond, nat_le}
use Rattle.std.specs.List.{AllByRecursion}
use Rattle.qil_tree.specs.declared.tree.Func.{Func}
use Rattle.qil_tree.specs.declared.tree.Block.{Block}
use Rattle.qil_lines.specs.Marks.{Mark, is_written, marks_from}

-- the lines of the places of a block: of each instruction, and of the jump after the last
abbrev pub place_lines : {A : Type 0} → Block A → List ℕ
place_lines block = map (λ inst. inst.line) block.insts ++ block.jump.line ∷ []

-- the line of a place of a function: a block by its number, and how many of its instructions are done
abbrev pub line_at : {A : Type 0} → Func A → ℕ → ℕ → Option ℕ
line_at func b k = option_and_then (λ block. slice_get (place_lines block) k) (slice_get func.blocks b)

-- the marks of a function, in the order of its text
abbrev pub marks_of : {A : Type 0} → Func A → List Mark
marks_of func = marks_from 0 func.blocks

-- the place of the first mark whose line isn't before a line
abbrev pub place_from : ℕ → List Mark → Option (ℕ × ℕ)
place_from line [] = None
place_from line (mark ∷ marks) = cond (nat_le line mark.line) (Some (mark.block, mark.index)) (place_from line marks)

-- a mark is the first whose line isn't before a line: those before it stand before the line
abbrev pub IsFirst : ℕ → List Mark → Mark → Type 0
IsFirst line marks mark = (before after : List Mark) × (marks ≡ before ++ mark ∷ after) × AllByRecursion (λ m. m.line < line) before × (line ≤ mark.line)

-- each mark stands on a line after those before it
abbrev pub Rise : List Mark → Type 0
Rise [] = Unit {0}
Rise (mark ∷ marks) = AllByRecursion (λ m. mark.line < m.line) marks × Rise marks

-- the text has what is at a place of blocks: it may leave out a jump
abbrev pub IsWritten : {A : Type 0} → List (Block A) → ℕ → ℕ → Type 0
IsWritten [] b k = ⊥
IsWritten (block ∷ blocks) zero k = k ≡ length block.insts → is_written block blocks ≡ true
IsWritten (block ∷ blocks) (suc b) k = IsWritten blocks b k

-- every mark stands before a line
abbrev pub AreBefore : ℕ → List Mark → Type 0
AreBefore line marks = AllByRecursion (λ m. m.line < line) marks

-- the place of an index in a block of this number
abbrev pub at_index : ℕ → Option ℕ → Option (ℕ × ℕ)
at_index b None = None
at_index b (Some k) = Some (b, k)
