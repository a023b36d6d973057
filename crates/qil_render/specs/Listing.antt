-- The block that the innermost frame is in, as it is listed: its phis, its instructions and its jump, in canonical texts.
use Rattle.std.specs.Prelude.{ℕ, suc, ◌==◌, cond, List, [], ◌∷◌, ◌++◌, length, codes, decimal, Option, Some, None}
use Rattle.std.specs.List.{flat_map}
use Rattle.std.specs.Option.{option_and_then}
use Rattle.qil_tree.specs.declared.tree.Phi.{Phi}
use Rattle.qil_tree.specs.declared.tree.Inst.{Inst}
use Rattle.qil_tree.specs.declared.tree.Jump.{Jump}
use Rattle.qil_tree.specs.declared.tree.Block.{Block}
use Rattle.qil_tree.specs.declared.tree.Program.{Program}
use Rattle.qil_printer.specs.Canonical.{inst_text, phi_text, jump_text}
use Rattle.qil_streams.specs.Text.{line}
use Rattle.qil_semantics.specs.State.{Name, Frame}
use Rattle.qil_semantics.specs.Step.{func_named, block_labelled}
use Rattle.qil_fragments.specs.Texts.{text_of}

-- the block that a frame is in
abbrev pub block_of_frame : {A : Type 0} → Program A → Frame → Option (Block A)
block_of_frame p f = option_and_then (λ func. block_labelled func.blocks f.label) (func_named p.funcs f.func)

-- a phi has no index
abbrev pub phi_row : {A : Type 0} → Phi A → List ℕ
phi_row phi = codes "  - " ++ (phi_text phi ++ codes "\n")

-- the index of an instruction or the jump, with `>` before it where the frame stands there
abbrev pub row_prefix : ℕ → ℕ → List ℕ
row_prefix at k = text_of (cond (k == at) (codes "> ") (codes "  ") ∷ decimal k ∷ codes " " ∷ [])

abbrev pub row : ℕ → ℕ → List ℕ → List ℕ
row at k text = row_prefix at k ++ (text ++ codes "\n")

abbrev pub inst_rows : {A : Type 0} → ℕ → ℕ → List (Inst A) → List ℕ
inst_rows at k [] = []
inst_rows at k (inst ∷ insts) = row at k (inst_text inst) ++ inst_rows at (suc k) insts

-- after the last instruction stands the jump
abbrev pub all_rows : {A : Type 0} → ℕ → List (Phi A) → List (Inst A) → Jump → List ℕ
all_rows at phis insts jump = flat_map phi_row phis ++ (inst_rows at 0 insts ++ row at (length insts) (jump_text jump))

abbrev pub rows_in : {A : Type 0} → ℕ → Option (Block A) → List ℕ
rows_in at None = []
rows_in at (Some b) = all_rows at b.phis b.insts b.jump

abbrev pub block_head : Name → Name → List ℕ
block_head func label = text_of (codes "$" ∷ func ∷ codes " @" ∷ label ∷ codes "\n" ∷ [])

-- the block of the innermost frame
abbrev pub block_shown : {A : Type 0} → Program A → List Frame → List ℕ
block_shown p [] = line (codes "no: no frame")
block_shown p (f ∷ fs) = block_head f.func f.label ++ rows_in f.index (block_of_frame p f)
