-- By hand, as a search takes six seconds to find them: the line of an instruction, of the jump after them, and of none after that.
use Rattle.std.proofs.Common.{◌≡◌, ℕ, zero, suc, ◌<◌, ◌≤◌, ◌≢◌, ◌∷◌, ◌++◌, List, [], length, map, get_or, Option, Some, None, ap, refl, arith, subst, sym}
use Rattle.std.specs.Prelude.{slice_get}
use Rattle.qil_tree.specs.declared.tree.Inst.{Inst}
use Rattle.qil_tree.specs.declared.tree.Block.{Block}
use Rattle.qil_lines.specs.Lines.{place_lines}
use Rattle.qil_lines.proofs.lines.line_in.Goals as goal

abbrev lines : {A : Type 0} → List (Inst A) → ℕ → List ℕ
lines insts line = map (λ inst. inst.line) insts ++ line ∷ []

inst_line : {A : Type 0} (insts : List (Inst A)) (line i : ℕ) (inst : Inst A) → i < length insts → Some (get_or insts i inst).line ≡ slice_get (lines insts line) i
inst_line [] line i inst inside = absurd (omega arith)
inst_line (x ∷ xs) line zero inst inside = refl
inst_line (x ∷ xs) line (suc i) inst inside = inst_line xs line i inst (omega arith)

jump_line : {A : Type 0} (insts : List (Inst A)) (line i : ℕ) → i ≡ length insts → Some line ≡ slice_get (lines insts line) i
jump_line [] line zero is = refl
jump_line [] line (suc i) is = absurd (omega arith)
jump_line (x ∷ xs) line zero is = absurd (omega arith)
jump_line (x ∷ xs) line (suc i) is = jump_line xs line i (omega arith)

no_line : {A : Type 0} (insts : List (Inst A)) (line i : ℕ) → length insts < i → None ≡ slice_get (lines insts line) i
no_line [] line zero behind = absurd (omega arith)
no_line [] line (suc i) behind = refl
no_line (x ∷ xs) line zero behind = absurd (omega arith)
no_line (x ∷ xs) line (suc i) behind = no_line xs line i (omega arith)

pub returns-then-index-insts : goal.returns-then-index-insts
returns-then-index-insts g c =
    let insts = c.args.block.now.insts in
    subst (λ is. Some (get_or is c.args.index c.index-insts-index.result).line ≡ slice_get (place_lines c.args.block.now) c.args.index) (sym c.as_slice-insts.ensures)
    (inst_line insts c.args.block.now.jump.line c.args.index c.index-insts-index.result (subst (λ is. c.args.index < length is) c.as_slice-insts.ensures c.if-index-insts.true))

pub returns-then-index-insts-2 : goal.returns-then-index-insts-2
returns-then-index-insts-2 g c = jump_line c.args.block.now.insts c.args.block.now.jump.line c.args.index (subst (λ is. c.args.index ≡ length is) c.as_slice-insts.ensures c.if-index-insts-2.true)

pub returns-else-index-insts-2 : goal.returns-else-index-insts-2
returns-else-index-insts-2 g c =
    no_line c.args.block.now.insts c.args.block.now.jump.line c.args.index (subst (λ is. length is < c.args.index) c.as_slice-insts.ensures (omega (arith, c.if-index-insts.false, c.if-index-insts-2.false)))
