-- A place that the text has is that of one of its marks.
use Rattle.std.proofs.Common.{◌≡◌, ℕ, zero, suc, ◌+◌, ◌<◌, ◌⊎◌, inl, inr, List, [], ◌∷◌, ◌++◌, length, map, refl, sym, ap, ◌∙◌, arith, true, Bool, cond, subst, append_assoc}
use Rattle.std.specs.Prelude.{Option, Some, slice_get, option_and_then}
use Rattle.std.specs.List.{AllByRecursion}
use Rattle.qil_tree.specs.declared.tree.Block.{Block}
use Rattle.qil_tree.specs.declared.tree.Inst.{Inst}
use Rattle.qil_lines.specs.Marks.{Mark, head_marks, inst_marks, jump_marks, is_written, block_marks, marks_from}
use Rattle.qil_lines.specs.Lines.{place_lines, place_from, Rise, IsWritten}
use Rattle.qil_lines.specs.Places.{pair_of}
use Rattle.qil_lines.specs.declared.lines.Place.{Place}
use Rattle.qil_lines.proofs.Firsts.{place_only}

-- the mark of a place
abbrev pub mark_at : ℕ → ℕ → ℕ → Mark
mark_at line b k = record { line = line; block = b; index = k }

-- a mark is one of these
abbrev pub IsOne : Mark → List Mark → Type 0
IsOne mark marks = (before after : List Mark) × (marks ≡ before ++ mark ∷ after)

one_later : (m : Mark) (xs ys : List Mark) → IsOne m ys → IsOne m (xs ++ ys)
one_later m xs ys o = (xs ++ o.0, o.1, ap (λ v. xs ++ v) o.2 ∙ sym (append_assoc xs o.0 (m ∷ o.1)))

one_sooner : (m : Mark) (xs ys : List Mark) → IsOne m xs → IsOne m (xs ++ ys)
one_sooner m xs ys o = (o.0, o.1 ++ ys, ap (λ v. v ++ ys) o.2 ∙ append_assoc o.0 (m ∷ o.1) ys)

-- ---- in a block

same_line : (m n : ℕ) → Some m ≡ Some n → m ≡ n
same_line m n e = cc

inst_one : {A : Type 0} (b j k line : ℕ) (insts : List (Inst A)) → slice_get (map (λ inst. inst.line) insts) k ≡ Some line → IsOne (mark_at line b (j + k)) (inst_marks b j insts)
inst_one b j k line [] e = absurd cc
inst_one b j zero line (inst ∷ insts) e =
    let same : inst.line ≡ line = same_line inst.line line e in
    let at : j ≡ j + 0 = omega arith in
    ([], inst_marks b (j + 1) insts, ap (λ l. mark_at l b j ∷ inst_marks b (j + 1) insts) same ∙ ap (λ i. mark_at line b i ∷ inst_marks b (j + 1) insts) at)
inst_one b j (suc k) line (inst ∷ insts) e =
    let at : j + 1 + k ≡ j + suc k = omega arith in
    one_later (mark_at line b (j + suc k)) (mark_at inst.line b j ∷ []) (inst_marks b (j + 1) insts)
    (subst (λ i. IsOne (mark_at line b i) (inst_marks b (j + 1) insts)) at (inst_one b (j + 1) k line insts e))

-- what is at an index of a list with one thing more
at_end : (xs : List ℕ) (y k line : ℕ) → slice_get (xs ++ y ∷ []) k ≡ Some line → (slice_get xs k ≡ Some line) ⊎ ((k ≡ length xs) × (y ≡ line))
at_end [] y zero line e = inr (refl, same_line y line e)
at_end [] y (suc k) line e = absurd cc
at_end (x ∷ xs) y zero line e = inl e
at_end (x ∷ xs) y (suc k) line e = elim (at_end xs y k line e) [
  | inl l ↦ inl l
  | inr r ↦ inr (ap suc r.0, r.1)
]

length_lines : {A : Type 0} (insts : List (Inst A)) → length (map (λ inst. inst.line) insts) ≡ length insts
length_lines [] = refl
length_lines (inst ∷ insts) = ap suc (length_lines insts)

jump_one : {A : Type 0} (b : ℕ) (block : Block A) (next : List (Block A)) (w : Bool) → w ≡ true → is_written block next ≡ w → IsOne (mark_at block.jump.line b (length block.insts)) (jump_marks b block next)
jump_one b block next w written is = ([], [], ap (λ t. cond t (mark_at block.jump.line b (length block.insts) ∷ []) []) (is ∙ written))

block_one : {A : Type 0} (b k line : ℕ) (block : Block A) (next : List (Block A)) → (k ≡ length block.insts → is_written block next ≡ true) → slice_get (place_lines block) k ≡ Some line
    → IsOne (mark_at line b k) (block_marks b block next)
block_one b k line block next has e = elim (at_end (map (λ inst. inst.line) block.insts) block.jump.line k line e) [
  | inl l ↦ (one_sooner (mark_at line b k) (head_marks b block ++ inst_marks b 0 block.insts) (jump_marks b block next)
      (one_later (mark_at line b k) (head_marks b block) (inst_marks b 0 block.insts)
      (subst (λ i. IsOne (mark_at line b i) (inst_marks b 0 block.insts)) (omega arith) (inst_one b 0 k line block.insts l))))
  | inr r ↦ (let at : k ≡ length block.insts = r.0 ∙ length_lines block.insts in
      one_later (mark_at line b k) (head_marks b block ++ inst_marks b 0 block.insts) (jump_marks b block next)
      (subst (λ i. IsOne (mark_at line b i) (jump_marks b block next)) (sym at)
      (subst (λ l. IsOne (mark_at l b (length block.insts)) (jump_marks b block next)) r.1 (jump_one b block next _ (has at) refl))))
]

-- ---- in all blocks

pub marks_one : {A : Type 0} (n b k line : ℕ) (blocks : List (Block A)) → IsWritten blocks b k → option_and_then (λ block. slice_get (place_lines block) k) (slice_get blocks b) ≡ Some line
    → IsOne (mark_at line (n + b) k) (marks_from n blocks)
marks_one n b k line [] has e = absurd cc
marks_one n zero k line (block ∷ blocks) has e =
    let at : n ≡ n + 0 = omega arith in
    one_sooner (mark_at line (n + 0) k) (block_marks n block blocks) (marks_from (n + 1) blocks)
    (subst (λ i. IsOne (mark_at line i k) (block_marks n block blocks)) at (block_one n k line block blocks has e))
marks_one n (suc b) k line (block ∷ blocks) has e =
    let at : n + 1 + b ≡ n + suc b = omega arith in
    one_later (mark_at line (n + suc b) k) (block_marks n block blocks) (marks_from (n + 1) blocks)
    (subst (λ i. IsOne (mark_at line i k) (marks_from (n + 1) blocks)) at (marks_one (n + 1) b k line blocks has e))

-- ---- on rising lines

last_of : (P : Mark → Type 0) (before after : List Mark) (mark : Mark) → AllByRecursion P (before ++ mark ∷ after) → P mark
last_of P [] after mark all = all.0
last_of P (m ∷ ms) after mark all = last_of P ms after mark all.1

rising : (before after : List Mark) (mark : Mark) → Rise (before ++ mark ∷ after) → AllByRecursion (λ m. m.line < mark.line) before
rising [] after mark rise = tt
rising (m ∷ ms) after mark rise = (last_of (λ n. m.line < n.line) ms after mark rise.0, rising ms after mark rise.1)

pub place_there : {A : Type 0} (line b k : ℕ) (blocks : List (Block A)) (place : Option Place) → place_from line (marks_from 0 blocks) ≡ pair_of place → Rise (marks_from 0 blocks) → IsWritten blocks b k
    → option_and_then (λ block. slice_get (place_lines block) k) (slice_get blocks b) ≡ Some line → pair_of place ≡ Some (b, k)
place_there line b k blocks place e rise has at =
    let one = subst (λ i. IsOne (mark_at line i k) (marks_from 0 blocks)) (omega arith) (marks_one 0 b k line blocks has at) in
    let before = rising one.0 one.1 (mark_at line b k) (subst Rise one.2 rise) in
    place_only line (marks_from 0 blocks) place e (mark_at line b k) (one.0, one.1, one.2, before, omega arith)
