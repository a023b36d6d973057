-- Which place a line means, over parts of a list of marks.
use Rattle.std.proofs.Common.{◌≡◌, ℕ, suc, ◌+◌, ◌-◌, ◌<◌, ◌≤◌, List, [], ◌∷◌, ◌++◌, length, map, take, drop, get_or, refl, sym, ap, ◌∙◌, arith, true, false, Bool, cond, subst, ◌||◌}
use Rattle.std.specs.Prelude.{Option, Some, None, position, nat_eq, nat_le, nat_lt, not, slice_get}
use Rattle.std.specs.List.{list_any, position_or_len}
use Rattle.std.proofs.lemmas.List.{drop_more, take_rest}
use Rattle.std.proofs.lemmas.Bool.Decides.{nat_tests}
use Rattle.qil_tree.specs.declared.tree.Block.{Block}
use Rattle.qil_tree.specs.declared.tree.Inst.{Inst}
use Rattle.qil_tree.specs.declared.tree.Phi.{Phi}
use Rattle.qil_lines.specs.Marks.{Mark, head_marks, inst_marks, jump_marks, is_written, block_marks, marks_from}
use Rattle.qil_lines.specs.Lines.{place_from, at_index}

-- the first of two places, if it is there
abbrev pub or_else : Option (ℕ × ℕ) → Option (ℕ × ℕ) → Option (ℕ × ℕ)
or_else None q = q
or_else (Some p) q = Some p

pub cond_or_else : (t : Bool) (p : ℕ × ℕ) (q rest : Option (ℕ × ℕ)) → cond t (Some p) (or_else q rest) ≡ or_else (cond t (Some p) q) rest
cond_or_else true p q rest = refl
cond_or_else false p q rest = refl

-- what a prefix means, or else the rest
pub append_means : (line : ℕ) (prefix rest : List Mark) → place_from line (prefix ++ rest) ≡ or_else (place_from line prefix) (place_from line rest)
append_means line [] rest = refl
append_means line (m ∷ ms) rest =
    ap (λ v. cond (nat_le line m.line) (Some (m.block, m.index)) v) (append_means line ms rest)
    ∙ cond_or_else (nat_le line m.line) (m.block, m.index) (place_from line ms) (place_from line rest)

-- ---- phis
abbrev pub phi_marks : {A : Type 0} → ℕ → List (Phi A) → List Mark
phi_marks b phis = map (λ phi. record { line = phi.line; block = b; index = 0 }) phis

pub phis_mean : {A : Type 0} (line b : ℕ) (phis : List (Phi A)) (t : Bool) → t ≡ list_any (λ phi. nat_le line phi.line) phis → place_from line (phi_marks b phis) ≡ cond t (Some (b, 0)) None
phis_mean line b [] t e = rw e refl
phis_mean line b (phi ∷ phis) t e = rw e (by_head (nat_le line phi.line) (list_any (λ phi. nat_le line phi.line) phis) (place_from line (phi_marks b phis)) (phis_mean line b phis _ refl))
  where
    by_head : (h r : Bool) (rest : Option (ℕ × ℕ)) → rest ≡ cond r (Some (b, 0)) None → cond h (Some (b, 0)) rest ≡ cond (h || r) (Some (b, 0)) None
    by_head true r rest k = refl
    by_head false r rest k = k

-- ---- instructions, of which the first has the number k
abbrev pub shifted : ℕ → Option ℕ → Option ℕ
shifted k None = None
shifted k (Some i) = Some (k + i)

lt_more : (n len : ℕ) → nat_lt n len ≡ nat_lt (1 + n) (suc len)
lt_more n len = grind (arith, nat_tests)

-- one instruction before others, of which n fail the test before it
inst_step : (t : Bool) (n len k b : ℕ) (rest : Option (ℕ × ℕ)) → rest ≡ at_index b (shifted (k + 1) (cond (nat_lt n len) (Some n) None))
    → cond t (Some (b, k)) rest ≡ at_index b (shifted k (cond (nat_lt (cond (not t) (1 + n) 0) (suc len)) (Some (cond (not t) (1 + n) 0)) None))
inst_step true n len k b rest e =
    let some : nat_lt 0 (suc len) ≡ true = grind (arith, nat_tests) in rw some (ap (λ v. Some (b, v)) (omega arith))
inst_step false n len k b rest e =
    let same : nat_lt (1 + n) (suc len) ≡ nat_lt n len = sym (lt_more n len) in e ∙ rw same (by_test (nat_lt n len))
  where
    by_test : (t : Bool) → at_index b (shifted (k + 1) (cond t (Some n) None)) ≡ at_index b (shifted k (cond t (Some (1 + n)) None))
    by_test true = ap (λ v. Some (b, v)) (omega arith)
    by_test false = refl

pub insts_mean : {A : Type 0} (line b k : ℕ) (insts : List (Inst A)) → place_from line (inst_marks b k insts) ≡ at_index b (shifted k (position (λ inst. nat_le line inst.line) insts))
insts_mean line b k [] = refl
insts_mean line b k (inst ∷ insts) =
    inst_step (nat_le line inst.line) (position_or_len (λ i. nat_le line i.line) insts) (length insts) k b _ (insts_mean line b (k + 1) insts)

-- ---- a block

-- the place in a block that a line means, by the tests on its parts
abbrev pub chosen : Bool → Bool → Option ℕ → Bool → Bool → ℕ → ℕ → Option (ℕ × ℕ)
chosen label phi inst written jump b len =
    or_else (or_else (cond label (Some (b, 0)) (cond phi (Some (b, 0)) None)) (at_index b inst)) (cond written (cond jump (Some (b, len)) None) None)

pub jump_means : {A : Type 0} (line b : ℕ) (block : Block A) (next : List (Block A)) (w : Bool) → place_from line (cond w (record { line = block.jump.line; block = b; index = length block.insts } ∷ []) [])
    ≡ cond w (cond (nat_le line block.jump.line) (Some (b, length block.insts)) None) None
jump_means line b block next true = refl
jump_means line b block next false = refl

unshifted : (b : ℕ) (i : Option ℕ) → at_index b (shifted 0 i) ≡ at_index b i
unshifted b None = refl
unshifted b (Some i) = ap (λ v. Some (b, v)) (omega arith)

pub block_means : {A : Type 0} (line b : ℕ) (block : Block A) (next : List (Block A)) (label phi : Bool) (inst : Option ℕ) (written jump : Bool) → label ≡ nat_le line block.line
    → phi ≡ list_any (λ phi. nat_le line phi.line) block.phis → inst ≡ position (λ inst. nat_le line inst.line) block.insts → written ≡ is_written block next → jump ≡ nat_le line block.jump.line
    → place_from line (block_marks b block next) ≡ chosen label phi inst written jump b (length block.insts)
block_means line b block next label phi inst written jump l p i w j =
    append_means line (head_marks b block ++ inst_marks b 0 block.insts) (jump_marks b block next)
    ∙ ap (λ v. or_else v (place_from line (jump_marks b block next))) (append_means line (head_marks b block) (inst_marks b 0 block.insts))
    ∙ ap (λ v. or_else (or_else (cond (nat_le line block.line) (Some (b, 0)) v) (place_from line (inst_marks b 0 block.insts))) (place_from line (jump_marks b block next)))
    (phis_mean line b block.phis phi p)
    ∙ ap (λ v. or_else (or_else (cond (nat_le line block.line) (Some (b, 0)) (cond phi (Some (b, 0)) None)) v) (place_from line (jump_marks b block next)))
    (insts_mean line b 0 block.insts ∙ unshifted b (position (λ inst. nat_le line inst.line) block.insts))
    ∙ ap (λ v. or_else (or_else (cond (nat_le line block.line) (Some (b, 0)) (cond phi (Some (b, 0)) None)) (at_index b (position (λ inst. nat_le line inst.line) block.insts))) v)
    (jump_means line b block next (is_written block next))
    ∙ rw (← l, ← i, ← w, ← j) refl

pub le_false : (m n : ℕ) → n < m → false ≡ nat_le m n
le_false m n h = grind (arith, nat_tests)

pub le_true : (m n : ℕ) → m ≤ n → true ≡ nat_le m n
le_true m n h = grind (arith, nat_tests)

-- one block more, which means nothing, or this place
pub marks_step : {A : Type 0} (line b : ℕ) (blocks : List (Block A)) (block : Block A) → b < length blocks → block ≡ get_or blocks b block
    → place_from line (marks_from b (drop b blocks)) ≡ or_else (place_from line (block_marks b block (drop (b + 1) blocks))) (place_from line (marks_from (b + 1) (drop (b + 1) blocks)))
marks_step line b blocks block h e =
    ap (λ v. place_from line (marks_from b v)) (drop_more blocks b block h ∙ ap (λ v. v ∷ drop (b + 1) blocks) (sym e))
    ∙ append_means line (block_marks b block (drop (b + 1) blocks)) (marks_from (b + 1) (drop (b + 1) blocks))

-- the same where the place in the block is known
pub one_block : {A : Type 0} (line b : ℕ) (blocks there : List (Block A)) (block : Block A) (written : Bool) (index : Option ℕ) → there ≡ blocks → b < length there → block ≡ get_or there b block
    → written ≡ is_written block (take (length there - (b + 1)) (drop (b + 1) there))
    → ((n : ℕ) (next : List (Block A)) → is_written block next ≡ written → place_from line (block_marks n block next) ≡ at_index n index)
    → place_from line (marks_from b (drop b blocks)) ≡ or_else (at_index b index) (place_from line (marks_from (b + 1) (drop (b + 1) blocks)))
one_block {A} line b blocks there block written index same h e w means =
    subst (λ v. place_from line (marks_from b (drop b v)) ≡ or_else (at_index b index) (place_from line (marks_from (b + 1) (drop (b + 1) v)))) same
    (marks_step line b there block h e
    ∙ ap (λ v. or_else v (place_from line (marks_from (b + 1) (drop (b + 1) there))))
    (means b (drop (b + 1) there) (ap (λ v. is_written block v) (sym (take_rest there (b + 1))) ∙ sym w)))

-- a block before others has a jump of its own where the first of them is on another line
pub written_before : {A : Type 0} (block next : Block A) (after : List (Block A)) → slice_get after 0 ≡ Some next → not (nat_eq block.jump.line next.line) ≡ is_written block after
written_before {A} block next [] first = absurd cc
written_before {A} block next (other ∷ others) first =
    let same : other ≡ next = cc in
    ap (λ (b : Block A). not (nat_eq block.jump.line b.line)) (sym same)
