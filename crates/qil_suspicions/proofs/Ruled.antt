-- A program that keeps the rules of the language keeps those that the shadow's step needs: each global that is read has an
-- address, and each phi has one source for each block that leads to its own.
use Rattle.std.proofs.Common.{◌≡◌, ◌∙◌, ◌⊎◌, inl, inr, refl, sym, ap, subst, ℕ, zero, suc, ◌+◌, arith, Bool, true, false, if◌then◌else◌, List, [], ◌∷◌, ◌++◌, Option, Some, None}
use Rattle.std.specs.Prelude.{map, filter, find, option_map, unwrap_or, slice_get, codes, ◌||◌}
use Rattle.std.specs.List.{flat_map, AllByRecursion}
use Rattle.std.specs.Option.{option_or}
use Rattle.std.specs.Str.{bytes_eq}
use Rattle.std.proofs.lemmas.Bool.{true≢false}
use Rattle.std.proofs.lemmas.Slice.Eq.{bytes_eq-Decides}
use Rattle.qil_tree.specs.declared.ops.Class.{Class}
use Rattle.qil_tree.specs.declared.ops.Class.TheVariants as classes
use Rattle.qil_tree.specs.declared.ops.AbiType.{AbiType}
use Rattle.qil_tree.specs.declared.tree.Operand.{Operand}
use Rattle.qil_tree.specs.declared.tree.Operand.TheVariants as operands
use Rattle.qil_tree.specs.declared.tree.PhiSource.{PhiSource}
use Rattle.qil_tree.specs.declared.tree.Phi.{Phi}
use Rattle.qil_tree.specs.declared.tree.Inst.{Inst}
use Rattle.qil_tree.specs.declared.tree.JumpKind.{JumpKind}
use Rattle.qil_tree.specs.declared.tree.JumpKind.TheVariants as jumps
use Rattle.qil_tree.specs.declared.tree.Block.{Block}
use Rattle.qil_tree.specs.declared.tree.Func.{Func}
use Rattle.qil_tree.specs.declared.tree.Data.{Data}
use Rattle.qil_tree.specs.declared.tree.Definition.{Definition}
use Rattle.qil_tree.specs.declared.tree.Definition.TheVariants as definitions
use Rattle.qil_tree.specs.declared.tree.Program.{Program}
use Rattle.qil_memory.specs.qil_rules.declared.rule.Rule.TheVariants.{C8, C9}
use Rattle.qil_memory.specs.qil_rules.declared.occurrence.OccurrenceKind.{OccurrenceKind}
use Rattle.qil_memory.specs.qil_rules.declared.occurrence.OccurrenceKind.TheVariants.{DataName, FunctionName, Label, Edge, PhiLabel, PhiOf, Defines, Global}
use Rattle.qil_memory.specs.qil_rules.declared.occurrence.Occurrence.{Occurrence}
use Rattle.qil_memory.specs.qil_rules.Operands.{Read, inst_reads, inst_target, inst_long_class}
use Rattle.qil_memory.specs.qil_rules.Occurrences.{on, operand_occurrences, read_occurrences, target_occurrences, long_occurrences, source_occurrences, phi_occurrences, inst_occurrences, returned_class, jump_occurrences, block_occurrences, param_occurrence, func_occurrences, data_occurrences, texts_in, texts}
use Rattle.qil_memory.specs.qil_rules.Text.{IsAt, Names, IsAmong, AreDistinct, ArePredecessors, IsPredecessor, labels_of}
use Rattle.qil_memory.specs.qil_rules.Rules.{HasName, is_built_in, WellFormed}
use Rattle.qil_memory.specs.qil_layout.Layout.{data_base, start_of, end_of, if_named, data_address, func_address, built_in_address, address_of}
use Rattle.qil_semantics.specs.State.{Name}
use Rattle.qil_semantics.specs.Step.{PhiMove, phi_moves, block_labelled}
use Rattle.qil_code.specs.Facts.{jump_labels}
use Rattle.qil_code.specs.Numbered.{func_at, block_in, block_at, inst_in, inst_at}
use Rattle.qil_code.proofs.Spots.{One, one_more, one_behind, one_before}
use Rattle.qil_code.proofs.FactsNames.{func_text, mapped_at}
use Rattle.qil_shadow.specs.Phis.{IsSingle}
use Rattle.qil_shadow.specs.Jumps.{jump_operands}
use Rattle.qil_shadow.specs.Steps.{HasAddress, PhiIsRuled, IsRuled}

-- ---- a global that is defined has an address

or_none : (o q : Option ℕ) → option_or o q ≡ None → (o ≡ None) × (q ≡ None)
or_none None q e = (refl, e)
or_none (Some a) q e = absurd cc

named_none : (b : Bool) (a : ℕ) → (if b then Some a else None) ≡ None → b ≡ false
named_none true a e = absurd cc
named_none false a e = refl

other : (x y : Name) → bytes_eq x y ≡ false → x ≡ y → ⊥
other x y e same = true≢false (sym ((bytes_eq-Decides x y).1 same) ∙ e)

no_data : {A : Type 0} (at : ℕ) (ds : List (Data A)) (x : Name) → data_address at ds x ≡ None → (k : ℕ) (d : Data A) → slice_get ds k ≡ Some d → d.name ≡ x → ⊥
no_data at [] x e k d here same = absurd cc
no_data at (c ∷ ds) x e zero d here same =
    other c.name x (named_none (bytes_eq c.name x) (start_of at c) (or_none (if_named c.name x (start_of at c)) (data_address (end_of at c) ds x) e).0)
    (ap (λ o. (unwrap_or o d).name) here ∙ same)
no_data at (c ∷ ds) x e (suc k) d here same = no_data (end_of at c) ds x (or_none (if_named c.name x (start_of at c)) (data_address (end_of at c) ds x) e).1 k d here same

no_func : {A : Type 0} (at : ℕ) (fs : List (Func A)) (x : Name) → func_address at fs x ≡ None → (k : ℕ) (f : Func A) → slice_get fs k ≡ Some f → f.name ≡ x → ⊥
no_func at [] x e k f here same = absurd cc
no_func at (g ∷ fs) x e zero f here same =
    other g.name x (named_none (bytes_eq g.name x) at (or_none (if_named g.name x at) (func_address (at + 16) fs x) e).0)
    (ap (λ o. (unwrap_or o f).name) here ∙ same)
no_func at (g ∷ fs) x e (suc k) f here same = no_func (at + 16) fs x (or_none (if_named g.name x at) (func_address (at + 16) fs x) e).1 k f here same

eq_sym : (x y : Name) (b : Bool) → bytes_eq x y ≡ false → bytes_eq y x ≡ b → b ≡ false
eq_sym x y false e f = refl
eq_sym x y true e f = absurd (other x y e (sym ((bytes_eq-Decides y x).0 f)))

not_given : (x : Name) → built_in_address x ≡ None → is_built_in x ≡ false
not_given x e =
    let a = or_none (if_named (codes "putchar") x 1024) (option_or (if_named (codes "puts") x 1040) (if_named (codes "exit") x 1056)) e in
    let b = or_none (if_named (codes "puts") x 1040) (if_named (codes "exit") x 1056) a.1 in
    (λ i. eq_sym (codes "putchar") x (bytes_eq x (codes "putchar")) (named_none (bytes_eq (codes "putchar") x) 1024 a.0) refl i
    || (eq_sym (codes "puts") x (bytes_eq x (codes "puts")) (named_none (bytes_eq (codes "puts") x) 1040 b.0) refl i
    || eq_sym (codes "exit") x (bytes_eq x (codes "exit")) (named_none (bytes_eq (codes "exit") x) 1056 b.1) refl i))

-- ---- the texts of a program are those of its definitions

rest_text : {A : Type 0} (Q : List Occurrence → Type 0) (ds : List (Data A)) (fs : List (Func A)) → ((k : ℕ) (d : Data A) → slice_get ds k ≡ Some d → Q (data_occurrences d)) → ((k : ℕ) (f : Func A) → slice_get fs k ≡ Some f → Q (func_occurrences f))
    → (m : ℕ) (text : List Occurrence) → slice_get (map data_occurrences ds ++ map func_occurrences fs) m ≡ Some text → Q text
rest_text Q [] [] hd hf m text at = absurd cc
rest_text Q [] (f ∷ fs) hd hf zero text at = subst Q (ap (λ o. unwrap_or o text) at) (hf 0 f refl)
rest_text Q [] (f ∷ fs) hd hf (suc m) text at = rest_text Q [] fs hd (λ k g e. hf (suc k) g e) m text at
rest_text Q (d ∷ ds) fs hd hf zero text at = subst Q (ap (λ o. unwrap_or o text) at) (hd 0 d refl)
rest_text Q (d ∷ ds) fs hd hf (suc m) text at = rest_text Q ds fs (λ k e h. hd (suc k) e h) hf m text at

each_text : {A : Type 0} (Q : List Occurrence → Type 0) (order : List Definition) (ds : List (Data A)) (fs : List (Func A)) → ((k : ℕ) (d : Data A) → slice_get ds k ≡ Some d → Q (data_occurrences d))
    → ((k : ℕ) (f : Func A) → slice_get fs k ≡ Some f → Q (func_occurrences f)) → (m : ℕ) (text : List Occurrence) → slice_get (texts_in order ds fs) m ≡ Some text → Q text
each_text Q [] ds fs hd hf m text at = rest_text Q ds fs hd hf m text at
each_text Q (definitions.Data ∷ order) [] fs hd hf m text at = each_text Q order [] fs hd hf m text at
each_text Q (definitions.Data ∷ order) (d ∷ ds) fs hd hf zero text at = subst Q (ap (λ o. unwrap_or o text) at) (hd 0 d refl)
each_text Q (definitions.Data ∷ order) (d ∷ ds) fs hd hf (suc m) text at = each_text Q order ds fs (λ k e h. hd (suc k) e h) hf m text at
each_text Q (definitions.Func ∷ order) ds [] hd hf m text at = each_text Q order ds [] hd hf m text at
each_text Q (definitions.Func ∷ order) ds (f ∷ fs) hd hf zero text at = subst Q (ap (λ o. unwrap_or o text) at) (hf 0 f refl)
each_text Q (definitions.Func ∷ order) ds (f ∷ fs) hd hf (suc m) text at = each_text Q order ds fs hd (λ k g e. hf (suc k) g e) m text at

abbrev name_in : OccurrenceKind → Name
name_in (DataName x) = x
name_in (FunctionName x) = x
name_in what = []

names_data : {A : Type 0} (d : Data A) (x : Name) → Names (data_occurrences d) 0 x → d.name ≡ x
names_data d x (inl e) = ap (λ o. name_in (unwrap_or o (DataName x))) e
names_data d x (inr e) = absurd cc

names_func : {A : Type 0} (f : Func A) (x : Name) → Names (func_occurrences f) 0 x → f.name ≡ x
names_func f x (inl e) = absurd cc
names_func f x (inr e) = ap (λ o. name_in (unwrap_or o (FunctionName x))) e

not_named : {A : Type 0} (p : Program A) (x : Name) → data_address data_base p.datas x ≡ None → func_address 4096 p.funcs x ≡ None → (m : ℕ) → HasName (texts p) m x → ⊥
not_named p x no_d no_f m (text, at, names) =
    each_text (λ t. Names t 0 x → ⊥) p.order p.datas p.funcs (λ k d here n. no_data data_base p.datas x no_d k d here (names_data d x n)) (λ k f here n. no_func 4096 p.funcs x no_f k f here (names_func f x n)) m text at names

-- by rule C9
addressed_by : {A : Type 0} (p : Program A) (o : Option ℕ) → WellFormed p → (n : ℕ) (f : Func A) (line : ℕ) (g : Name) → slice_get p.funcs n ≡ Some f → One (func_occurrences f) (on line (Global g)) → address_of p g ≡ o → (a : ℕ) × (address_of p g ≡ Some a)
addressed_by p (Some a) kept n f line g there one e = (a, e)
addressed_by p None kept n f line g there one e =
    let t = func_text p.order p.datas p.funcs n f there in
    let d = or_none (data_address data_base p.datas g) (option_or (func_address 4096 p.funcs g) (built_in_address g)) e in
    let r = or_none (func_address 4096 p.funcs g) (built_in_address g) d.1 in
    absurd (kept C9 (record { text = t.0; occurrence = one.0 })
    (func_occurrences f, t.1, (g, ap (option_map (λ (m : Occurrence). m.what)) one.1, (not_named p g d.0 r.0, not_given g r.1))))

-- ---- the operands of a function, in its text

-- what an operand mentions stands in a text
abbrev Stands : List Occurrence → Operand → Type 0
Stands text a = (g : Name) → a ≡ operands.Global g → (line : ℕ) × One text (on line (Global g))

addressed : {A : Type 0} (p : Program A) (n : ℕ) (f : Func A) (a : Operand) → WellFormed p → slice_get p.funcs n ≡ Some f → Stands (func_occurrences f) a → HasAddress p a
addressed p n f (operands.Number v) kept there stands = tt
addressed p n f (operands.Global g) kept there stands = let s = stands g refl in addressed_by p (address_of p g) kept n f s.0 g there s.1 refl
addressed p n f (operands.Temp x) kept there stands = tt

operand_stands : (line : ℕ) (c : Class) (a : Operand) → Stands (operand_occurrences line c a) a
operand_stands line c a g e = (line, subst (λ b. One (operand_occurrences line c b) (on line (Global g))) (sym e) (0, refl))

-- what stands in a part stands in the whole
one_part : {X : Type 0} (f : X → List Occurrence) (xs : List X) (k : ℕ) (x : X) (m : Occurrence) → slice_get xs k ≡ Some x → One (f x) m → One (flat_map f xs) m
one_part f [] k x m at o = absurd cc
one_part f (y ∷ ys) zero x m at o = one_before (f y) (flat_map f ys) m (subst (λ z. One (f z) m) (sym (ap (λ q. unwrap_or q x) at)) o)
one_part f (y ∷ ys) (suc k) x m at o = one_behind (f y) (flat_map f ys) m (one_part f ys k x m at o)

stands_in : (s t : List Occurrence) (a : Operand) → ((m : Occurrence) → One s m → One t m) → Stands s a → Stands t a
stands_in s t a f stands g e = let q = stands g e in (q.0, f (on q.0 (Global g)) q.1)

each_in : {X : Type 0} (P : X → Type 0) (xs : List X) → ((k : ℕ) (x : X) → slice_get xs k ≡ Some x → P x) → AllByRecursion P xs
each_in P [] h = tt
each_in P (x ∷ xs) h = (h 0 x refl, each_in P xs (λ k y e. h (suc k) y e))

-- the parts of a block in the text of its function
in_func : {A : Type 0} (f : Func A) (j : ℕ) (b : Block A) (m : Occurrence) → slice_get f.blocks j ≡ Some b → One (block_occurrences f.returns b) m → One (func_occurrences f) m
in_func f j b m at o =
    let params = map (param_occurrence f.line) f.params in
    let blocks = flat_map (block_occurrences f.returns) f.blocks in
    one_more (on f.line (FunctionName f.name)) (params ++ blocks) m (one_behind params blocks m (one_part (block_occurrences f.returns) f.blocks j b m at o))

phi_in_block : {A : Type 0} (returns : Option AbiType) (b : Block A) (k : ℕ) (phi : Phi A) (m : Occurrence) → slice_get b.phis k ≡ Some phi → One (phi_occurrences b.label phi) m → One (block_occurrences returns b) m
phi_in_block returns b k phi m at o =
    let jump = jump_occurrences returns b.label b.jump.line b.jump.kind in
    let insts = flat_map inst_occurrences b.insts in
    let phis = flat_map (phi_occurrences b.label) b.phis in
    one_more (on b.line (Label b.label)) (phis ++ (insts ++ jump)) m (one_before phis (insts ++ jump) m (one_part (phi_occurrences b.label) b.phis k phi m at o))

inst_in_block : {A : Type 0} (returns : Option AbiType) (b : Block A) (k : ℕ) (inst : Inst A) (m : Occurrence) → slice_get b.insts k ≡ Some inst → One (inst_occurrences inst) m → One (block_occurrences returns b) m
inst_in_block returns b k inst m at o =
    let jump = jump_occurrences returns b.label b.jump.line b.jump.kind in
    let insts = flat_map inst_occurrences b.insts in
    let phis = flat_map (phi_occurrences b.label) b.phis in
    one_more (on b.line (Label b.label)) (phis ++ (insts ++ jump)) m (one_behind phis (insts ++ jump) m (one_before insts jump m (one_part inst_occurrences b.insts k inst m at o)))

jump_in_block : {A : Type 0} (returns : Option AbiType) (b : Block A) (m : Occurrence) → One (jump_occurrences returns b.label b.jump.line b.jump.kind) m → One (block_occurrences returns b) m
jump_in_block returns b m o =
    let jump = jump_occurrences returns b.label b.jump.line b.jump.kind in
    let insts = flat_map inst_occurrences b.insts in
    let phis = flat_map (phi_occurrences b.label) b.phis in
    one_more (on b.line (Label b.label)) (phis ++ (insts ++ jump)) m (one_behind phis (insts ++ jump) m (one_behind insts jump m o))

read_stands : {A : Type 0} (inst : Inst A) (k : ℕ) (r : Read) → slice_get (inst_reads inst.kind) k ≡ Some r → Stands (inst_occurrences inst) r.operand
read_stands inst k r at =
    let rest = long_occurrences inst.line (inst_long_class inst.kind) ++ target_occurrences inst.line (inst_target inst.kind) in
    let reads = flat_map (read_occurrences inst.line) (inst_reads inst.kind) in
    stands_in (read_occurrences inst.line r) (reads ++ rest) r.operand (λ m o. one_before reads rest m (one_part (read_occurrences inst.line) (inst_reads inst.kind) k r m at o)) (operand_stands inst.line r.class r.operand)

source_stands : {A : Type 0} (b : Name) (phi : Phi A) (k : ℕ) (q : PhiSource) → slice_get phi.sources k ≡ Some q → Stands (phi_occurrences b phi) q.value
source_stands b phi k q at =
    let sources : PhiSource → List Occurrence = λ s. source_occurrences phi.line phi.target.class s in
    let rest = on phi.line (PhiOf b phi.sources) ∷ (on phi.line (Defines phi.target.name phi.target.class) ∷ []) in
    stands_in (operand_occurrences phi.line phi.target.class q.value) (flat_map sources phi.sources ++ rest) q.value
    (λ m o. one_before (flat_map sources phi.sources) rest m (one_part sources phi.sources k q m at (one_more (on phi.line (PhiLabel q.label)) (operand_occurrences phi.line phi.target.class q.value) m o)))
    (operand_stands phi.line phi.target.class q.value)

jump_stands : (returns : Option AbiType) (from : Name) (line : ℕ) (kind : JumpKind) → AllByRecursion (Stands (jump_occurrences returns from line kind)) (jump_operands kind)
jump_stands returns from line (jumps.Jmp l) = tt
jump_stands returns from line (jumps.Jnz a l m) =
    let here = operand_occurrences line classes.W a in
    let rest = on line (Edge from l) ∷ (on line (Edge from m) ∷ []) in
    (stands_in here (here ++ rest) a (λ x o. one_before here rest x o) (operand_stands line classes.W a), tt)
jump_stands returns from line (jumps.Ret None) = tt
jump_stands returns from line (jumps.Ret (Some a)) =
    let here = operand_occurrences line (returned_class returns) a in
    let rest = jump_occurrences returns from line (jumps.Ret (Some a)) in
    (stands_in here rest a (λ x o. one_before here _ x o) (operand_stands line (returned_class returns) a), tt)
jump_stands returns from line jumps.Hlt = tt

-- ---- what stands at a place

block_found : {A : Type 0} (o : Option (Func A)) (j : ℕ) (b : Block A) → block_in o j ≡ Some b → (f : Func A) × (o ≡ Some f) × (slice_get f.blocks j ≡ Some b)
block_found None j b e = absurd cc
block_found (Some f) j b e = (f, refl, e)

inst_found : {A : Type 0} (o : Option (Block A)) (k : ℕ) (inst : Inst A) → inst_in o k ≡ Some inst → (b : Block A) × (o ≡ Some b) × (slice_get b.insts k ≡ Some inst)
inst_found None k inst e = absurd cc
inst_found (Some b) k inst e = (b, refl, e)

insts_ruled : {A : Type 0} (p : Program A) → WellFormed p → (i j k : ℕ) (inst : Inst A) → inst_at p i j k ≡ Some inst → AllByRecursion (λ r. HasAddress p r.operand) (inst_reads inst.kind)
insts_ruled p kept i j k inst at =
    let b = inst_found (block_at p i j) k inst at in
    let f = block_found (func_at p i) j b.0 b.1 in
    each_in (λ r. HasAddress p r.operand) (inst_reads inst.kind) (λ n r here.
    addressed p i f.0 r.operand kept f.1 (stands_in (inst_occurrences inst) (func_occurrences f.0) r.operand (λ m o. in_func f.0 j b.0 m f.2 (inst_in_block f.0.returns b.0 k inst m b.2 o)) (read_stands inst n r here)))

mapped_all : {X : Type 0} (P Q : X → Type 0) (xs : List X) → ((x : X) → P x → Q x) → AllByRecursion P xs → AllByRecursion Q xs
mapped_all P Q [] f all = tt
mapped_all P Q (x ∷ xs) f all = (f x all.0, mapped_all P Q xs f all.1)

jumps_ruled : {A : Type 0} (p : Program A) → WellFormed p → (i j : ℕ) (b : Block A) → block_at p i j ≡ Some b → AllByRecursion (HasAddress p) (jump_operands b.jump.kind)
jumps_ruled p kept i j b at =
    let f = block_found (func_at p i) j b at in
    let text = jump_occurrences f.0.returns b.label b.jump.line b.jump.kind in
    mapped_all (Stands text) (HasAddress p) (jump_operands b.jump.kind)
    (λ a s. addressed p i f.0 a kept f.1 (stands_in text (func_occurrences f.0) a (λ m o. in_func f.0 j b m f.2 (jump_in_block f.0.returns b m o)) s))
    (jump_stands f.0.returns b.label b.jump.line b.jump.kind)

phis_ruled : {A : Type 0} (p : Program A) → WellFormed p → (i j : ℕ) (b : Block A) → block_at p i j ≡ Some b → AllByRecursion (PhiIsRuled p) b.phis
phis_ruled p kept i j b at =
    let f = block_found (func_at p i) j b at in
    each_in (PhiIsRuled p) b.phis (λ k phi here. each_in (λ q. HasAddress p q.value) phi.sources (λ n q there.
    addressed p i f.0 q.value kept f.1 (stands_in (phi_occurrences b.label phi) (func_occurrences f.0) q.value (λ m o. in_func f.0 j b m f.2 (phi_in_block f.0.returns b k phi m here o)) (source_stands b.label phi n q there))))

-- ---- one source for each block, by rule C8

abbrev from : Name → List PhiSource → List PhiSource
from x qs = filter (λ q. bytes_eq q.label x) qs

distinct_rest : (q : PhiSource) (qs : List PhiSource) → AreDistinct (labels_of (q ∷ qs)) → AreDistinct (labels_of qs)
distinct_rest q qs apart i j x a b = let same = apart (suc i) (suc j) x a b in omega (arith, same)

zero_suc : {X : Type 0} (n : ℕ) → zero ≡ suc n → X
zero_suc n e = absurd cc

none_from : (x : Name) (qs : List PhiSource) → ((i : ℕ) → slice_get (labels_of qs) i ≡ Some x → ⊥) → from x qs ≡ []
none_from x [] lacks = refl
none_from x (q ∷ qs) lacks = by (bytes_eq q.label x) refl (none_from x qs (λ i at. lacks (suc i) at))
  where
    by : (b : Bool) → bytes_eq q.label x ≡ b → from x qs ≡ [] → from x (q ∷ qs) ≡ []
    by true e rest = absurd (lacks 0 (ap (λ y. Some y) ((bytes_eq-Decides q.label x).0 e)))
    by false e rest = (λ i. if e i then q ∷ from x qs else from x qs) ∙ rest

the_one : (x : Name) (qs : List PhiSource) (i : ℕ) → AreDistinct (labels_of qs) → slice_get (labels_of qs) i ≡ Some x → (q : PhiSource) × (from x qs ≡ q ∷ [])
the_one x [] i apart at = absurd cc
the_one x (q ∷ qs) i apart at = by (bytes_eq q.label x) refl i at (λ j more. the_one x qs j (distinct_rest q qs apart) more)
  where
    by : (b : Bool) → bytes_eq q.label x ≡ b → (i : ℕ) → slice_get (labels_of (q ∷ qs)) i ≡ Some x → ((j : ℕ) → slice_get (labels_of qs) j ≡ Some x → (r : PhiSource) × (from x qs ≡ r ∷ []))
        → (r : PhiSource) × (from x (q ∷ qs) ≡ r ∷ [])
    by true e i at deep =
        let here : slice_get (labels_of (q ∷ qs)) 0 ≡ Some x = ap (λ y. Some y) ((bytes_eq-Decides q.label x).0 e) in
        (q, (λ k. if e k then q ∷ from x qs else from x qs) ∙ ap (λ l. q ∷ l) (none_from x qs (λ k more. zero_suc k (apart 0 (suc k) x here more))))
    by false e zero at deep = absurd (other q.label x e (ap (λ o. unwrap_or o x) at))
    by false e (suc i) at deep = let rest = deep i at in (rest.0, (λ k. if e k then q ∷ from x qs else from x qs) ∙ rest.1)

single_by : {A : Type 0} (text : List Occurrence) (b left : Name) (phi : Phi A) (found : List PhiSource) → ((ArePredecessors text b (labels_of phi.sources) → ⊥) → ⊥) → IsPredecessor text b left → from left phi.sources ≡ found → IsSingle left phi
single_by text b left phi [] right edge e = absurd (right (λ are. let i = (are.1 left).1 edge in let one = the_one left phi.sources i.0 are.0 i.1 in let both : [] ≡ one.0 ∷ [] = sym e ∙ one.1 in cc))
single_by text b left phi (q ∷ []) right edge e = (record { target = phi.target; value = q.value }, ap (map (λ (s : PhiSource). record { target = phi.target; value = s.value })) e)
single_by text b left phi (q ∷ (r ∷ found)) right edge e =
    absurd (right (λ are. let i = (are.1 left).1 edge in let one = the_one left phi.sources i.0 are.0 i.1 in let both : q ∷ (r ∷ found) ≡ one.0 ∷ [] = sym e ∙ one.1 in cc))

labelled : {A : Type 0} (bs : List (Block A)) (l : Name) (b : Block A) → block_labelled bs l ≡ Some b → One bs b × (b.label ≡ l)
labelled [] l b e = absurd cc
labelled {A} (c ∷ bs) l b e = by (bytes_eq c.label l) refl (λ f. labelled bs l b f)
  where
    by : (t : Bool) → bytes_eq c.label l ≡ t → (block_labelled bs l ≡ Some b → One bs b × (b.label ≡ l)) → One (c ∷ bs) b × (b.label ≡ l)
    by true is deep =
        let same : Some c ≡ Some b = (λ k. if sym is k then Some c else block_labelled bs l) ∙ e in
        ((0, same), ap (λ (o : Option (Block A)). (unwrap_or o c).label) (sym same) ∙ (bytes_eq-Decides c.label l).0 is)
    by false is deep =
        let rest = deep ((λ k. if sym is k then Some c else block_labelled bs l) ∙ e) in
        (one_more c bs b rest.0, rest.1)

edges_of_two : (line : ℕ) (from l m x : Name) (i : ℕ) → slice_get (l ∷ (m ∷ [])) i ≡ Some x → slice_get (on line (Edge from l) ∷ (on line (Edge from m) ∷ [])) i ≡ Some (on line (Edge from x))
edges_of_two line from l m x zero at = ap (option_map (λ y. on line (Edge from y))) at
edges_of_two line from l m x (suc zero) at = ap (option_map (λ y. on line (Edge from y))) at
edges_of_two line from l m x (suc (suc i)) at = absurd cc

edge_of_one : (line : ℕ) (from l x : Name) (i : ℕ) → slice_get (l ∷ []) i ≡ Some x → slice_get (on line (Edge from l) ∷ []) i ≡ Some (on line (Edge from x))
edge_of_one line from l x zero at = ap (option_map (λ y. on line (Edge from y))) at
edge_of_one line from l x (suc i) at = absurd cc

jump_edge : (returns : Option AbiType) (from : Name) (line : ℕ) (j : JumpKind) (x : Name) → IsAmong x (jump_labels j) → One (jump_occurrences returns from line j) (on line (Edge from x))
jump_edge returns from line (jumps.Jmp l) x (i, at) = (i, edge_of_one line from l x i at)
jump_edge returns from line (jumps.Jnz a l m) x (i, at) = one_behind (operand_occurrences line classes.W a) _ (on line (Edge from x)) (i, edges_of_two line from l m x i at)
jump_edge returns from line (jumps.Ret a) x (i, at) = absurd cc
jump_edge returns from line jumps.Hlt x (i, at) = absurd cc

single : {A : Type 0} (p : Program A) → WellFormed p → (i j : ℕ) (f : Func A) (left target : Block A) (l : Name) → func_at p i ≡ Some f → slice_get f.blocks j ≡ Some left → IsAmong l (jump_labels left.jump.kind)
    → block_labelled f.blocks l ≡ Some target → AllByRecursion (IsSingle left.label) target.phis
single p kept i j f left target l there at among goes =
    let text = func_occurrences f in
    let t = func_text p.order p.datas p.funcs i f there in
    let to = labelled f.blocks l target goes in
    let edge = in_func f j left (on left.jump.line (Edge left.label l)) at (jump_in_block f.returns left _ (jump_edge f.returns left.label left.jump.line left.jump.kind l among)) in
    let leads : IsPredecessor text target.label left.label =
    (edge.0, ap (option_map (λ (m : Occurrence). m.what)) edge.1 ∙ ap (λ y. Some (Edge left.label y)) (sym to.1)) in
    each_in (IsSingle left.label) target.phis (λ k phi here.
    let sources : PhiSource → List Occurrence = λ s. source_occurrences phi.line phi.target.class s in
    let of = in_func f to.0.0 target (on phi.line (PhiOf target.label phi.sources)) to.0.1
    (phi_in_block f.returns target k phi (on phi.line (PhiOf target.label phi.sources)) here (one_behind (flat_map sources phi.sources) _ (on phi.line (PhiOf target.label phi.sources)) (0, refl))) in
    single_by text target.label left.label phi (from left.label phi.sources)
    (λ wrong. kept C8 (record { text = t.0; occurrence = of.0 }) (text, t.1, (target.label, phi.sources, ap (option_map (λ (m : Occurrence). m.what)) of.1, wrong)))
    leads refl)

pub ruled : {A : Type 0} (p : Program A) → WellFormed p → IsRuled p
ruled p kept = record {
  insts = insts_ruled p kept;
  jumps = jumps_ruled p kept;
  phis = phis_ruled p kept;
  single = single p kept;
}
