-- Temporaries of a well-formed program's functions: each that is named stands in the text, and there are at most 65,535.
use Rattle.std.proofs.Common.{◌≡◌, ◌≢◌, refl, ℕ, zero, suc, ◌<◌, ◌≤◌, inl, inr, ⊎_elim, Bool, true, false, if◌then◌else◌, not, List, [], ◌∷◌, ◌++◌, map, filter, flat_map, slice_get, length, Option, Some, None, bytes_eq, arith}
use Rattle.std.specs.List.{All, AllPairs}
use Rattle.std.proofs.lemmas.Bool.{cases_lt}
use Rattle.std.proofs.lemmas.Bool.Decides.{not_from_Decides}
use Rattle.std.proofs.lemmas.List.Elements.{All-nil, All-cons, All-head, All-tail, All-append, All-filter, All-weaker}
use Rattle.std.proofs.lemmas.List.Kept.{AllPairs-cons, AllPairs-filter}
use Rattle.std.proofs.lemmas.Slice.Eq.{bytes_eq-Decides}
use Rattle.qil_tree.specs.declared.ops.Class.{Class}
use Rattle.qil_tree.specs.declared.ops.AbiType.{AbiType}
use Rattle.qil_tree.specs.declared.tree.Operand.{Operand}
use Rattle.qil_tree.specs.declared.tree.Operand.TheVariants as operands
use Rattle.qil_tree.specs.declared.tree.Target.{Target}
use Rattle.qil_tree.specs.declared.tree.Param.{Param}
use Rattle.qil_tree.specs.declared.tree.PhiSource.{PhiSource}
use Rattle.qil_tree.specs.declared.tree.Phi.{Phi}
use Rattle.qil_tree.specs.declared.tree.Inst.{Inst}
use Rattle.qil_tree.specs.declared.tree.JumpKind.{JumpKind}
use Rattle.qil_tree.specs.declared.tree.JumpKind.TheVariants as jumps
use Rattle.qil_tree.specs.declared.tree.Block.{Block}
use Rattle.qil_tree.specs.declared.tree.Func.{Func}
use Rattle.qil_tree.specs.declared.tree.Program.{Program}
use Rattle.qil_tree.specs.Types.{class_of}
use Rattle.qil_rules.specs.declared.rule.Rule.TheVariants.{C12}
use Rattle.qil_rules.specs.declared.occurrence.OccurrenceKind.{OccurrenceKind}
use Rattle.qil_rules.specs.declared.occurrence.OccurrenceKind.TheVariants.{FunctionName, Label, PhiLabel, PhiOf, Defines}
use Rattle.qil_rules.specs.declared.occurrence.Occurrence.{Occurrence}
use Rattle.qil_rules.specs.Operands.{Read, inst_reads, inst_target, inst_long_class}
use Rattle.qil_rules.specs.Occurrences.{on, operand_occurrences, read_occurrences, target_occurrences, long_occurrences, source_occurrences, phi_occurrences, inst_occurrences, jump_occurrences, block_occurrences, param_occurrence, func_occurrences}
use Rattle.qil_rules.specs.Text.{IsAt, IsTemporary}
use Rattle.qil_rules.specs.Rules.{WellFormed}
use Rattle.qil_semantics.specs.State.{Name}
use Rattle.qil_semantics.specs.Names.{operand_names, target_names, phi_names, inst_names, jump_names, block_names, once, temps_named}
use Rattle.qil_code.proofs.FactsNames.{func_text}

-- ---- names, each once

abbrev other : Name → Name → Bool
other x y = not (bytes_eq x y)

abbrev pub Differ : Name → Name → Type 0
Differ x y = x ≢ y

others_at : (x y : Name) (ys : List Name) (b : Bool) → bytes_eq x y ≡ b → All (Differ x) ys → All (Differ x) (if not b then y ∷ ys else ys)
others_at x y ys true e h = h
others_at x y ys false e h = All-cons (Differ x) y ys (not_from_Decides (bytes_eq x y) (bytes_eq-Decides x y) e) h

others-differ : (x : Name) (ys : List Name) → All (Differ x) (filter (other x) ys)
others-differ x [] = All-nil (Differ x)
others-differ x (y ∷ ys) = others_at x y (filter (other x) ys) (bytes_eq x y) refl (others-differ x ys)

pub once-differ : (xs : List Name) → AllPairs Differ (once xs)
unfolding once
once-differ [] = λ i j d l within. absurd (omega (arith, l, within))
once-differ (x ∷ xs) =
    AllPairs-cons Differ x (filter (other x) (once xs)) (others-differ x (once xs)) (AllPairs-filter Differ (other x) (once xs) (once-differ xs))

once-all : (P : Name → Type 0) (xs : List Name) → All P xs → All P (once xs)
unfolding once
once-all P [] h = h
once-all P (x ∷ xs) h =
    All-cons P x (filter (other x) (once xs)) (All-head P x xs h) (All-filter (other x) P (once xs) (once-all P xs (All-tail P x xs h)))

-- ---- temporaries in a text and in a longer one

temp_behind : (pre text : List Occurrence) (x : Name) → IsTemporary text x → IsTemporary (pre ++ text) x
temp_behind [] text x h = h
temp_behind (m ∷ pre) text x h = let deep = temp_behind pre text x h in (suc deep.0, deep.1, deep.2)

stands_before : (text post : List Occurrence) (k : ℕ) (what : OccurrenceKind) → IsAt text k what → IsAt (text ++ post) k what
stands_before [] post k what e = absurd cc
stands_before (m ∷ text) post zero what e = e
stands_before (m ∷ text) post (suc k) what e = stands_before text post k what e

temp_before : (text post : List Occurrence) (x : Name) → IsTemporary text x → IsTemporary (text ++ post) x
temp_before text post x (k, c, inl e) = (k, c, inl (stands_before text post k _ e))
temp_before text post x (k, c, inr e) = (k, c, inr (stands_before text post k _ e))

-- each of the names is a temporary of the text
abbrev AreThere : List Occurrence → List Name → Type 0
AreThere text xs = All (IsTemporary text) xs

none_there : (text : List Occurrence) → AreThere text []
none_there text = All-nil (IsTemporary text)

one_there : (text : List Occurrence) (x : Name) → IsTemporary text x → AreThere text (x ∷ [])
one_there text x h = All-cons (IsTemporary text) x [] h (none_there text)

there_behind : (pre text : List Occurrence) (xs : List Name) → AreThere text xs → AreThere (pre ++ text) xs
there_behind pre text xs h = All-weaker (IsTemporary text) (IsTemporary (pre ++ text)) (temp_behind pre text) xs h

there_before : (text post : List Occurrence) (xs : List Name) → AreThere text xs → AreThere (text ++ post) xs
there_before text post xs h = All-weaker (IsTemporary text) (IsTemporary (text ++ post)) (temp_before text post) xs h

-- two texts with their names, in the order of the texts and in the other one
both_there : (s t : List Occurrence) (xs ys : List Name) → AreThere s xs → AreThere t ys → AreThere (s ++ t) (xs ++ ys)
both_there s t xs ys h k = All-append (IsTemporary (s ++ t)) xs ys (there_before s t xs h) (there_behind s t ys k)

turned_there : (s t : List Occurrence) (xs ys : List Name) → AreThere s xs → AreThere t ys → AreThere (s ++ t) (ys ++ xs)
turned_there s t xs ys h k = All-append (IsTemporary (s ++ t)) ys xs (there_behind s t ys k) (there_before s t xs h)

all_there : {X : Type 0} (f : X → List Occurrence) (g : X → List Name) → ((x : X) → AreThere (f x) (g x)) → (xs : List X) → AreThere (flat_map f xs) (flat_map g xs)
all_there f g h [] = none_there []
all_there f g h (x ∷ xs) = both_there (f x) (flat_map f xs) (g x) (flat_map g xs) (h x) (all_there f g h xs)

-- ---- what the parts of a function name stands in their occurrences

operand_there : (line : ℕ) (c : Class) (a : Operand) → AreThere (operand_occurrences line c a) (operand_names a)
operand_there line c (operands.Number n) = none_there []
operand_there line c (operands.Global g) = none_there (operand_occurrences line c (operands.Global g))
operand_there line c (operands.Temp x) = one_there (operand_occurrences line c (operands.Temp x)) x (0, c, inr refl)

source_there : (line : ℕ) (c : Class) (s : PhiSource) → AreThere (source_occurrences line c s) (operand_names s.value)
source_there line c s = there_behind (on line (PhiLabel s.label) ∷ []) (operand_occurrences line c s.value) (operand_names s.value) (operand_there line c s.value)

phi_there : {A : Type 0} (b : Name) (phi : Phi A) → AreThere (phi_occurrences b phi) (phi_names phi)
phi_there b phi =
    let ends = on phi.line (PhiOf b phi.sources) ∷ (on phi.line (Defines phi.target.name phi.target.class) ∷ []) in
    turned_there (flat_map (λ s. source_occurrences phi.line phi.target.class s) phi.sources) ends
    (flat_map (λ q. operand_names q.value) phi.sources) (phi.target.name ∷ [])
    (all_there (λ s. source_occurrences phi.line phi.target.class s) (λ q. operand_names q.value) (source_there phi.line phi.target.class) phi.sources)
    (one_there ends phi.target.name (1, phi.target.class, inl refl))

reads_there : (line : ℕ) (rs : List Read) → AreThere (flat_map (read_occurrences line) rs) (flat_map (λ r. operand_names r.operand) rs)
reads_there line rs = all_there (read_occurrences line) (λ r. operand_names r.operand) (λ r. operand_there line r.class r.operand) rs

target_there : (line : ℕ) (to : Option Target) → AreThere (target_occurrences line to) (target_names to)
target_there line None = none_there []
target_there line (Some to) = one_there (target_occurrences line (Some to)) to.name (0, to.class, inl refl)

inst_there : {A : Type 0} (inst : Inst A) → AreThere (inst_occurrences inst) (inst_names inst)
inst_there inst =
    let long = long_occurrences inst.line (inst_long_class inst.kind) in
    let target = target_occurrences inst.line (inst_target inst.kind) in
    let named = target_names (inst_target inst.kind) in
    turned_there (flat_map (read_occurrences inst.line) (inst_reads inst.kind)) (long ++ target)
    (flat_map (λ r. operand_names r.operand) (inst_reads inst.kind)) named
    (reads_there inst.line (inst_reads inst.kind)) (there_behind long target named (target_there inst.line (inst_target inst.kind)))

jump_there : (returns : Option AbiType) (b : Name) (line : ℕ) (j : JumpKind) → AreThere (jump_occurrences returns b line j) (jump_names j)
jump_there returns b line (jumps.Jmp l) = none_there (jump_occurrences returns b line (jumps.Jmp l))
jump_there returns b line (jumps.Jnz a l m) = there_before (operand_occurrences line _ a) _ (operand_names a) (operand_there line _ a)
jump_there returns b line (jumps.Ret None) = none_there []
jump_there returns b line (jumps.Ret (Some a)) = there_before (operand_occurrences line _ a) _ (operand_names a) (operand_there line _ a)
jump_there returns b line jumps.Hlt = none_there []

block_there : {A : Type 0} (returns : Option AbiType) (b : Block A) → AreThere (block_occurrences returns b) (block_names b)
block_there returns b =
    let phis = flat_map (phi_occurrences b.label) b.phis in
    let insts = flat_map inst_occurrences b.insts in
    let jump = jump_occurrences returns b.label b.jump.line b.jump.kind in
    there_behind (on b.line (Label b.label) ∷ []) (phis ++ (insts ++ jump)) (block_names b)
    (both_there phis (insts ++ jump) (flat_map phi_names b.phis) (flat_map inst_names b.insts ++ jump_names b.jump.kind)
    (all_there (phi_occurrences b.label) phi_names (phi_there b.label) b.phis)
    (both_there insts jump (flat_map inst_names b.insts) (jump_names b.jump.kind)
    (all_there inst_occurrences inst_names inst_there b.insts) (jump_there returns b.label b.jump.line b.jump.kind)))

params_there : (line : ℕ) (qs : List Param) → AreThere (map (param_occurrence line) qs) (map (λ q. q.name) qs)
params_there line [] = none_there []
params_there line (q ∷ qs) =
    let here = param_occurrence line q ∷ [] in
    both_there here (map (param_occurrence line) qs) (q.name ∷ []) (map (λ q. q.name) qs) (one_there here q.name (0, class_of q.abi_type, inl refl)) (params_there line qs)

func_there : {A : Type 0} (f : Func A) → AreThere (func_occurrences f) (map (λ q. q.name) f.params ++ flat_map block_names f.blocks)
func_there f =
    let params = map (param_occurrence f.line) f.params in
    let blocks = flat_map (block_occurrences f.returns) f.blocks in
    there_behind (on f.line (FunctionName f.name) ∷ []) (params ++ blocks) (map (λ q. q.name) f.params ++ flat_map block_names f.blocks)
    (both_there params blocks (map (λ q. q.name) f.params) (flat_map block_names f.blocks)
    (params_there f.line f.params) (all_there (block_occurrences f.returns) block_names (block_there f.returns) f.blocks))

pub temps_there : {A : Type 0} (f : Func A) → All (IsTemporary (func_occurrences f)) (temps_named f)
temps_there f = let all = map (λ q. q.name) f.params ++ flat_map block_names f.blocks in once-all (IsTemporary (func_occurrences f)) all (func_there f)

-- by rule C12
pub few_temps : {A : Type 0} (p : Program A) → WellFormed p → (n : ℕ) (f : Func A) → slice_get p.funcs n ≡ Some f → length (temps_named f) ≤ 65535
few_temps p kept n f there = ⊎_elim
    (λ (l : 65535 < length (temps_named f)).
    let t = func_text p.order p.datas p.funcs n f there in
    let all = map (λ q. q.name) f.params ++ flat_map block_names f.blocks in
    absurd (kept C12 (record { text = t.0; occurrence = 0 }) (func_occurrences f, t.1, (f.name, refl, inl (temps_named f, once-differ all, once-all (IsTemporary (func_occurrences f)) all (func_there f), l)))))
    (λ (l : length (temps_named f) ≤ 65535). l)
    (cases_lt 65535 (length (temps_named f)))
