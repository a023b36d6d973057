-- Each phi of a definition's text stands in its block; the block that the next place stands in.
use Rattle.std.proofs.Common.{◌≡◌, ◌∙◌, ◌↔◌, sym, ap, refl, subst, ℕ, zero, suc, ◌+◌, ◌<◌, ◌≤◌, Bool, IsTrue, List, [], ◌∷◌, ◌++◌, Option, Some, None, slice_get, map, drop, get_or, length, arith}
use Rattle.std.specs.List.{flat_map}
use Rattle.std.specs.Str.{bytes_eq}
use Rattle.std.proofs.lemmas.List.{drop_more, drop_all}
use Rattle.qil_tree.specs.declared.ops.Class.{Class}
use Rattle.qil_tree.specs.declared.ops.AbiType.{AbiType}
use Rattle.qil_tree.specs.declared.tree.Operand.{Operand}
use Rattle.qil_tree.specs.declared.tree.Operand.TheVariants as operands
use Rattle.qil_tree.specs.declared.tree.Target.{Target}
use Rattle.qil_tree.specs.declared.tree.PhiSource.{PhiSource}
use Rattle.qil_tree.specs.declared.tree.Phi.{Phi}
use Rattle.qil_tree.specs.declared.tree.Inst.{Inst}
use Rattle.qil_tree.specs.declared.tree.JumpKind.{JumpKind}
use Rattle.qil_tree.specs.declared.tree.JumpKind.TheVariants as jumps
use Rattle.qil_tree.specs.declared.tree.Block.{Block}
use Rattle.qil_tree.specs.declared.tree.Param.{Param}
use Rattle.qil_tree.specs.declared.tree.Func.{Func}
use Rattle.qil_tree.specs.declared.tree.Item.{Item}
use Rattle.qil_tree.specs.declared.tree.Item.TheVariants as items
use Rattle.qil_tree.specs.declared.tree.Field.{Field}
use Rattle.qil_tree.specs.declared.tree.Field.TheVariants as fields
use Rattle.qil_tree.specs.declared.tree.Data.{Data}
use Rattle.qil_checker.specs.declared.lookup.TableKind.TheVariants.{Labels}
use Rattle.qil_rules.specs.Operands.{inst_reads, inst_target, inst_long_class}
use Rattle.qil_rules.specs.declared.occurrence.OccurrenceKind.{OccurrenceKind}
use Rattle.qil_rules.specs.declared.occurrence.OccurrenceKind.TheVariants.{DataName, FunctionName, Label, Edge, PhiLabel, PhiOf, Defines, Uses, Global, Returns, Long}
use Rattle.qil_rules.specs.declared.occurrence.Occurrence.{Occurrence}
use Rattle.qil_rules.specs.Occurrences.{operand_occurrences, read_occurrences, target_occurrences, long_occurrences, source_occurrences, phi_occurrences, inst_occurrences, returned_class, jump_occurrences, block_occurrences, param_occurrence, func_occurrences, item_occurrences, field_occurrences, data_occurrences}
use Rattle.qil_rules.specs.Text.{IsAt, IsFirstLabel}
use Rattle.std.specs.Option.{option_or}
use Rattle.qil_checker.specs.Tables.{named, begun_label, behind, block_from, block_at, AreAtHome, AreAtHand, predecessors_of}
use Rattle.qil_checker.proofs.Texts.Places.{stands_occurrence}
use Rattle.qil_checker.proofs.Texts.Rules.{first_label_test}

-- ---- a text read with the block that it stands in, if any

abbrev Fits : Option (List ℕ) → OccurrenceKind → Type 0
Fits block (PhiOf x sources) = block ≡ Some x
Fits block what = Unit {0}

abbrev IsHome : Option (List ℕ) → List Occurrence → Type 0
IsHome block [] = Unit {0}
IsHome block (m ∷ text) = Fits block m.what × IsHome (behind block m) text

-- what may stand within a block
abbrev IsPart : Option (List ℕ) → OccurrenceKind → Type 0
IsPart block (Label x) = ⊥
IsPart block (PhiOf x sources) = block ≡ Some x
IsPart block what = Unit {0}

abbrev AreParts : Option (List ℕ) → List Occurrence → Type 0
AreParts block [] = Unit {0}
AreParts block (m ∷ text) = IsPart block m.what × AreParts block text

part : (block : Option (List ℕ)) (w : OccurrenceKind) → IsPart block w → Fits block w × (option_or (named w Labels) block ≡ block)
part block (PhiOf x sources) p = (p, refl)
part block (Label x) p = absurd p
part block (DataName x) p = (tt, refl)
part block (FunctionName x) p = (tt, refl)
part block (Edge x y) p = (tt, refl)
part block (PhiLabel x) p = (tt, refl)
part block (Defines x c) p = (tt, refl)
part block (Uses x c) p = (tt, refl)
part block (Global x) p = (tt, refl)
part block (Returns t) p = (tt, refl)
part block (Long c) p = (tt, refl)

parts_then : (block : Option (List ℕ)) (xs rest : List Occurrence) → AreParts block xs → IsHome block rest → IsHome block (xs ++ rest)
parts_then block [] rest all home = home
parts_then block (m ∷ xs) rest all home =
    let p = part block m.what all.0 in
    (p.0, subst (λ b. IsHome b (xs ++ rest)) (sym p.1) (parts_then block xs rest all.1 home))

parts_alone : (block : Option (List ℕ)) (xs : List Occurrence) → AreParts block xs → IsHome block xs
parts_alone block [] all = tt
parts_alone block (m ∷ xs) all =
    let p = part block m.what all.0 in
    (p.0, subst (λ b. IsHome b xs) (sym p.1) (parts_alone block xs all.1))

both : (block : Option (List ℕ)) (xs ys : List Occurrence) → AreParts block xs → AreParts block ys → AreParts block (xs ++ ys)
both block [] ys all more = more
both block (m ∷ xs) ys all more = (all.0, both block xs ys all.1 more)

parts_each : {X : Type 0} (block : Option (List ℕ)) (f : X → List Occurrence) → ((x : X) → AreParts block (f x)) → (xs : List X) → AreParts block (flat_map f xs)
parts_each block f each [] = tt
parts_each block f each (x ∷ xs) = both block (f x) (flat_map f xs) (each x) (parts_each block f each xs)

-- ---- the parts of a block

operand_parts : (block : Option (List ℕ)) (line : ℕ) (c : Class) (a : Operand) → AreParts block (operand_occurrences line c a)
operand_parts block line c (operands.Number n) = tt
operand_parts block line c (operands.Global g) = (tt, tt)
operand_parts block line c (operands.Temp x) = (tt, tt)

target_parts : (block : Option (List ℕ)) (line : ℕ) (to : Option Target) → AreParts block (target_occurrences line to)
target_parts block line None = tt
target_parts block line (Some to) = (tt, tt)

long_parts : (block : Option (List ℕ)) (line : ℕ) (c : Option Class) → AreParts block (long_occurrences line c)
long_parts block line None = tt
long_parts block line (Some c) = (tt, tt)

phi_parts : {A : Type 0} (label : List ℕ) (phi : Phi A) → AreParts (Some label) (phi_occurrences label phi)
phi_parts label phi =
    both (Some label) (flat_map (λ s. source_occurrences phi.line phi.target.class s) phi.sources) _
    (parts_each (Some label) (λ s. source_occurrences phi.line phi.target.class s) (λ s. (tt, operand_parts (Some label) phi.line phi.target.class s.value)) phi.sources)
    (refl, (tt, tt))

inst_parts : {A : Type 0} (block : Option (List ℕ)) (inst : Inst A) → AreParts block (inst_occurrences inst)
inst_parts block inst =
    both block (flat_map (read_occurrences inst.line) (inst_reads inst.kind)) _
    (parts_each block (read_occurrences inst.line) (λ r. operand_parts block inst.line r.class r.operand) (inst_reads inst.kind))
    (both block (long_occurrences inst.line (inst_long_class inst.kind)) _ (long_parts block inst.line (inst_long_class inst.kind)) (target_parts block inst.line (inst_target inst.kind)))

jump_parts : (block : Option (List ℕ)) (returns : Option AbiType) (label : List ℕ) (line : ℕ) (kind : JumpKind) → AreParts block (jump_occurrences returns label line kind)
jump_parts block returns label line (jumps.Jmp l) = (tt, tt)
jump_parts block returns label line (jumps.Jnz a l m) = both block (operand_occurrences line _ a) _ (operand_parts block line _ a) (tt, (tt, tt))
jump_parts block returns label line (jumps.Ret None) = tt
jump_parts block returns label line (jumps.Ret (Some a)) = both block (operand_occurrences line (returned_class returns) a) _ (operand_parts block line (returned_class returns) a) (tt, tt)
jump_parts block returns label line jumps.Hlt = tt

blocks_home : {A : Type 0} (block : Option (List ℕ)) (returns : Option AbiType) (bs : List (Block A)) → IsHome block (flat_map (block_occurrences returns) bs)
blocks_home block returns [] = tt
blocks_home block returns (b ∷ bs) =
    let at = Some b.label in (
      tt,
      parts_then at _ (flat_map (block_occurrences returns) bs)
          (both at (flat_map (phi_occurrences b.label) b.phis) _ (parts_each at (phi_occurrences b.label) (λ phi. phi_parts b.label phi) b.phis)
          (both at (flat_map inst_occurrences b.insts) _ (parts_each at inst_occurrences (λ inst. inst_parts at inst) b.insts) (jump_parts at returns b.label b.jump.line b.jump.kind)))
          (blocks_home at returns bs),
    )

-- ---- the texts of functions and data

param_parts : (block : Option (List ℕ)) (line : ℕ) (ps : List Param) → AreParts block (map (param_occurrence line) ps)
param_parts block line [] = tt
param_parts block line (p ∷ ps) = (tt, param_parts block line ps)

func_home : {A : Type 0} (f : Func A) → IsHome None (func_occurrences f)
func_home f = (tt, parts_then None (map (param_occurrence f.line) f.params) _ (param_parts None f.line f.params) (blocks_home None f.returns f.blocks))

item_parts : {A : Type 0} (block : Option (List ℕ)) (line : ℕ) (item : Item A) → AreParts block (item_occurrences line item)
item_parts block line (items.Number n) = tt
item_parts block line (items.Text bytes) = tt
item_parts block line (items.Address g n) = (tt, tt)

field_parts : {A : Type 0} (block : Option (List ℕ)) (line : ℕ) (field : Field A) → AreParts block (field_occurrences line field)
field_parts block line (fields.Values width values) = parts_each block (item_occurrences line) (λ item. item_parts block line item) values
field_parts block line (fields.Zeros n) = tt

data_home : {A : Type 0} (d : Data A) → IsHome None (data_occurrences d)
data_home d = (tt, parts_alone None (flat_map (field_occurrences d.line) d.fields) (parts_each None (field_occurrences d.line) (λ field. field_parts None d.line field) d.fields))

-- ---- where a phi stands

fits_phi : (block : Option (List ℕ)) (w : OccurrenceKind) (x : List ℕ) (sources : List PhiSource) → w ≡ PhiOf x sources → Fits block w → block ≡ Some x
fits_phi block w x sources e fits = subst (λ v. Fits block v) e fits

home_at : (block : Option (List ℕ)) (text : List Occurrence) → IsHome block text → (k : ℕ) (x : List ℕ) (sources : List PhiSource) → IsAt text k (PhiOf x sources)
    → block_from block text k ≡ Some x
home_at block [] home k x sources s = absurd cc
home_at block (m ∷ text) home zero x sources s =
    let is : m.what ≡ PhiOf x sources = cc in
    fits_phi block m.what x sources is home.0
home_at block (m ∷ text) home (suc k) x sources s = home_at (behind block m) text home.1 k x sources s

pub func_at_home : {A : Type 0} (f : Func A) (text : List Occurrence) → text ≡ func_occurrences f → AreAtHome text
func_at_home f text e = subst AreAtHome (sym e) (home_at None (func_occurrences f) (func_home f))

pub data_at_home : {A : Type 0} (d : Data A) (text : List Occurrence) → text ≡ data_occurrences d → AreAtHome text
data_at_home d text e = subst AreAtHome (sym e) (home_at None (data_occurrences d) (data_home d))

-- ---- the block that the next place stands in

next_block : (block : Option (List ℕ)) (text : List Occurrence) (k : ℕ) (m : Occurrence) → slice_get text k ≡ Some m → block_from block text (suc k) ≡ option_or (named m.what Labels) (block_from block text k)
next_block block [] k m e = absurd cc
next_block block (n ∷ text) zero m e = let same : n ≡ m = cc in ap (λ a. option_or (named a.what Labels) block) same
next_block block (n ∷ text) (suc k) m e = next_block (behind block n) text k m e

block_behind : (text : List Occurrence) (k : ℕ) (m : Occurrence) (w : OccurrenceKind) → slice_get text k ≡ Some m → m.what ≡ w → block_at text (k + 1) ≡ option_or (named w Labels) (block_at text k)
block_behind text k m w there is =
    let next : k + 1 ≡ suc k = omega arith in
    ap (block_at text) next ∙ next_block None text k m there ∙ ap (λ v. option_or (named v Labels) (block_at text k)) is

pub at_label : (text : List Occurrence) (k : ℕ) (m : Occurrence) (y : List ℕ) (labels : List (List ℕ)) → slice_get text k ≡ Some m → m.what ≡ Label y → labels ≡ predecessors_of y text
    → AreAtHand text (k + 1) labels
at_label text k m y labels there is e x w =
    let here : Some y ≡ Some x = sym (block_behind text k m (Label y) there is) ∙ w in
    let same : y ≡ x = cc in
    e ∙ ap (λ z. predecessors_of z text) same

no_name : (w : OccurrenceKind) → ((y : List ℕ) → w ≡ Label y → ⊥) → named w Labels ≡ None
no_name (Label y) n = absurd (n y refl)
no_name (DataName y) n = refl
no_name (FunctionName y) n = refl
no_name (Edge y z) n = refl
no_name (PhiLabel y) n = refl
no_name (PhiOf y z) n = refl
no_name (Defines y c) n = refl
no_name (Uses y c) n = refl
no_name (Global y) n = refl
no_name (Returns t) n = refl
no_name (Long c) n = refl

pub still_at_hand : (text : List Occurrence) (k : ℕ) (m : Occurrence) (labels : List (List ℕ)) → slice_get text k ≡ Some m → ((y : List ℕ) → m.what ≡ Label y → ⊥) → AreAtHand text k labels
    → AreAtHand text (k + 1) labels
still_at_hand text k m labels there no_label at_hand x w =
    at_hand x (sym (block_behind text k m m.what there refl ∙ ap (λ o. option_or o (block_at text k)) (no_name m.what no_label)) ∙ w)

-- ---- the first label

label_named : (w : OccurrenceKind) (x : List ℕ) → named w Labels ≡ Some x → w ≡ Label x
label_named (Label y) x e = let same : y ≡ x = cc in ap Label same
label_named (DataName y) x e = absurd cc
label_named (FunctionName y) x e = absurd cc
label_named (Edge y z) x e = absurd cc
label_named (PhiLabel y) x e = absurd cc
label_named (PhiOf y z) x e = absurd cc
label_named (Defines y c) x e = absurd cc
label_named (Uses y c) x e = absurd cc
label_named (Global y) x e = absurd cc
label_named (Returns t) x e = absurd cc
label_named (Long c) x e = absurd cc

none_prefix : (m : Occurrence) (text : List Occurrence) (k : ℕ) → named m.what Labels ≡ None → ((i : ℕ) (z : List ℕ) → i < k → IsAt text i (Label z) → ⊥)
    → (i : ℕ) (z : List ℕ) → i < suc k → IsAt (m ∷ text) i (Label z) → ⊥
none_prefix m text k name none zero z l s =
    let is : m.what ≡ Label z = cc in
    let same : None ≡ Some z = sym name ∙ ap (λ v. named v Labels) is in
    cc
none_prefix m text k name none (suc i) z l s = none i z (omega (arith, l)) s

first_behind : (m : Occurrence) (text : List Occurrence) (name : Option (List ℕ)) (x : List ℕ) → named m.what Labels ≡ name → option_or name (begun_label text) ≡ Some x
    → (begun_label text ≡ Some x → IsFirstLabel text x) → IsFirstLabel (m ∷ text) x
first_behind m text (Some y) x name e later =
    let is : m.what ≡ Label y = label_named m.what y name in
    let same : y ≡ x = cc in
    (zero, ap Some (is ∙ ap Label same), λ i z l. absurd (omega (arith, l)))
first_behind m text None x name e later = let f = later e in (suc f.0, f.1, none_prefix m text f.0 name f.2)

begun_first : (text : List Occurrence) (x : List ℕ) → begun_label text ≡ Some x → IsFirstLabel text x
begun_first [] x e = absurd cc
begun_first (m ∷ text) x e = first_behind m text (named m.what Labels) x refl e (begun_first text x)

none_behind : (m : Occurrence) (text : List Occurrence) (name : Option (List ℕ)) → named m.what Labels ≡ name → option_or name (begun_label text) ≡ None
    → (begun_label text ≡ None → (j : ℕ) (x : List ℕ) → IsAt text j (Label x) → ⊥) → (j : ℕ) (x : List ℕ) → IsAt (m ∷ text) j (Label x) → ⊥
none_behind m text (Some y) name e later j x s = absurd cc
none_behind m text None name e later zero x s =
    let is : m.what ≡ Label x = cc in
    let same : None ≡ Some x = sym name ∙ ap (λ v. named v Labels) is in
    cc
none_behind m text None name e later (suc j) x s = later e j x s

none_begun : (text : List Occurrence) → begun_label text ≡ None → (j : ℕ) (x : List ℕ) → IsAt text j (Label x) → ⊥
none_begun [] e j x s = absurd cc
none_begun (m ∷ text) e j x s = none_behind m text (named m.what Labels) refl e (none_begun text) j x s

pub begun_nowhere : (text : List Occurrence) → begun_label text ≡ None → (x : List ℕ) → IsFirstLabel text x → ⊥
begun_nowhere text e x f = none_begun text e f.0 x f.1

pub begun_test : (text : List Occurrence) (x y a b : List ℕ) (r : Bool) → r ≡ bytes_eq a b → a ≡ y → b ≡ x → begun_label text ≡ Some y → IsTrue r ↔ IsFirstLabel text x
begun_test text x y a b r e left right begun =
    let f = begun_first text y begun in
    let m = stands_occurrence text f.0 (Label y) f.1 in
    first_label_test text x y a b r f.0 m.0 e left right m.1 m.2 f.2

-- ---- the loop that looks for it

pub begun_at : (text : List Occurrence) (i : ℕ) (m : Occurrence) (y : List ℕ) → i < length text → m ≡ get_or text i m → m.what ≡ Label y → begun_label (drop i text) ≡ begun_label text
    → begun_label text ≡ Some y
begun_at text i m y l there is so_far =
    sym so_far ∙ ap begun_label (drop_more text i m l) ∙ ap (λ n. option_or (named n.what Labels) (begun_label (drop (i + 1) text))) (sym there)
    ∙ ap (λ w. option_or (named w Labels) (begun_label (drop (i + 1) text))) is

pub begun_behind : (text : List Occurrence) (i : ℕ) (m : Occurrence) → i < length text → m ≡ get_or text i m → ((y : List ℕ) → m.what ≡ Label y → ⊥)
    → begun_label (drop i text) ≡ begun_label text → begun_label (drop (i + 1) text) ≡ begun_label text
begun_behind text i m l there no_label so_far =
    sym (ap begun_label (drop_more text i m l) ∙ ap (λ n. option_or (named n.what Labels) (begun_label (drop (i + 1) text))) (sym there)
    ∙ ap (λ o. option_or o (begun_label (drop (i + 1) text))) (no_name m.what no_label)) ∙ so_far

pub begun_none : (text : List Occurrence) (i : ℕ) → length text ≤ i → begun_label (drop i text) ≡ begun_label text → begun_label text ≡ None
begun_none text i l so_far = sym so_far ∙ ap begun_label (drop_all i text l)
