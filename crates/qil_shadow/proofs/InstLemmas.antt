-- An instruction by its number reads what the one of the tree reads, and the shadow with a temporary set is by names as the definition has it.
use Rattle.std.proofs.Common.{◌≡◌, ◌∙◌, sym, ap, subst, ℕ, List, [], ◌∷◌, ◌++◌, map, get_or, Option, Some, None, option_map, unwrap_or}
use Rattle.std.specs.Prelude.{slice_get}
use Rattle.std.proofs.lemmas.List.{append-nil}
use Rattle.qil_tree.specs.declared.ops.Class.{Class}
use Rattle.qil_tree.specs.declared.tree.Target.{Target}
use Rattle.qil_tree.specs.declared.tree.Operand.{Operand}
use Rattle.qil_tree.specs.declared.tree.Expr.{Expr}
use Rattle.qil_tree.specs.declared.tree.Inst.{Inst}
use Rattle.qil_tree.specs.declared.tree.InstKind.{InstKind}
use Rattle.qil_tree.specs.declared.tree.InstKind.TheVariants as insts
use Rattle.qil_tree.specs.declared.tree.Block.{Block}
use Rattle.qil_tree.specs.declared.tree.Program.{Program}
use Rattle.qil_memory.specs.qil_rules.Text.{IsAmong}
use Rattle.qil_semantics.specs.State.{Name, Frame, State}
use Rattle.qil_semantics.specs.Values.{first, second}
use Rattle.qil_code.specs.declared.numbered.Slot.{Slot}
use Rattle.qil_code.specs.declared.numbered.NumberedOperand.{NumberedOperand}
use Rattle.qil_code.specs.declared.numbered.NumberedExpr.{NumberedExpr}
use Rattle.qil_code.specs.declared.numbered.NumberedInst.{NumberedInst}
use Rattle.qil_code.specs.declared.numbered.NumberedInst.TheVariants as numbered
use Rattle.qil_code.specs.Numbered.{block_at, inst_in, names_of, operand_of, expr_of, slot_in}
use Rattle.qil_code.specs.Slots.{number_in}
use Rattle.qil_code.proofs.Has.{Has, has-among}
use Rattle.qil_shadow.specs.declared.origin.Origin.{Origin}
use Rattle.qil_shadow.specs.declared.constants.Reading.{Reading}
use Rattle.qil_shadow.specs.declared.suspicion.Place.{Place}
use Rattle.qil_shadow.specs.declared.suspicion.Suspicion.{Suspicion}
use Rattle.qil_shadow.specs.declared.shadow.Shadow.{Shadow}
use Rattle.qil_shadow.specs.Shadow as by_names
use Rattle.qil_shadow.specs.Shadow.{Origins, with_origin}
use Rattle.qil_shadow.specs.Shadowed.{sets}
use Rattle.qil_shadow.specs.Accesses.{Access}
use Rattle.qil_shadow.specs.Suspicions as suspicions
use Rattle.qil_shadow.specs.Spots.{origins_in}
use Rattle.qil_shadow.specs.Stack.{CallShadow, callers_of, with_held}
use Rattle.qil_shadow.specs.Calls.{LiveCalls, with_set}
use Rattle.qil_shadow.specs.Numbered.{object_named, frames_by, shadow_by}
use Rattle.qil_shadow.specs.Doubts.{suspicion_named, Reports}
use Rattle.qil_shadow.specs.Reads.{operand_in, operand_by, operand_there, IsKnown, IsRead, innermost, HasSlots}
use Rattle.qil_shadow.specs.Kept.{Keeps, KeepsAll}
use Rattle.qil_shadow.specs.Instructions.{named, IsInst, ReportsAll}
use Rattle.qil_shadow.proofs.ByNameLemmas.{slot_set}
use Rattle.qil_shadow.proofs.ParamLemmas.{has_slot}

-- ---- what is read

pub some_is : {X : Type 0} (x y : X) → Some x ≡ Some y → x ≡ y
some_is x y e = ap (λ o. unwrap_or o x) e

read_by : {A : Type 0} (b : Block A) (o : Option (Inst A)) (r : Reading) (kind : InstKind A) → option_map (λ i. i.kind) o ≡ Some kind → operand_by b o r ≡ operand_in kind r
read_by b None r kind e = absurd cc
read_by {A} b (Some i) r kind e = ap (λ (k : InstKind A). operand_in k r) (some_is i.kind kind e)

read_in : {A : Type 0} (o : Option (Block A)) (k : ℕ) (r : Reading) (kind : InstKind A) → option_map (λ i. i.kind) (inst_in o k) ≡ Some kind → operand_there o k r ≡ operand_in kind r
read_in None k r kind e = absurd cc
read_in (Some b) k r kind e = read_by b (slice_get b.insts k) r kind e

pub inst_read : {A : Type 0} (p : Program A) (place : Place) (slots : List (Option ℕ)) (inst : NumberedInst A) (kind : InstKind A) (vs : List ℕ) (r : Reading) (a : Operand) (operand : NumberedOperand)
    → IsInst p place slots inst kind vs → operand_in kind r ≡ Some a → operand ≡ operand_of p (names_of p place.func.index) a → IsKnown p (names_of p place.func.index) a → IsRead p place r a operand
inst_read p place slots inst kind vs r a operand is there number known = record {
  here = read_in (block_at p place.func.index place.block.index) place.index r kind is.here ∙ there;
  is_for = record { number = number; known = known };
}

-- ---- parts of an assignment

abbrev class_of_inst : {A : Type 0} → Class → NumberedInst A → Class
class_of_inst c (numbered.Assign d s e) = d
class_of_inst c i = c

abbrev slot_of_inst : {A : Type 0} → Slot → NumberedInst A → Slot
slot_of_inst s (numbered.Assign d t e) = t
slot_of_inst s i = s

abbrev expr_of_inst : {A : Type 0} → NumberedExpr → NumberedInst A → NumberedExpr
expr_of_inst e (numbered.Assign d s f) = f
expr_of_inst e i = e

pub assigned_class : {A : Type 0} (p : Program A) (place : Place) (slots : List (Option ℕ)) (class : Class) (to : Slot) (expr : NumberedExpr) (x : Target) (e : Expr) (vs : List ℕ)
    → IsInst p place slots (numbered.Assign class to expr) (insts.Assign x e) vs → class ≡ x.class
assigned_class {A} p place slots class to expr x e vs is = ap (λ (i : NumberedInst A). class_of_inst class i) is.number

pub assigned_slot : {A : Type 0} (p : Program A) (place : Place) (slots : List (Option ℕ)) (class : Class) (to : Slot) (expr : NumberedExpr) (x : Target) (e : Expr) (vs : List ℕ)
    → IsInst p place slots (numbered.Assign class to expr) (insts.Assign x e) vs → to ≡ slot_in (names_of p place.func.index) x.name
assigned_slot {A} p place slots class to expr x e vs is = ap (λ (i : NumberedInst A). slot_of_inst to i) is.number

pub assigned_expr : {A : Type 0} (p : Program A) (place : Place) (slots : List (Option ℕ)) (class : Class) (to : Slot) (expr : NumberedExpr) (x : Target) (e : Expr) (vs : List ℕ)
    → IsInst p place slots (numbered.Assign class to expr) (insts.Assign x e) vs → expr ≡ expr_of p (names_of p place.func.index) e
assigned_expr {A} p place slots class to expr x e vs is = ap (λ (i : NumberedInst A). expr_of_inst expr i) is.number

-- ---- a temporary is set

pub set_frames : {A : Type 0} (p : Program A) (i : ℕ) (fs : List ℕ) (cs : List CallShadow) (s : Slot) (x : Name) (m : Origin) → HasSlots p i cs → Has (names_of p i) x → s ≡ slot_in (names_of p i) x
    → frames_by p (i ∷ fs) (with_held s m cs) ≡ with_origin (innermost p i cs) x m ∷ frames_by p fs (callers_of cs)
set_frames p i fs [] s x m slots has is = absurd slots
set_frames p i fs (c ∷ cs) s x m slots has is =
    let number : number_in (names_of p i) x ≡ s.index = ap (λ (t : Slot). t.index) (sym is) in
    ap (λ (t : Origins). t ∷ frames_by p fs cs) (slot_set (names_of p i) c.origins x s.index m slots (has_slot (names_of p i) x has ∙ ap (λ k. Some k) number))

-- after a part that leaves calls and memory as they were, and before one that leaves all
pub set_named : {A : Type 0} (p : Program A) (i : ℕ) (fs : List ℕ) (was mid now : Shadow A) (s : Slot) (x : Name) (m : Origin) → Keeps was mid → KeepsAll (record mid { calls = with_set mid.calls s m }) now
    → HasSlots p i was.calls.calls → IsAmong x (names_of p i) → s ≡ slot_in (names_of p i) x
    → named p (i ∷ fs) now ≡ sets (named p (i ∷ fs) was) (innermost p i was.calls.calls) (frames_by p fs (callers_of was.calls.calls)) x m
set_named {A} p i fs was mid now s x m k l slots among is =
    let calls : now.calls ≡ with_set was.calls s m = l.rest.calls_are ∙ ap (λ (c : LiveCalls). with_set c s m) k.calls_are in
    let memory : now.memory ≡ was.memory = l.rest.memory_is ∙ k.memory_is in
    let position : now.position ≡ was.position = l.rest.position_is ∙ k.position_is in
    let frames = set_frames p i fs was.calls.calls s x m slots (has-among (names_of p i) x among.0 among.1) is in
    (λ j. shadow_by p (i ∷ fs) (calls j).calls (memory j) (calls j).objects.objects (position j))
    ∙ (λ j. record { frames = frames j; bytes = origins_in was.memory; objects = map (object_named p) was.calls.objects.objects; position = was.position })

-- ---- what is reported

pub reports_one : {A : Type 0} (p : Program A) (s : State) (sh : by_names.Shadow) (f : Frame) (a : Access) (was now : List Suspicion) → Reports p s sh f a was now → ReportsAll p s sh f (a ∷ []) was now
reports_one p s sh f a was now noted =
    noted ∙ ap (λ xs. map (suspicion_named p) was ++ xs) (sym (append-nil (suspicions.suspicion p s sh f a (suspicions.doubted sh.objects a a.origin))))

pub reports_none : {A : Type 0} (p : Program A) (s : State) (sh : by_names.Shadow) (f : Frame) (xs : List Access) (was now : List Suspicion) → xs ≡ [] → now ≡ was → ReportsAll p s sh f xs was now
reports_none p s sh f xs was now none same =
    subst (λ xs. ReportsAll p s sh f xs was now) (sym none) (ap (map (suspicion_named p)) same ∙ sym (append-nil (map (suspicion_named p) was)))
