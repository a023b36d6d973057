-- What an assignment does, by what its expression gives.
use Rattle.std.proofs.Common.{◌≡◌, ◌∙◌, sym, ap, subst, refl, ℕ, List, ◌∷◌, length, Option}
use Rattle.qil_tree.specs.declared.ops.Class.{Class}
use Rattle.qil_tree.specs.declared.tree.Target.{Target}
use Rattle.qil_tree.specs.declared.tree.Expr.{Expr}
use Rattle.qil_tree.specs.declared.tree.InstKind.{InstKind}
use Rattle.qil_tree.specs.declared.tree.InstKind.TheVariants as insts
use Rattle.qil_tree.specs.declared.tree.Program.{Program}
use Rattle.qil_semantics.specs.State.{Frame, State}
use Rattle.qil_code.specs.declared.numbered.Slot.{Slot}
use Rattle.qil_code.specs.declared.numbered.NumberedExpr.{NumberedExpr}
use Rattle.qil_code.specs.declared.numbered.NumberedInst.TheVariants as numbered
use Rattle.qil_shadow.specs.declared.origin.Origin.{Origin}
use Rattle.qil_shadow.specs.declared.suspicion.Place.{Place}
use Rattle.qil_shadow.specs.declared.suspicion.Suspicion.{Suspicion}
use Rattle.qil_shadow.specs.declared.shadow.Shadow.{Shadow}
use Rattle.qil_shadow.specs.Shadowed.{sets, expr_origin}
use Rattle.qil_shadow.specs.Accesses.{inst_accesses, expr_accesses}
use Rattle.qil_shadow.specs.Spots.{origins_in}
use Rattle.qil_shadow.specs.Stack.{callers_of}
use Rattle.qil_shadow.specs.Calls.{LiveCalls, with_set}
use Rattle.qil_shadow.specs.Numbered.{frames_by}
use Rattle.qil_shadow.specs.Reads.{innermost}
use Rattle.qil_shadow.specs.Kept.{Keeps, KeepsAll}
use Rattle.qil_shadow.specs.Instructions.{named, IsAt, IsInst, ExprIsSound, IsSound, ReportsAll, KeepsButSlot, ShadowIs, HasGiven, HasDone}
use Rattle.qil_shadow.proofs.InstLemmas.{set_named, assigned_class, assigned_slot}

-- ---- which instruction it is

-- of an instruction by number that assigns it is one of the tree that does
pub is_assign : {A : Type 0} (p : Program A) (place : Place) (slots : List (Option ℕ)) (class : Class) (to : Slot) (expr : NumberedExpr) (kind : InstKind A) (vs : List ℕ)
    → IsInst p place slots (numbered.Assign class to expr) kind vs → (x : Target) × (e : Expr) × (kind ≡ insts.Assign x e)
is_assign p place slots class to expr (insts.Assign x e) vs is = (x, e, refl)
is_assign p place slots class to expr (insts.Alloc x op n) vs is = absurd (let e = is.number in cc)
is_assign p place slots class to expr (insts.Store w a b) vs is = absurd (let e = is.number in cc)
is_assign p place slots class to expr (insts.Blit a b n) vs is = absurd (let e = is.number in cc)
is_assign p place slots class to expr (insts.Call x callee args) vs is = absurd (let e = is.number in cc)

-- ---- what it does

assigned_here : {A : Type 0} (p : Program A) (place : Place) (slots : List (Option ℕ)) (class : Class) (to : Slot) (expr : NumberedExpr) (was mid now : Shadow A) (o : Origin) (x : Target) (e : Expr) (vs : List ℕ) (s : State) (f : Frame) (fs : List ℕ)
    → HasGiven p place slots class expr was mid o → KeepsAll (record mid { calls = with_set mid.calls to o }) now
    → IsInst p place slots (numbered.Assign class to expr) (insts.Assign x e) vs → IsAt p place was → ExprIsSound e vs
    → ShadowIs p place was now s f fs (insts.Assign x e) vs
assigned_here {A} p place slots class to expr was mid now o x e vs s f fs given keeps is at sound =
    let t = innermost p place.func.index was.calls.calls in
    let ts = frames_by p fs (callers_of was.calls.calls) in
    let value : o ≡ expr_origin p t (origins_in was.memory) x.class e vs =
    given.origin_is to x e vs is at sound ∙ ap (λ c. expr_origin p t (origins_in was.memory) c e vs) (assigned_class p place slots class to expr x e vs is) in
    set_named p place.func.index fs was mid now to x.name o given.rest keeps at.slots is.target (assigned_slot p place slots class to expr x e vs is)
    ∙ ap (sets (named p (place.func.index ∷ fs) was) t ts x.name) value

assigned_done : {A : Type 0} (p : Program A) (place : Place) (slots : List (Option ℕ)) (class : Class) (to : Slot) (expr : NumberedExpr) (was mid now : Shadow A) (o : Origin)
    → HasGiven p place slots class expr was mid o → KeepsAll (record mid { calls = with_set mid.calls to o }) now → HasDone p place slots (numbered.Assign class to expr) was now
assigned_done {A} p place slots class to expr was mid now o given keeps = record {
  shadow_is = λ kind vs s f fs is at calls stands sound.
      let k = is_assign p place slots class to expr kind vs is in
      let same : kind ≡ insts.Assign k.0 k.1 = k.2 in
      subst (λ (i : InstKind A). ShadowIs p place was now s f fs i vs) (sym same)
      (assigned_here p place slots class to expr was mid now o k.0 k.1 vs s f fs given keeps (subst (λ (i : InstKind A). IsInst p place slots (numbered.Assign class to expr) i vs) same is) at
      (subst (λ (i : InstKind A). IsSound p s (length was.calls.calls) i vs) same sound));
  found_is = λ kind vs s sh f is at stands.
      let k = is_assign p place slots class to expr kind vs is in
      let same : kind ≡ insts.Assign k.0 k.1 = k.2 in
      subst (λ (i : InstKind A). ReportsAll p s sh f (inst_accesses p s (innermost p place.func.index was.calls.calls) i vs) was.found.items now.found.items) (sym same)
      (subst (λ (q : List Suspicion). ReportsAll p s sh f (expr_accesses p (innermost p place.func.index was.calls.calls) k.1 vs) was.found.items q) (sym keeps.found_is)
      (given.found_is to k.0 k.1 vs s sh f (subst (λ (i : InstKind A). IsInst p place slots (numbered.Assign class to expr) i vs) same is) at stands));
}

assigned_rest : {A : Type 0} (to : Slot) (was mid now : Shadow A) (o : Origin) → Keeps was mid → KeepsAll (record mid { calls = with_set mid.calls to o }) now → KeepsButSlot to was now
assigned_rest to was mid now o k l = record {
  calls_are = (o, l.rest.calls_are ∙ ap (λ (c : LiveCalls). with_set c to o) k.calls_are);
  memory_is = l.rest.memory_is ∙ k.memory_is;
  names_are = l.rest.names_are ∙ k.names_are;
  end_is = l.rest.end_is ∙ k.end_is;
  position_is = l.rest.position_is ∙ k.position_is;
  roles_are = l.rest.roles_are ∙ k.roles_are;
}

-- ---- as the code has it

pub assign_done : {A : Type 0} (p : Program A) (place : Place) (slots : List (Option ℕ)) (class : Class) (to : Slot) (expr : NumberedExpr) (was mid now : Shadow A) (o : Origin) (calls : LiveCalls)
    → HasGiven p place slots class expr was mid o → calls ≡ with_set mid.calls to o → KeepsAll (record mid { calls = calls }) now → HasDone p place slots (numbered.Assign class to expr) was now
assign_done {A} p place slots class to expr was mid now o calls given set keeps =
    assigned_done p place slots class to expr was mid now o given (subst (λ (c : LiveCalls). KeepsAll (record mid { calls = c }) now) set keeps)

pub assign_rest : {A : Type 0} (to : Slot) (was mid now : Shadow A) (o : Origin) (calls : LiveCalls) → Keeps was mid → calls ≡ with_set mid.calls to o → KeepsAll (record mid { calls = calls }) now → KeepsButSlot to was now
assign_rest {A} to was mid now o calls k set keeps = assigned_rest to was mid now o k (subst (λ (c : LiveCalls). KeepsAll (record mid { calls = c }) now) set keeps)
