-- How calls lie behind an instruction, and that nothing was found where an operand is unset.
use Rattle.std.proofs.Common.{◌≡◌, ◌∙◌, sym, ap, subst, refl, ℕ, zero, suc, ◌+◌, ◌^◌, ◌<◌, ◌≤◌, List, [], ◌∷◌, length, map, Option, Some, None, option_map}
use Rattle.std.specs.Prelude.{true, false, replicate, slice_get, is_none}
use Rattle.std.proofs.lemmas.Bool.{true≢false}
use Rattle.std.proofs.lemmas.List.{length-set, length-replicate}
use Rattle.qil_tree.specs.declared.ops.AllocOp.{AllocOp}
use Rattle.qil_tree.specs.declared.ops.Class.{Class}
use Rattle.qil_tree.specs.declared.ops.Width.{Width}
use Rattle.qil_tree.specs.declared.tree.CallResult.{CallResult}
use Rattle.qil_tree.specs.declared.tree.InstKind.{InstKind}
use Rattle.qil_tree.specs.declared.tree.InstKind.TheVariants as insts
use Rattle.qil_tree.specs.declared.tree.Program.{Program}
use Rattle.qil_memory.specs.qil_layout.declared.callee.Callee.{Callee}
use Rattle.qil_memory.specs.qil_layout.declared.callee.Callee.TheVariants.{Defined, PutChar, Puts, Exit}
use Rattle.qil_memory.specs.qil_layout.declared.callee.FuncId.{FuncId}
use Rattle.qil_memory.specs.qil_layout.Callee.{callee_at}
use Rattle.qil_memory.specs.qil_layout.Layout.{rounded}
use Rattle.qil_memory.specs.Buffers.{stack_base, stack_end}
use Rattle.qil_semantics.specs.State.{State}
use Rattle.qil_semantics.specs.Values.{first}
use Rattle.qil_semantics.specs.Step.{alignment}
use Rattle.qil_code.specs.declared.numbered.Slot.{Slot}
use Rattle.qil_code.specs.declared.numbered.Receiver.{Receiver}
use Rattle.qil_code.specs.declared.numbered.NumberedOperand.{NumberedOperand}
use Rattle.qil_code.specs.declared.numbered.NumberedArgument.{NumberedArgument}
use Rattle.qil_code.specs.declared.numbered.NumberedExpr.{NumberedExpr}
use Rattle.qil_code.specs.declared.numbered.NumberedInst.{NumberedInst}
use Rattle.qil_code.specs.declared.numbered.NumberedInst.TheVariants as numbered
use Rattle.qil_code.specs.Numbered.{names_of, receiver_of}
use Rattle.qil_shadow.specs.declared.origin.Origin.{Origin}
use Rattle.qil_shadow.specs.declared.origin.Origin.TheVariants as origins
use Rattle.qil_shadow.specs.declared.suspicion.Place.{Place}
use Rattle.qil_shadow.specs.declared.suspicion.Suspicion.{Suspicion}
use Rattle.qil_shadow.specs.declared.object.Object.{Object}
use Rattle.qil_shadow.specs.declared.shadow.Shadow.{Shadow}
use Rattle.qil_shadow.specs.Stack.{CallShadow, with_held, callers_of, returned_of}
use Rattle.qil_shadow.specs.Calls.{LiveCalls, with_set, with_made, taken}
use Rattle.qil_shadow.specs.Numbered.{value_in}
use Rattle.qil_shadow.specs.Reads.{HasSlots}
use Rattle.qil_shadow.specs.Kept.{Keeps, KeepsAll, KeepsButCalls, KeepsButMemory, KeepsRest}
use Rattle.qil_shadow.specs.Entering.{origins_of, IsEntered}
use Rattle.qil_shadow.specs.Instructions.{IsAt, IsInst, IsSound, RoomIsSound, KeepsButSlot}
use Rattle.qil_shadow.specs.Shapes.{CallShape, shapes_of, first_shape, with_called, shapes_behind, top_behind, LiesBehind, IsUnset, expr_operands, operands_of, KeepsOwn, HasLeft}
use Rattle.qil_shadow.proofs.ValueLemmas.{none_held, same_held}
use Rattle.qil_shadow.proofs.AllocLemmas.{IsAlloc, is_alloc, made_at}
use Rattle.qil_shadow.proofs.AssignLemmas.{is_assign}
use Rattle.qil_shadow.proofs.BlitLemmas.{IsBlit, is_blit}
use Rattle.qil_shadow.proofs.StoreInstLemmas.{IsStore, is_store}
use Rattle.qil_shadow.proofs.CallInstLemmas.{IsCall, is_call, sound_call, IsBuiltIn}

-- ---- temporaries change no shape

pub shapes_held : (s : Slot) (m : Origin) (cs : List CallShadow) → shapes_of (with_held s m cs) ≡ shapes_of cs
shapes_held s m [] = refl
shapes_held s m (c ∷ cs) = ap (λ n. record { slots = n; floor = c.floor; receiver = c.receiver } ∷ shapes_of cs) (length-set c.origins s.index m)

pub shapes_taken : (to : Option Receiver) (m : Origin) (cs : List CallShadow) → shapes_of (taken to m cs) ≡ shapes_of cs
shapes_taken None m cs = refl
shapes_taken (Some to) m cs = shapes_held to.slot m cs

entered_shapes : {A : Type 0} (p : Program A) (i n : ℕ) (to : Option Receiver) (was : LiveCalls) (cs : List CallShadow) → HasSlots p i was.calls → returned_of cs ≡ record { floor = was.top; receiver = to } → length (origins_of cs) ≡ n
    → callers_of cs ≡ was.calls → shapes_of cs ≡ record { slots = n; floor = was.top; receiver = to } ∷ shapes_of was.calls
entered_shapes p i n to was [] slots returned count callers = absurd (subst (HasSlots p i) (sym callers) slots)
entered_shapes p i n to was (c ∷ cs) slots returned count callers = λ j. record { slots = count j; floor = (returned j).floor; receiver = (returned j).receiver } ∷ shapes_of (callers j)

-- ---- an operand that is unset

-- the only one
pub unset_only : (slots : List (Option ℕ)) (a : NumberedOperand) → IsUnset slots (a ∷ []) → value_in slots a ≡ None
unset_only slots a (zero, e) = let same : value_in slots a ≡ None = cc in same
unset_only slots a (suc k, e) = absurd (let none : None ≡ Some None = e in cc)

pub set_here : (o : Option ℕ) (v : ℕ) (X : Type 0) → Some v ≡ o → o ≡ None → X
set_here o v X some none = absurd (let e : Some v ≡ None = some ∙ none in cc)

pub is_set : (o : Option ℕ) (v : ℕ) → Some v ≡ o → is_none o ≡ false
is_set o v some = ap is_none (sym some)

pub none_is : (o : Option ℕ) → is_none o ≡ true → None ≡ o
none_is None e = refl
none_is (Some v) e = absurd (true≢false (sym e))

-- of two that are set none is
pub none_unset : (slots : List (Option ℕ)) (a b : NumberedOperand) (X : Type 0) → is_none (value_in slots a) ≡ false → is_none (value_in slots b) ≡ false → IsUnset slots (a ∷ (b ∷ [])) → X
none_unset slots a b X one other (zero, e) = let unset : value_in slots a ≡ None = cc in absurd (true≢false (ap is_none (sym unset) ∙ one))
none_unset slots a b X one other (suc zero, e) = let unset : value_in slots b ≡ None = cc in absurd (true≢false (ap is_none (sym unset) ∙ other))
none_unset slots a b X one other (suc (suc k), e) = absurd (let none : None ≡ Some None = e in cc)

-- ---- what is left as it was

pub own_of : {A : Type 0} (was now : Shadow A) → Keeps was now → KeepsOwn was now
own_of was now k = record { names_are = k.names_are; end_is = k.end_is; position_is = k.position_is; roles_are = k.roles_are }

pub kept_memory : {A : Type 0} (was now : Shadow A) → Keeps was now → KeepsButMemory was now
kept_memory was now k = record { calls_are = k.calls_are; names_are = k.names_are; end_is = k.end_is; position_is = k.position_is; roles_are = k.roles_are }

pub memory_behind : {A : Type 0} (was mid behind now : Shadow A) → Keeps was mid → Keeps mid behind → KeepsButMemory behind now → KeepsButMemory was now
memory_behind was mid behind now k l m = record {
  calls_are = m.calls_are ∙ l.calls_are ∙ k.calls_are;
  names_are = m.names_are ∙ l.names_are ∙ k.names_are;
  end_is = m.end_is ∙ l.end_is ∙ k.end_is;
  position_is = m.position_is ∙ l.position_is ∙ k.position_is;
  roles_are = m.roles_are ∙ l.roles_are ∙ k.roles_are;
}

-- where calls are the same but for a temporary
held_lie : {A : Type 0} (p : Program A) (i : ℕ) (kind : InstKind A) (vs : List ℕ) (was now : LiveCalls) (to : Slot) (m : Origin) → shapes_behind p i kind vs was.top (shapes_of was.calls) ≡ shapes_of was.calls → top_behind kind vs was.top ≡ was.top
    → now ≡ with_set was to m → LiesBehind p i kind vs was now
held_lie p i kind vs was now to m shapes top same = record {
  shapes_are = (λ j. shapes_of (same j).calls) ∙ shapes_held to m was.calls ∙ sym shapes;
  top_is = (λ j. (same j).top) ∙ sym top;
  starts_are = λ j. (same j).objects.starts;
}

same_lie : {A : Type 0} (p : Program A) (i : ℕ) (kind : InstKind A) (vs : List ℕ) (was now : LiveCalls) → shapes_behind p i kind vs was.top (shapes_of was.calls) ≡ shapes_of was.calls → top_behind kind vs was.top ≡ was.top
    → now ≡ was → LiesBehind p i kind vs was now
same_lie p i kind vs was now shapes top same = record {
  shapes_are = (λ j. shapes_of (same j).calls) ∙ sym shapes;
  top_is = (λ j. (same j).top) ∙ sym top;
  starts_are = λ j. (same j).objects.starts;
}

-- ---- an assignment

pub assign_left : {A : Type 0} (p : Program A) (place : Place) (slots : List (Option ℕ)) (class : Class) (to : Slot) (expr : NumberedExpr) (was now : Shadow A) → KeepsButSlot to was now
    → (IsUnset slots (expr_operands expr) → now.found.items ≡ was.found.items) → HasLeft p place slots (numbered.Assign class to expr) was now
assign_left {A} p place slots class to expr was now k unset = record {
  own = record { names_are = k.names_are; end_is = k.end_is; position_is = k.position_is; roles_are = k.roles_are };
  lies = λ kind vs s is at top sound.
      let a = is_assign p place slots class to expr kind vs is in
      subst (λ (i : InstKind A). LiesBehind p place.func.index i vs was.calls now.calls) (sym a.2) (held_lie p place.func.index (insts.Assign a.0 a.1) vs was.calls now.calls to k.calls_are.0 refl refl k.calls_are.1);
  unset = unset;
}

-- ---- a store and a copy

pub store_left : {A : Type 0} (p : Program A) (place : Place) (slots : List (Option ℕ)) (width : Width) (number address : NumberedOperand) (was now : Shadow A) → KeepsButMemory was now
    → (IsUnset slots (number ∷ (address ∷ [])) → now.found.items ≡ was.found.items) → HasLeft p place slots (numbered.Store width number address) was now
store_left {A} p place slots width number address was now k unset = record {
  own = record { names_are = k.names_are; end_is = k.end_is; position_is = k.position_is; roles_are = k.roles_are };
  lies = λ kind vs s is at top sound.
      let a = is_store p place slots width number address kind vs is in
      subst (λ (i : InstKind A). LiesBehind p place.func.index i vs was.calls now.calls) (sym a.same) (same_lie p place.func.index (insts.Store width a.stored a.onto) vs was.calls now.calls refl refl k.calls_are);
  unset = unset;
}

pub blit_left : {A : Type 0} (p : Program A) (place : Place) (slots : List (Option ℕ)) (source target : NumberedOperand) (count : ℕ) (was now : Shadow A) → KeepsButMemory was now
    → (IsUnset slots (source ∷ (target ∷ [])) → now.found.items ≡ was.found.items) → HasLeft p place slots (numbered.Blit source target count) was now
blit_left {A} p place slots source target count was now k unset = record {
  own = record { names_are = k.names_are; end_is = k.end_is; position_is = k.position_is; roles_are = k.roles_are };
  lies = λ kind vs s is at top sound.
      let a = is_blit p place slots source target count kind vs is in
      subst (λ (i : InstKind A). LiesBehind p place.func.index i vs was.calls now.calls) (sym a.same) (same_lie p place.func.index (insts.Blit a.from a.onto count) vs was.calls now.calls refl refl k.calls_are);
  unset = unset;
}

-- before anything was done
pub store_none_left : {A : Type 0} (p : Program A) (place : Place) (slots : List (Option ℕ)) (width : Width) (number address : NumberedOperand) (was : Shadow A) → HasLeft p place slots (numbered.Store width number address) was was
store_none_left p place slots width number address was =
    store_left p place slots width number address was was (record { calls_are = refl; names_are = refl; end_is = refl; position_is = refl; roles_are = refl }) (λ none. refl)

pub blit_none_left : {A : Type 0} (p : Program A) (place : Place) (slots : List (Option ℕ)) (source target : NumberedOperand) (count : ℕ) (was : Shadow A) → HasLeft p place slots (numbered.Blit source target count) was was
blit_none_left p place slots source target count was =
    blit_left p place slots source target count was was (record { calls_are = refl; names_are = refl; end_is = refl; position_is = refl; roles_are = refl }) (λ none. refl)

-- ---- an alloc

made_lies : {A : Type 0} (p : Program A) (i : ℕ) (kind : InstKind A) (vs : List ℕ) (was now : LiveCalls) (to : Slot) (o : Object) → shapes_behind p i kind vs was.top (shapes_of was.calls) ≡ shapes_of was.calls → o.address + o.size ≡ top_behind kind vs was.top
    → now ≡ with_made was to o → LiesBehind p i kind vs was now
made_lies p i kind vs was now to o shapes top same = record {
  shapes_are = (λ j. shapes_of (same j).calls) ∙ shapes_held to _ was.calls ∙ sym shapes;
  top_is = (λ j. (same j).top) ∙ top;
  starts_are = λ j. (same j).objects.starts;
}

pub alloc_left : {A : Type 0} (p : Program A) (place : Place) (slots : List (Option ℕ)) (class : Class) (to : Slot) (op : AllocOp) (count : NumberedOperand) (was mid now : Shadow A) (n align : ℕ)
    → Some n ≡ value_in slots count → n < 2 ^ 64 → align ≡ alignment op → KeepsAll was mid → KeepsRest mid now
    → (rounded align mid.calls.top + n ≤ stack_end → now.calls ≡ with_made mid.calls to (made_at place to (rounded align mid.calls.top) n mid.position (length mid.calls.calls)))
    → HasLeft p place slots (numbered.Alloc class to op count) was now
alloc_left {A} p place slots class to op count was mid now n align value low even keeps rest makes = record {
  own = record {
    names_are = rest.names_are ∙ keeps.rest.names_are;
    end_is = rest.end_is ∙ keeps.rest.end_is;
    position_is = rest.position_is ∙ keeps.rest.position_is;
    roles_are = rest.roles_are ∙ keeps.rest.roles_are;
  };
  lies = λ kind vs s is at stands sound.
      let k = is_alloc p place slots class to op count kind vs is in
      let room : RoomIsSound s.top (rounded (alignment op) s.top) (first vs) = subst (λ (i : InstKind A). IsSound p s (length was.calls.calls) i vs) k.same sound in
      let same : n ≡ first vs = same_held slots count n (first vs) value k.value low in
      let top : mid.calls.top ≡ s.top = ap (λ (c : LiveCalls). c.top) keeps.rest.calls_are ∙ stands in
      let address : rounded align mid.calls.top ≡ rounded (alignment op) s.top = λ i. rounded (even i) (top i) in
      let fits : rounded align mid.calls.top + n ≤ stack_end = subst (λ z. z ≤ stack_end) (λ i. sym address i + sym same i) room.1 in
      let made = makes fits ∙ (λ i. with_made (keeps.rest.calls_are i) to (made_at place to (rounded align mid.calls.top) n mid.position (length mid.calls.calls))) in
      let end : rounded align mid.calls.top + n ≡ rounded (alignment op) was.calls.top + first vs = λ i. rounded (even i) (keeps.rest.calls_are i).top + same i in
      subst (λ (i : InstKind A). LiesBehind p place.func.index i vs was.calls now.calls) (sym k.same)
      (made_lies p place.func.index (insts.Alloc k.onto op k.room) vs was.calls now.calls to (made_at place to (rounded align mid.calls.top) n mid.position (length mid.calls.calls)) refl end made);
  unset = λ none. rest.found_is ∙ keeps.found_is;
}

pub alloc_unset_left : {A : Type 0} (p : Program A) (place : Place) (slots : List (Option ℕ)) (class : Class) (to : Slot) (op : AllocOp) (count : NumberedOperand) (was now : Shadow A) → None ≡ value_in slots count → KeepsAll was now
    → HasLeft p place slots (numbered.Alloc class to op count) was now
alloc_unset_left p place slots class to op count was now unset keeps = record {
  own = own_of was now keeps.rest;
  lies = λ kind vs s is at top sound. none_held slots count (first vs) _ unset (is_alloc p place slots class to op count kind vs is).value;
  unset = λ none. keeps.found_is;
}

-- ---- a call

pub call_unset_left : {A : Type 0} (p : Program A) (place : Place) (slots : List (Option ℕ)) (to : Option Receiver) (callee : NumberedOperand) (args : List NumberedArgument) (was : Shadow A) → None ≡ value_in slots callee
    → HasLeft p place slots (numbered.Call to callee args) was was
call_unset_left p place slots to callee args was unset = record {
  own = record { names_are = refl; end_is = refl; position_is = refl; roles_are = refl };
  lies = λ kind vs s is at top sound. none_held slots callee (first vs) _ unset (is_call p place slots to callee args kind vs is).value;
  unset = λ none. refl;
}

pub nothing_left : {A : Type 0} (p : Program A) (place : Place) (slots : List (Option ℕ)) (to : Option Receiver) (callee : NumberedOperand) (args : List NumberedArgument) (was now : Shadow A) (a : ℕ) → Some a ≡ value_in slots callee
    → a < 2 ^ 64 → None ≡ callee_at p a → KeepsAll was now → HasLeft p place slots (numbered.Call to callee args) was now
nothing_left {A} p place slots to callee args was now a value low nothing keeps = record {
  own = own_of was now keeps.rest;
  lies = λ kind vs s is at top sound.
      let k = is_call p place slots to callee args kind vs is in
      let same : a ≡ first vs = same_held slots callee a (first vs) value k.value low in
      absurd (sound_call p place slots to callee args kind vs s (length was.calls.calls) None k (nothing ∙ ap (callee_at p) same) sound);
  unset = λ none. keeps.found_is;
}

both_own : {A : Type 0} (was mid now : Shadow A) → KeepsAll was mid → KeepsButCalls mid now → KeepsOwn was now
both_own was mid now k l = record {
  names_are = l.names_are ∙ k.rest.names_are;
  end_is = l.end_is ∙ k.rest.end_is;
  position_is = l.position_is ∙ k.rest.position_is;
  roles_are = l.roles_are ∙ k.rest.roles_are;
}

pub function_left : {A : Type 0} (p : Program A) (place : Place) (slots : List (Option ℕ)) (to : Option Receiver) (callee : NumberedOperand) (args : List NumberedArgument) (was mid now : Shadow A) (a : ℕ) (func : FuncId)
    → Some a ≡ value_in slots callee → a < 2 ^ 64 → Some (Defined func) ≡ callee_at p a → KeepsAll was mid
    → (length mid.calls.calls < 1000 → IsEntered (length (names_of p func.index)) to mid.calls now.calls) → KeepsButCalls mid now
    → HasLeft p place slots (numbered.Call to callee args) was now
function_left {A} p place slots to callee args was mid now a func value low there keeps enters rest = record {
  own = both_own was mid now keeps rest;
  lies = λ kind vs s is at top sound.
      let i = place.func.index in
      let k = is_call p place slots to callee args kind vs is in
      let same : a ≡ first vs = same_held slots callee a (first vs) value k.value low in
      let meant : Some (Defined func) ≡ callee_at p (first vs) = there ∙ ap (callee_at p) same in
      let few : length was.calls.calls < 1000 = sound_call p place slots to callee args kind vs s (length was.calls.calls) (Some (Defined func)) k meant sound in
      let calls_same = keeps.rest.calls_are in
      let entered : IsEntered (length (names_of p func.index)) to was.calls now.calls =
      subst (λ (c : LiveCalls). IsEntered (length (names_of p func.index)) to c now.calls) calls_same (enters (subst (λ (c : LiveCalls). length c.calls < 1000) (sym calls_same) few)) in
      let shapes = entered_shapes p i (length (names_of p func.index)) to was.calls now.calls.calls at.slots entered.returned_is entered.slots_are entered.callers_are in
      let all : shapes_of now.calls.calls ≡ with_called p i k.result (callee_at p (first vs)) was.calls.top (shapes_of was.calls.calls) =
      shapes
      ∙ (λ j. record { slots = length (names_of p func.index); floor = was.calls.top; receiver = k.receiver j } ∷ shapes_of was.calls.calls)
      ∙ ap (λ o. with_called p i k.result o was.calls.top (shapes_of was.calls.calls)) meant in
      subst (λ (q : InstKind A). LiesBehind p i q vs was.calls now.calls) (sym k.same) (record { shapes_are = all; top_is = entered.top_is; starts_are = ap (λ t. t.starts) entered.objects_are });
  unset = λ none. rest.found_is ∙ keeps.found_is;
}

built_in_shapes : {A : Type 0} (p : Program A) (i : ℕ) (to : Option CallResult) (callee : Callee) (top : ℕ) (cs : List CallShape) → IsBuiltIn callee → with_called p i to (Some callee) top cs ≡ cs
built_in_shapes p i to (Defined func) top cs is = absurd is
built_in_shapes p i to PutChar top cs is = refl
built_in_shapes p i to Puts top cs is = refl
built_in_shapes p i to Exit top cs is = refl

pub built_in_left : {A : Type 0} (p : Program A) (place : Place) (slots : List (Option ℕ)) (to : Option Receiver) (callee : NumberedOperand) (args : List NumberedArgument) (was mid now : Shadow A) (a : ℕ) (called : Callee) (m : Origin)
    → Some a ≡ value_in slots callee → a < 2 ^ 64 → Some called ≡ callee_at p a → IsBuiltIn called → KeepsAll was mid → now.calls ≡ record mid.calls { calls = taken to m mid.calls.calls } → KeepsButCalls mid now
    → HasLeft p place slots (numbered.Call to callee args) was now
built_in_left {A} p place slots to callee args was mid now a called m value low there built keeps gives rest = record {
  own = both_own was mid now keeps rest;
  lies = λ kind vs s is at top sound.
      let i = place.func.index in
      let k = is_call p place slots to callee args kind vs is in
      let same : a ≡ first vs = same_held slots callee a (first vs) value k.value low in
      let meant : Some called ≡ callee_at p (first vs) = there ∙ ap (callee_at p) same in
      let now_calls : now.calls ≡ record was.calls { calls = taken to m was.calls.calls } = gives ∙ ap (λ (c : LiveCalls). record c { calls = taken to m c.calls }) keeps.rest.calls_are in
      let shapes : shapes_of now.calls.calls ≡ with_called p i k.result (callee_at p (first vs)) was.calls.top (shapes_of was.calls.calls) =
      (λ j. shapes_of (now_calls j).calls)
      ∙ shapes_taken to m was.calls.calls
      ∙ sym (built_in_shapes p i k.result called was.calls.top (shapes_of was.calls.calls) built)
      ∙ ap (λ o. with_called p i k.result o was.calls.top (shapes_of was.calls.calls)) meant in
      subst (λ (q : InstKind A). LiesBehind p i q vs was.calls now.calls) (sym k.same) (record { shapes_are = shapes; top_is = λ j. (now_calls j).top; starts_are = λ j. (now_calls j).objects.starts });
  unset = λ none. rest.found_is ∙ keeps.found_is;
}

-- ---- at the start of a run

pub first_lies : {A : Type 0} (p : Program A) (fi n : ℕ) (cs : List CallShadow) → n ≡ length (names_of p fi)
    → cs ≡ record { origins = replicate n origins.Number; floor = stack_base; receiver = None } ∷ [] → shapes_of cs ≡ first_shape p fi ∷ []
first_lies p fi n cs e is = ap shapes_of is ∙ (λ i. record { slots = (length-replicate n origins.Number ∙ e) i; floor = stack_base; receiver = None } ∷ [])

pub still_lies : {A : Type 0} (p : Program A) (fi : ℕ) (cs now : List CallShadow) (s : Slot) (m : Origin) → now ≡ with_held s m cs → shapes_of cs ≡ first_shape p fi ∷ [] → shapes_of now ≡ first_shape p fi ∷ []
still_lies p fi cs now s m e is = ap shapes_of e ∙ shapes_held s m cs ∙ is
