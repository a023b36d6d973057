-- What an alloc that fits does: the object that is made by number is by names the one that the definition says.
use Rattle.std.proofs.Common.{◌≡◌, ◌∙◌, sym, ap, subst, refl, ℕ, suc, ◌+◌, ◌-◌, ◌^◌, ◌<◌, ◌≤◌, List, [], ◌∷◌, ◌++◌, length, map, Option, Some, None}
use Rattle.std.specs.Prelude.{replicate}
use Rattle.std.proofs.lemmas.List.{length-map, map-append}
use Rattle.qil_memory.specs.qil_layout.Layout.{rounded}
use Rattle.qil_memory.specs.Buffers.{stack_base, stack_end}
use Rattle.qil_tree.specs.declared.ops.Class.{Class}
use Rattle.qil_tree.specs.declared.ops.Class.TheVariants as classes
use Rattle.qil_memory.specs.qil_rules.Operands.{as_class}
use Rattle.qil_semantics.specs.Slots.{temps_of}
use Rattle.qil_tree.specs.declared.ops.AllocOp.{AllocOp}
use Rattle.qil_tree.specs.declared.tree.Target.{Target}
use Rattle.qil_tree.specs.declared.tree.Operand.{Operand}
use Rattle.qil_tree.specs.declared.tree.InstKind.{InstKind}
use Rattle.qil_tree.specs.declared.tree.InstKind.TheVariants as insts
use Rattle.qil_tree.specs.declared.tree.Program.{Program}
use Rattle.qil_semantics.specs.State.{Name, Frame}
use Rattle.qil_semantics.specs.Stops as stops
use Rattle.qil_semantics.specs.Values.{first}
use Rattle.qil_semantics.specs.Step.{alignment}
use Rattle.qil_code.specs.declared.numbered.Slot.{Slot}
use Rattle.qil_code.specs.declared.numbered.NumberedOperand.{NumberedOperand}
use Rattle.qil_code.specs.declared.numbered.NumberedInst.{NumberedInst}
use Rattle.qil_code.specs.declared.numbered.NumberedInst.TheVariants as numbered
use Rattle.qil_code.specs.Numbered.{func_at, names_of, operand_of, slot_in}
use Rattle.qil_code.specs.Slots.{name_at}
use Rattle.qil_code.proofs.Has.{Has, has-among, name-number}
use Rattle.qil_shadow.specs.declared.origin.Origin.TheVariants as origins
use Rattle.qil_shadow.specs.declared.origin.ByteOrigin.TheVariants as bytes
use Rattle.qil_shadow.specs.declared.object.Object.{Object}
use Rattle.qil_shadow.specs.declared.object.ObjectKind.TheVariants as kinds
use Rattle.qil_shadow.specs.declared.suspicion.Place.{Place}
use Rattle.qil_shadow.specs.declared.shadow.Shadow.{Shadow}
use Rattle.qil_shadow.specs.Objects as objects
use Rattle.qil_shadow.specs.Shadow.{Origins, with_origin}
use Rattle.qil_shadow.specs.Bytes.{laid_origins}
use Rattle.qil_shadow.specs.Shadowed.{grows}
use Rattle.qil_shadow.specs.Accesses.{inst_accesses}
use Rattle.qil_shadow.specs.Spots.{origins_in}
use Rattle.qil_shadow.specs.Stack.{CallShadow, callers_of}
use Rattle.qil_shadow.specs.Calls.{LiveCalls, with_made}
use Rattle.qil_shadow.specs.Numbered.{value_in, function_name, object_named, frames_by}
use Rattle.qil_shadow.specs.Doubts.{place_named}
use Rattle.qil_shadow.specs.Reads.{innermost, HasSlots}
use Rattle.qil_shadow.specs.Kept.{KeepsAll, KeepsRest}
use Rattle.qil_shadow.specs.Instructions.{named, AreCalls, IsInst, IsSound, RoomIsSound, ShadowIs, HasDone}
use Rattle.qil_shadow.proofs.ValueLemmas.{Holds, val_long, first_read, none_held, same_held}
use Rattle.qil_shadow.proofs.InstLemmas.{set_frames, reports_none}

-- ---- which instruction it is

abbrev slot_of_inst : {A : Type 0} → Slot → NumberedInst A → Slot
slot_of_inst s (numbered.Alloc c t op n) = t
slot_of_inst s i = s

abbrev op_of_inst : {A : Type 0} → AllocOp → NumberedInst A → AllocOp
op_of_inst d (numbered.Alloc c t op n) = op
op_of_inst d i = d

abbrev count_of_inst : {A : Type 0} → NumberedOperand → NumberedInst A → NumberedOperand
count_of_inst d (numbered.Alloc c t op n) = n
count_of_inst d i = d

pub record IsAlloc {A : Type 0} (p : Program A) (place : Place) (slots : List (Option ℕ)) (to : Slot) (op : AllocOp) (count : NumberedOperand) (kind : InstKind A) (vs : List ℕ) : Type 0 where
  pub onto : Target
  pub room : Operand
  pub same : kind ≡ insts.Alloc onto op room
  pub has : Has (names_of p place.func.index) onto.name
  pub slot : to ≡ slot_in (names_of p place.func.index) onto.name
  pub value : Holds slots count (first vs)

pub is_alloc : {A : Type 0} (p : Program A) (place : Place) (slots : List (Option ℕ)) (class : Class) (to : Slot) (op : AllocOp) (count : NumberedOperand) (kind : InstKind A) (vs : List ℕ)
    → IsInst p place slots (numbered.Alloc class to op count) kind vs → IsAlloc p place slots to op count kind vs
is_alloc p place slots class to op count (insts.Assign x e) vs is = absurd (let e = is.number in cc)
is_alloc p place slots class to op count (insts.Store w a b) vs is = absurd (let e = is.number in cc)
is_alloc p place slots class to op count (insts.Blit a b n) vs is = absurd (let e = is.number in cc)
is_alloc p place slots class to op count (insts.Call x callee args) vs is = absurd (let e = is.number in cc)
is_alloc {A} p place slots class to op count (insts.Alloc x o n) vs is =
    let ns = names_of p place.func.index in
    let c : count ≡ operand_of p ns n = ap (λ (i : NumberedInst A). count_of_inst count i) is.number in
    record {
      onto = x;
      room = n;
      same = ap (λ k. insts.Alloc x k n) (sym (ap (λ (i : NumberedInst A). op_of_inst op i) is.number));
      has = has-among ns x.name is.target.0 is.target.1;
      slot = ap (λ (i : NumberedInst A). slot_of_inst to i) is.number;
      value = subst (λ o. Holds slots o (first vs)) (sym c) (val_long p ns slots n (first vs) is.known.0 (first_read p (temps_of ns slots) (as_class classes.L n) [] vs is.values));
    }

-- ---- what it does

many_frames : {A : Type 0} (p : Program A) (fs : List ℕ) (cs : List CallShadow) → AreCalls p fs cs → length (frames_by p fs cs) ≡ length cs
many_frames p [] [] are = refl
many_frames p [] (c ∷ cs) are = absurd are
many_frames p (f ∷ fs) [] are = absurd are
many_frames p (f ∷ fs) (c ∷ cs) are = ap (λ n. suc n) (many_frames p fs cs are.1)

pub deep_frames : {A : Type 0} (p : Program A) (i : ℕ) (fs : List ℕ) (cs : List CallShadow) (t : Origins) → AreCalls p (i ∷ fs) cs → length cs ≡ length (t ∷ frames_by p fs (callers_of cs))
deep_frames p i fs [] t are = absurd are
deep_frames p i fs (c ∷ cs) t are = ap (λ n. suc n) (sym (many_frames p fs cs are.1))

-- the object of a slot, by the number of its function
abbrev pub made_at : Place → Slot → ℕ → ℕ → ℕ → ℕ → Object
made_at place slot at n position depth = record { kind = kinds.Slot place.func slot; address = at; size = n; made = position; depth = depth; ended = None }

made_named : {A : Type 0} (p : Program A) (place : Place) (slot : Slot) (x : Name) (f : Frame) (at n position depth deep : ℕ) → stops.place_of f ≡ place_named p place → Has (names_of p place.func.index) x
    → slot ≡ slot_in (names_of p place.func.index) x → depth ≡ deep
    → object_named p (made_at place slot at n position depth) ≡ record { kind = objects.of_slot f.func x; address = at; size = n; made = position; depth = deep; ended = None }
made_named p place slot x f at n position depth deep here has is same =
    let func : function_name (func_at p place.func.index) ≡ f.func = sym (ap (λ (q : stops.Place). q.func) here) in
    let name : name_at (names_of p place.func.index) slot.index ≡ x = ap (λ (s : Slot). name_at (names_of p place.func.index) s.index) is ∙ name-number (names_of p place.func.index) x has in
    λ i. record { kind = objects.of_slot (func i) (name i); address = at; size = n; made = position; depth = same i; ended = None }

grown_named : {A : Type 0} (p : Program A) (place : Place) (fs : List ℕ) (f : Frame) (x : Target) (to : Slot) (was now : Shadow A) (at n : ℕ) → AreCalls p (place.func.index ∷ fs) was.calls.calls
    → HasSlots p place.func.index was.calls.calls → stops.place_of f ≡ place_named p place → Has (names_of p place.func.index) x.name → to ≡ slot_in (names_of p place.func.index) x.name
    → now.calls ≡ with_made was.calls to (made_at place to at n was.position (length was.calls.calls)) → now.position ≡ was.position
    → origins_in now.memory ≡ laid_origins (origins_in was.memory) was.calls.top (replicate (at + n - was.calls.top) bytes.Number)
    → named p (place.func.index ∷ fs) now ≡ grows (named p (place.func.index ∷ fs) was) (innermost p place.func.index was.calls.calls) (frames_by p fs (callers_of was.calls.calls)) f x was.calls.top at n
grown_named {A} p place fs f x to was now at n are slots here has is calls position memory =
    let i = place.func.index in
    let t = innermost p i was.calls.calls in
    let ts = frames_by p fs (callers_of was.calls.calls) in
    let os = was.calls.objects.objects in
    let made = made_at place to at n was.position (length was.calls.calls) in
    let frames = set_frames p i fs was.calls.calls to x.name (origins.Address (record { index = length os })) slots has is in
    let count : length os ≡ length (map (object_named p) os) = sym (length-map os (object_named p)) in
    let all : map (object_named p) (os ++ made ∷ []) ≡ map (object_named p) os ++ record { kind = objects.of_slot f.func x.name; address = at; size = n; made = was.position; depth = length (t ∷ ts); ended = None } ∷ [] =
    map-append (object_named p) os (made ∷ [])
    ∙ ap (λ o. map (object_named p) os ++ o ∷ []) (made_named p place to x.name f at n was.position (length was.calls.calls) (length (t ∷ ts)) here has is (deep_frames p i fs was.calls.calls t are)) in
    (λ j. record { frames = frames_by p (i ∷ fs) (calls j).calls; bytes = memory j; objects = map (object_named p) (calls j).objects.objects; position = position j })
    ∙ (λ j. record {
      frames = (frames ∙ (λ k. with_origin t x.name (origins.Address (record { index = count k })) ∷ ts)) j;
      bytes = laid_origins (origins_in was.memory) was.calls.top (replicate (at + n - was.calls.top) bytes.Number);
      objects = all j;
      position = was.position;
    })

pub alloc_unset : {A : Type 0} (p : Program A) (place : Place) (slots : List (Option ℕ)) (class : Class) (to : Slot) (op : AllocOp) (count : NumberedOperand) (was now : Shadow A) → None ≡ value_in slots count
    → HasDone p place slots (numbered.Alloc class to op count) was now
alloc_unset p place slots class to op count was now unset = record {
  shadow_is = λ kind vs s f fs is at calls stands sound. none_held slots count (first vs) _ unset (is_alloc p place slots class to op count kind vs is).value;
  found_is = λ kind vs s sh f is at stands. none_held slots count (first vs) _ unset (is_alloc p place slots class to op count kind vs is).value;
}

pub alloc_done : {A : Type 0} (p : Program A) (place : Place) (slots : List (Option ℕ)) (class : Class) (to : Slot) (op : AllocOp) (count : NumberedOperand) (was mid now : Shadow A) (n align : ℕ)
    → Some n ≡ value_in slots count → n < 2 ^ 64 → align ≡ alignment op → KeepsAll was mid → KeepsRest mid now
    → (rounded align mid.calls.top + n ≤ stack_end → now.calls ≡ with_made mid.calls to (made_at place to (rounded align mid.calls.top) n mid.position (length mid.calls.calls)))
    → (stack_base ≤ mid.calls.top → rounded align mid.calls.top + n ≤ stack_end
    → origins_in now.memory ≡ laid_origins (origins_in mid.memory) mid.calls.top (replicate (rounded align mid.calls.top + n - mid.calls.top) bytes.Number))
    → HasDone p place slots (numbered.Alloc class to op count) was now
alloc_done {A} p place slots class to op count was mid now n align value low even keeps rest makes clears = record {
  shadow_is = λ kind vs s f fs is at calls stands sound.
      let k = is_alloc p place slots class to op count kind vs is in
      let room : RoomIsSound s.top (rounded (alignment op) s.top) (first vs) = subst (λ (i : InstKind A). IsSound p s (length was.calls.calls) i vs) k.same sound in
      let same : n ≡ first vs = same_held slots count n (first vs) value k.value low in
      let top : mid.calls.top ≡ s.top = ap (λ (c : LiveCalls). c.top) keeps.rest.calls_are ∙ stands.top_is in
      let address : rounded align mid.calls.top ≡ rounded (alignment op) s.top = λ i. rounded (even i) (top i) in
      let fits : rounded align mid.calls.top + n ≤ stack_end = subst (λ z. z ≤ stack_end) (λ i. sym address i + sym same i) room.1 in
      let based : stack_base ≤ mid.calls.top = subst (λ z. stack_base ≤ z) (sym top) room.0 in
      let made : now.calls ≡ with_made was.calls to (made_at place to (rounded (alignment op) s.top) (first vs) was.position (length was.calls.calls)) =
      makes fits
      ∙ (λ i. with_made (keeps.rest.calls_are i) to (made_at place to (address i) (same i) (keeps.rest.position_is i) (length (keeps.rest.calls_are i).calls))) in
      let cleared : origins_in now.memory ≡ laid_origins (origins_in was.memory) was.calls.top (replicate (rounded (alignment op) s.top + first vs - was.calls.top) bytes.Number) =
      clears based fits
      ∙ (λ i. laid_origins (origins_in (keeps.rest.memory_is i)) (keeps.rest.calls_are i).top (replicate (address i + same i - (keeps.rest.calls_are i).top) bytes.Number)) in
      subst (λ (i : InstKind A). ShadowIs p place was now s f fs i vs) (sym k.same)
      (grown_named p place fs f k.onto to was now (rounded (alignment op) s.top) (first vs) calls at.slots stands.place_is k.has k.slot made (rest.position_is ∙ keeps.rest.position_is) cleared
      ∙ ap (λ z. grows (named p (place.func.index ∷ fs) was) (innermost p place.func.index was.calls.calls) (frames_by p fs (callers_of was.calls.calls)) f k.onto z (rounded (alignment op) s.top) (first vs)) stands.top_is);
  found_is = λ kind vs s sh f is at stands.
      let k = is_alloc p place slots class to op count kind vs is in
      reports_none p s sh f (inst_accesses p s (innermost p place.func.index was.calls.calls) kind vs) was.found.items now.found.items
      (ap (λ (i : InstKind A). inst_accesses p s (innermost p place.func.index was.calls.calls) i vs) k.same) (rest.found_is ∙ keeps.found_is);
}
