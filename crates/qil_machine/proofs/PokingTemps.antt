-- Pokes of temporaries.
use Rattle.std.proofs.Common.{◌≡◌, refl, sym, ap, ◌∙◌, subst, ℕ, ◌<◌, ◌≤◌, List, [], ◌∷◌, length, Option, Some, None, Ok, Err, set, ⊎_elim, arith}
use Rattle.std.specs.Prelude.{option_map, unwrap_or, slice_get}
use Rattle.std.specs.Option.{option_and_then}
use Rattle.std.proofs.lemmas.Option.{slice_get_within, slice_get_cases}
use Rattle.qil_tree.specs.declared.ops.Class.{Class}
use Rattle.qil_tree.specs.declared.tree.Func.{Func}
use Rattle.qil_tree.specs.declared.tree.Program.{Program}
use Rattle.qil_ops.specs.Values.{width, low_bits}
use Rattle.qil_memory.specs.Buffers.{Buffers}
use Rattle.qil_semantics.specs.State as meaning
use Rattle.qil_semantics.specs.State.{Name, State}
use Rattle.qil_semantics.specs.Names.{temps_named}
use Rattle.qil_semantics.specs.Poke.{temp_class, poke_in, poke_temp, no_frame}
use Rattle.qil_semantics.specs.Slots.{temps_of}
use Rattle.qil_semantics.specs.Step.{func_named}
use Rattle.qil_semantics.specs.Temps.{with_temp}
use Rattle.qil_code.specs.declared.numbered.Slot.{Slot}
use Rattle.qil_code.specs.Facts.{Finds}
use Rattle.qil_code.specs.Numbered.{class_of_temp, func_at, names_in, names_of}
use Rattle.qil_code.specs.Reading.{class_at}
use Rattle.qil_code.specs.Slots.{name_at}
use Rattle.qil_frames.specs.Frames.{SlotFrame, HasFrame, HasSlot, held, on_innermost, with_slot}
use Rattle.qil_state.specs.declared.status.Status.{Status}
use Rattle.qil_state.specs.State.{Whole, whole, state_of, func_name, frame_state, frames_state, head_names, FrameFits, FramesFit, IsMachine}
use Rattle.qil_state.proofs.Place.{none_some, some_same, names_here}
use Rattle.qil_state.proofs.Reading.{are_slots, slot_written}
use Rattle.qil_machine.specs.Moves.{Move}
use Rattle.qil_machine.specs.Kinds.{poked_slot_move}
use Rattle.qil_machine.specs.Places.{Made}
use Rattle.qil_machine.specs.Pokes.{IsOfClass}
use Rattle.qil_machine.proofs.Made.{poked_slot}

-- ---- frames that are there

pub some_frame : (fs : List SlotFrame) → (length fs ≡ 0 → ⊥) → HasFrame fs
some_frame [] h = absurd (h refl)
some_frame (f ∷ fs) h = tt

no_frames : {A : Type 0} (p : Program A) (fs : List SlotFrame) (m : Buffers) (out : List ℕ) (st : Status) (x : Name) (v : ℕ) → length fs ≡ 0 → poke_temp p (state_of (whole p fs m out st)) x v ≡ Err no_frame
no_frames p [] m out st x v none = refl
no_frames p (f ∷ fs) m out st x v none = absurd (omega (arith, none))

pub poked_none : {A : Type 0} (m now : Whole A) (x : Name) (v : ℕ) → m ≡ now → length m.frames ≡ 0 → poke_temp now.program (state_of now) x v ≡ Err no_frame
poked_none {A} m now x v same none =
    subst (λ (w : Whole A). poke_temp w.program (state_of w) x v ≡ Err no_frame) same (no_frames m.program m.frames m.memory m.output m.status x v none)

-- ---- slots with a class

slot_in : {X : Type 0} (ns : List Name) (s : ℕ) (k : Name → X) (c : X) (o : Option Name) → slice_get ns s ≡ o → option_map k o ≡ Some c → s < length ns
slot_in ns s k c None e there = none_some there
slot_in ns s k c (Some y) e there = slice_get_within ns s y e

-- a slot that has a class is one of a function that is there
record HasClass {A : Type 0} (p : Program A) (i s : ℕ) : Type 0 where
  func : Func A
  func_is : func_at p i ≡ Some func
  within : s < length (names_of p i)

class_of_func : {A : Type 0} (p : Program A) (i s : ℕ) (c : Class) (o : Option (Func A)) → func_at p i ≡ o
    → option_and_then (λ func. option_map (class_of_temp func) (slice_get (temps_named func) s)) o ≡ Some c → HasClass p i s
class_of_func p i s c None e there = none_some there
class_of_func p i s c (Some func) e there = record {
  func = func;
  func_is = e;
  within = subst (λ ns. s < length ns) (sym (names_here p i func e)) (slot_in (temps_named func) s (class_of_temp func) c (slice_get (temps_named func) s) refl there);
}

class_in_code : {A : Type 0} (p : Program A) (i s : ℕ) (c : Class) → Some c ≡ class_at p i s → HasClass p i s
class_in_code p i s c e = class_of_func p i s c (func_at p i) refl (sym e)

pub within_code : {A : Type 0} (p : Program A) (i s : ℕ) (c : Class) → Some c ≡ class_at p i s → s < length (names_of p i)
within_code p i s c e = let there = class_in_code p i s c e in there.within

-- the state with a value in a slot is the one with that value for its temporary
poked_at : {A : Type 0} (p : Program A) (f : SlotFrame) (fs : List SlotFrame) (m : Buffers) (out : List ℕ) (st : Status) (s : Slot) (c : Class) (func : Func A) (x : Name) (v : ℕ) → FrameFits p f → Finds p
    → s.index < length f.slots → func_at p f.func ≡ Some func → slice_get (names_of p f.func) s.index ≡ Some x → temp_class (func_at p f.func) x ≡ Some c
    → poke_temp p (state_of (whole p (f ∷ fs) m out st)) x v ≡ Ok (state_of (whole p (record f { slots = set f.slots s.index (Some (low_bits (width c) v)) } ∷ fs) m out st))
poked_at {A} p f fs m out st s c func x v fits finds has ef ex ec =
    let S : State = state_of (whole p (f ∷ fs) m out st) in
    let F : meaning.Frame = frame_state p fs f in
    let FS : List meaning.Frame = frames_state p fs in
    let ns : List Name = names_of p f.func in
    let w : Option ℕ = Some (low_bits (width c) v) in
    let name : F.func ≡ func.name = ap (λ (o : Option (Func A)). func_name o) ef in
    let class : temp_class (func_named p.funcs F.func) x ≡ Some c =
    ap (λ y. temp_class (func_named p.funcs y) x) name ∙ ap (λ (o : Option (Func A)). temp_class o x) (finds.func f.func func ef ∙ sym ef) ∙ ec in
    let at : x ≡ name_at ns s.index = sym (ap (λ o. unwrap_or o []) ex) in
    let sets_it : with_temp (temps_of ns f.slots) x w ≡ temps_of ns (set f.slots s.index w) =
    ap (λ y. with_temp (temps_of ns f.slots) y w) at ∙ sym (slot_written ns f.slots s.index w (are_slots p f fits) has) in
    ap (poke_in S F FS x v) class ∙ (λ i. Ok (record S { frames = record F { temps = sets_it i } ∷ FS }))

classed_at : {A : Type 0} (p : Program A) (f : SlotFrame) (fs : List SlotFrame) (m : Buffers) (out : List ℕ) (st : Status) (s : Slot) (c : Class) → FrameFits p f → Finds p → Some c ≡ class_at p f.func s.index
    → ((x : Name) → slice_get (names_of p f.func) s.index ≡ Some x → Some c ≡ temp_class (func_at p f.func) x) → IsOfClass (whole p (f ∷ fs) m out st) s c
classed_at p f fs m out st s c fits finds there defined =
    let here = class_in_code p f.func s.index c there in
    let has : s.index < length f.slots = omega (arith, here.within, fits.slots) in
    record { slot = has; poke = λ x v ex. poked_at p f fs m out st s c here.func x v fits finds has here.func_is ex (sym (defined x ex)) }

abbrev HasClassAt : {A : Type 0} → Program A → ℕ → ℕ → Class → Type 0
HasClassAt p i s c = (x : Name) → slice_get (names_of p i) s ≡ Some x → Some c ≡ temp_class (func_at p i) x

classed_first : {A : Type 0} (p : Program A) (fs : List SlotFrame) (m : Buffers) (out : List ℕ) (st : Status) (fr : SlotFrame) (i : ℕ) (s : Slot) (c : Class) → FramesFit p fs → slice_get fs 0 ≡ Some fr → i ≡ fr.func
    → Finds p → Some c ≡ class_at p i s.index → HasClassAt p i s.index c → IsOfClass (whole p fs m out st) s c
classed_first p [] m out st fr i s c fits first at finds there defined = none_some first
classed_first {A} p (f ∷ fs) m out st fr i s c fits first at finds there defined =
    let same : i ≡ f.func = at ∙ ap (λ (g : SlotFrame). g.func) (sym (some_same f fr first)) in
    classed_at p f fs m out st s c fits.0 finds (subst (λ j. Some c ≡ class_at p j s.index) same there) (subst (λ j. HasClassAt p j s.index c) same defined)

pub is_of_class : {A : Type 0} (m now : Whole A) (fr : SlotFrame) (q : Program A) (i : ℕ) (s : Slot) (c : Class) → m ≡ now → IsMachine m → slice_get m.frames 0 ≡ Some fr → i ≡ fr.func → q ≡ m.program
    → Finds q → Some c ≡ class_at q i s.index → HasClassAt q i s.index c → IsOfClass now s c
is_of_class {A} m now fr q i s c same ok first at program finds there defined =
    subst (λ (w : Whole A). IsOfClass w s c) same
    (classed_first m.program m.frames m.memory m.output m.status fr i s c ok.frames first at (subst Finds program finds)
    (subst (λ (r : Program A). Some c ≡ class_at r i s.index) program there) (subst (λ (r : Program A). HasClassAt r i s.index c) program defined))

-- ---- slots without one

no_slot : {X : Type 0} (ns : List Name) (s : ℕ) (k : Name → X) (o : Option Name) → slice_get ns s ≡ o → None ≡ option_map k o → length ns ≤ s
no_slot ns s k None e none = ⊎_elim
    (λ at. none_some (sym e ∙ at.2))
    (λ past. past.0)
    (slice_get_cases ns s).1
no_slot ns s k (Some y) e none = none_some none

unknown_in : {A : Type 0} (p : Program A) (i s : ℕ) (o : Option (Func A)) → func_at p i ≡ o → None ≡ option_and_then (λ func. option_map (class_of_temp func) (slice_get (temps_named func) s)) o → length (names_in o) ≤ s
unknown_in p i s None e none = omega arith
unknown_in p i s (Some func) e none = no_slot (temps_named func) s (class_of_temp func) (slice_get (temps_named func) s) refl none

pub unknown : {A : Type 0} (p : Program A) (i s : ℕ) → None ≡ class_at p i s → length (names_of p i) ≤ s
unfolding names_of
unknown p i s none = unknown_in p i s (func_at p i) refl none

unknown_first : {A : Type 0} (p : Program A) (fs : List SlotFrame) (fr : SlotFrame) (i s : ℕ) → slice_get fs 0 ≡ Some fr → i ≡ fr.func → None ≡ class_at p i s → HasFrame fs × (length (head_names p fs) ≤ s)
unknown_first p [] fr i s first at none = none_some first
unknown_first p (f ∷ fs) fr i s first at none =
    let same : i ≡ f.func = at ∙ ap (λ (g : SlotFrame). g.func) (sym (some_same f fr first)) in
    (tt, subst (λ j. length (names_of p j) ≤ s) same (unknown p i s none))

pub is_unknown : {A : Type 0} (m now : Whole A) (fr : SlotFrame) (q : Program A) (i s : ℕ) → m ≡ now → slice_get m.frames 0 ≡ Some fr → i ≡ fr.func → q ≡ m.program → None ≡ class_at q i s
    → HasFrame now.frames × (length (head_names now.program now.frames) ≤ s)
is_unknown {A} m now fr q i s same first at program none =
    subst (λ (w : Whole A). HasFrame w.frames × (length (head_names w.program w.frames) ≤ s)) same
    (unknown_first m.program m.frames fr i s first at (subst (λ (r : Program A). None ≡ class_at r i s) program none))

-- ---- the move

pub temp_made : {A : Type 0} (m now new : Whole A) (d : Move) (fs : List SlotFrame) (s : Slot) (c : Class) (v w : ℕ) (old : Option ℕ) → m ≡ now → IsMachine m → IsOfClass now s c → w ≡ low_bits (width c) v
    → fs ≡ on_innermost (with_slot s (Some w)) m.frames → old ≡ held m.frames s → d ≡ poked_slot_move s old → new ≡ whole m.program fs m.memory m.output m.status → Made d now new
temp_made {A} m now new d fs s c v w old same ok class ew ef eo ed en =
    let has : HasSlot m.frames s = subst (λ (x : Whole A). HasSlot x.frames s) (sym same) class.slot in
    let made : Made (poked_slot_move s (held m.frames s)) m (whole m.program (on_innermost (with_slot s (Some w)) m.frames) m.memory m.output m.status) =
    poked_slot m.program m.frames m.memory m.output m.status s (Some w) ok has in
    let kind : poked_slot_move s (held m.frames s) ≡ d = ap (poked_slot_move s) (sym eo) ∙ sym ed in
    let after : whole m.program (on_innermost (with_slot s (Some w)) m.frames) m.memory m.output m.status ≡ new = ap (λ gs. whole m.program gs m.memory m.output m.status) (sym ef) ∙ sym en in
    subst (λ (e : Move). Made e now new) kind
    (subst (λ (y : Whole A). Made (poked_slot_move s (held m.frames s)) now y) after
    (subst (λ (x : Whole A). Made (poked_slot_move s (held m.frames s)) x (whole m.program (on_innermost (with_slot s (Some w)) m.frames) m.memory m.output m.status)) same made))
