-- Pokes of temporaries by slot: the slots of the innermost frame are those of the names that its function has.
use Rattle.std.proofs.Common.{◌≡◌, refl, sym, ap, ◌∙◌, subst, ℕ, ◌<◌, ◌≤◌, List, [], ◌∷◌, length, Option, Some, None, Ok, Err, get_or, arith}
use Rattle.std.specs.Prelude.{slice_get}
use Rattle.std.proofs.lemmas.Option.{slice_get-get_or, slice_get_past}
use Rattle.qil_tree.specs.declared.ops.Class.{Class}
use Rattle.qil_tree.specs.declared.tree.Func.{Func}
use Rattle.qil_tree.specs.declared.tree.Program.{Program}
use Rattle.qil_ops.specs.Values.{width, low_bits}
use Rattle.qil_memory.specs.Buffers.{Buffers}
use Rattle.qil_semantics.specs.State as meaning
use Rattle.qil_semantics.specs.State.{Name, State}
use Rattle.qil_semantics.specs.Poke.{temp_class, poke_in, poke_temp, no_frame, unknown_temporary}
use Rattle.qil_semantics.specs.Step.{func_named}
use Rattle.qil_code.specs.declared.numbered.Slot.{Slot}
use Rattle.qil_code.specs.Facts.{Finds}
use Rattle.qil_code.specs.Numbered.{func_at, names_in, names_of}
use Rattle.qil_frames.specs.Frames.{SlotFrame, HasFrame, HasSlot, on_innermost, with_slot}
use Rattle.qil_state.specs.declared.status.Status.{Status}
use Rattle.qil_state.specs.State.{Whole, whole, state_of, func_name, frame_state, frames_state, head_names, FramesFit, IsMachine}
use Rattle.qil_state.proofs.Place.{names_here}
use Rattle.qil_machine.specs.declared.error.PokeError.{PokeError}
use Rattle.qil_machine.specs.declared.error.PokeError.TheVariants as errors
use Rattle.qil_machine.specs.Pokes.{names_by_slot, poke_by, poke_slot, IsOfClass, Refuses, RefusesSlot}
use Rattle.qil_machine.proofs.Watching.{there_by}

-- ---- names

-- the names of the slots are found by the name of the function
abbrev HasNames : {A : Type 0} → Whole A → Type 0
HasNames w = names_by_slot w.program (state_of w).frames ≡ head_names w.program w.frames

names_found : {A : Type 0} (p : Program A) (fs : List SlotFrame) → FramesFit p fs → Finds p → names_by_slot p (frames_state p fs) ≡ head_names p fs
names_found p [] fits finds = refl
names_found {A} p (f ∷ fs) fits finds =
    let here = there_by p f.func f.block f.index (func_at p f.func) refl fits.0.place in
    ap (λ (o : Option (Func A)). names_in (func_named p.funcs (func_name o))) here.is
    ∙ (ap (λ (o : Option (Func A)). names_in o) (finds.func f.func here.func here.is) ∙ sym (names_here p f.func here.func here.is))

pub has_names : {A : Type 0} (m now : Whole A) (q : Program A) → m ≡ now → IsMachine m → q ≡ m.program → Finds q → names_by_slot now.program (state_of now).frames ≡ head_names now.program now.frames
has_names {A} m now q same ok program finds =
    subst (λ (w : Whole A). HasNames w) same (names_found m.program m.frames ok.frames (subst Finds program finds))

-- ---- pokes

-- what a poke by name gives for the name of a slot, a poke by slot gives
slot_at : {A : Type 0} (p : Program A) (fs : List SlotFrame) (m : Buffers) (out : List ℕ) (st : Status) (s : Slot) (v : ℕ) (t : State) → FramesFit p fs → names_by_slot p (frames_state p fs) ≡ head_names p fs → HasSlot fs s
    → ((x : Name) → slice_get (head_names p fs) s.index ≡ Some x → poke_temp p (state_of (whole p fs m out st)) x v ≡ Ok t) → poke_slot p (state_of (whole p fs m out st)) s v ≡ Ok t
slot_at p [] m out st s v t fits names has gives = absurd has
slot_at {A} p (f ∷ fs) m out st s v t fits names has gives =
    let S : State = state_of (whole p (f ∷ fs) m out st) in
    let ns : List Name = names_of p f.func in
    let within : s.index < length ns = omega (arith, has, fits.0.slots) in
    let at : slice_get ns s.index ≡ Some (get_or ns s.index []) = slice_get-get_or ns s.index [] within in
    ap (λ xs. poke_by p S v (slice_get xs s.index)) names ∙ (ap (poke_by p S v) at ∙ gives (get_or ns s.index []) at)

slot_poked : {A : Type 0} (m now : Whole A) (s : Slot) (v : ℕ) (t : State) → m ≡ now → IsMachine m → HasNames now → HasSlot now.frames s
    → ((x : Name) → slice_get (head_names now.program now.frames) s.index ≡ Some x → poke_temp now.program (state_of now) x v ≡ Ok t) → poke_slot now.program (state_of now) s v ≡ Ok t
slot_poked {A} m now s v t same ok names has gives =
    let fits : FramesFit now.program now.frames = subst (λ (w : Whole A). FramesFit w.program w.frames) same ok.frames in
    slot_at now.program now.frames now.memory now.output now.status s v t fits names has gives

-- the machine with a value in a slot, which is cut to the class of its temporary
pub slot_set : {A : Type 0} (m now : Whole A) (fs : List SlotFrame) (s : Slot) (c : Class) (v w : ℕ) → m ≡ now → IsMachine m → IsOfClass now s c → names_by_slot now.program (state_of now).frames ≡ head_names now.program now.frames
    → w ≡ low_bits (width c) v → fs ≡ on_innermost (with_slot s (Some w)) m.frames → poke_slot now.program (state_of now) s v ≡ Ok (state_of (whole m.program fs m.memory m.output m.status))
slot_set {A} m now fs s c v w same ok class names ew ef =
    let cut : Whole A = record now { frames = on_innermost (with_slot s (Some (low_bits (width c) v))) now.frames } in
    let after : cut ≡ whole m.program fs m.memory m.output m.status =
    sym (ap (λ gs. whole m.program gs m.memory m.output m.status) (ef ∙ ap (λ n. on_innermost (with_slot s (Some n)) m.frames) ew)
    ∙ ap (λ (x : Whole A). whole x.program (on_innermost (with_slot s (Some (low_bits (width c) v))) x.frames) x.memory x.output x.status) same) in
    slot_poked m now s v (state_of cut) same ok names class.slot (λ x e. class.poke x v e) ∙ ap (λ (x : Whole A). Ok (state_of x)) after

-- ---- refusals

-- a poke where a frame is left isn't refused for want of one
has-frame : (S : State) (F : meaning.Frame) (fs : List meaning.Frame) (x : Name) (v : ℕ) (c : Option Class) → poke_in S F fs x v c ≡ Err no_frame → ⊥
has-frame S F fs x v None e = cc
has-frame S F fs x v (Some c) e = cc

no-frame_in : {A : Type 0} (p : Program A) (fs : List SlotFrame) (m : Buffers) (out : List ℕ) (st : Status) (s : Slot) (v : ℕ) → ((x : Name) (n : ℕ) → poke_temp p (state_of (whole p fs m out st)) x n ≡ Err no_frame)
    → poke_slot p (state_of (whole p fs m out st)) s v ≡ Err no_frame
no-frame_in p [] m out st s v none = refl
no-frame_in p (f ∷ fs) m out st s v none =
    absurd (has-frame (state_of (whole p (f ∷ fs) m out st)) (frame_state p fs f) (frames_state p fs) [] 0 (temp_class (func_named p.funcs (frame_state p fs f).func) []) (none [] 0))

unknown_in : {A : Type 0} (p : Program A) (fs : List SlotFrame) (m : Buffers) (out : List ℕ) (st : Status) (s : Slot) (v : ℕ) → names_by_slot p (frames_state p fs) ≡ head_names p fs → HasFrame fs × (length (head_names p fs) ≤ s.index)
    → poke_slot p (state_of (whole p fs m out st)) s v ≡ Err unknown_temporary
unknown_in p [] m out st s v names past = absurd past.0
unknown_in {A} p (f ∷ fs) m out st s v names past =
    let S : State = state_of (whole p (f ∷ fs) m out st) in
    let ns : List Name = names_of p f.func in
    ap (λ xs. poke_by p S v (slice_get xs s.index)) names ∙ ap (poke_by p S v) (slice_get_past ns s.index past.1)

pub slot_refused : {A : Type 0} (w : Whole A) (s : Slot) (v : ℕ) (why : PokeError) → names_by_slot w.program (state_of w).frames ≡ head_names w.program w.frames → Refuses w s why → RefusesSlot w s v why
slot_refused w s v errors.NoFrame names h = no-frame_in w.program w.frames w.memory w.output w.status s v h
slot_refused w s v errors.UnknownTemporary names h = unknown_in w.program w.frames w.memory w.output w.status s v names h
slot_refused w s v errors.DeadAddress names h = h
slot_refused w s v errors.OutOfMemory names h = h
