-- What is looked at in a machine is all that fitting asks.
use Rattle.std.proofs.Common.{◌≡◌, ℕ, false, ◌≤◌, inr, List, [], ◌∷◌, length, Option, None, Some, set, refl, sym, subst, ◌∙◌, arith, ⊎_elim}
use Rattle.std.proofs.lemmas.List.{length-set}
use Rattle.qil_tree.specs.declared.tree.Program.{Program}
use Rattle.qil_layout.specs.Layout.{low_bytes}
use Rattle.qil_layout.proofs.BytesLemmas.{length-low_bytes}
use Rattle.qil_memory.specs.Buffers.{Buffers, stack_base}
use Rattle.qil_memory.specs.Undo.{Kept}
use Rattle.qil_memory.specs.Places.{HasBytes, HasPlaces}
use Rattle.qil_code.specs.declared.numbered.Slot.{Slot}
use Rattle.qil_code.specs.declared.numbered.Receiver.{Receiver}
use Rattle.qil_frames.specs.declared.saved.SavedSlot.{SavedSlot}
use Rattle.qil_frames.specs.Frames.{SlotFrame, HasSlot, on_innermost}
use Rattle.qil_frames.specs.Enter.{put_back}
use Rattle.qil_state.specs.declared.status.Status.{Status}
use Rattle.qil_state.specs.State.{Whole, whole, ReceiverFits, FramesFit, Floors, IsMachine}
use Rattle.qil_machine.specs.Moves.{Move, Place, stays, at, end_of, Bytes, frame_back, FitsFrame, Fits}
use Rattle.qil_machine.specs.Kinds.{slots_move, one, received, returned_move, poked_slot_move}
use Rattle.qil_fitting.specs.Fitting.{HasSlots, FloorFits, MayReturn}
use Rattle.qil_machine.proofs.Made.{not_added, one_slot, no_slots, innermost_at, here_fits, still_for, floor_low}
use Rattle.qil_machine.proofs.Undoing.{slot_there}

-- ---- slots that are put back

-- a move that neither adds a frame nor takes one
abbrev pub plain : Place → List SavedSlot → Option Bytes → Option ℕ → Option ℕ → Option Status → Move
plain place ks b t n s = record { added = false; popped = None; place = place; slots = ks; bytes = b; top = t; output = n; status = s }

abbrev pub bytes_of : Kept → Option Bytes
bytes_of saved = Some (record { address = saved.address; bytes = saved.bytes })

length-put_back : (ks : List SavedSlot) (vs : List (Option ℕ)) → length (put_back ks vs) ≡ length vs
length-put_back [] vs = refl
length-put_back (k ∷ ks) vs = length-set (put_back ks vs) k.slot.index k.value ∙ length-put_back ks vs

-- a machine with other values in as many slots of the innermost frame is one
other_slots : {A : Type 0} (p : Program A) (f : SlotFrame) (fs : List SlotFrame) (m : Buffers) (out : List ℕ) (st : Status) (vs : List (Option ℕ)) → length vs ≡ length f.slots
    → IsMachine (whole p (f ∷ fs) m out st) → IsMachine (whole p (record f { slots = vs } ∷ fs) m out st)
other_slots p f fs m out st vs len ok = record {
  few = ok.few;
  frames = innermost_at p f fs f.index vs ok.frames (here_fits p f fs ok.frames) len;
  some = still_for st f (record f { slots = vs }) fs ok.some;
  floors = ok.floors;
  output = ok.output;
}

with_slots : {A : Type 0} (p : Program A) (place : Place) (ks : List SavedSlot) (f : SlotFrame) (fs : List SlotFrame) (m : Buffers) (out : List ℕ) (st : Status)
    → IsMachine (whole p (frame_back p place [] f ∷ fs) m out st) → IsMachine (whole p (frame_back p place ks f ∷ fs) m out st)
with_slots p stays ks f fs m out st ok = other_slots p (frame_back p stays [] f) fs m out st (put_back ks f.slots) (length-put_back ks f.slots) ok
with_slots p (at k) ks f fs m out st ok = other_slots p (frame_back p (at k) [] f) fs m out st (put_back ks f.slots) (length-put_back ks f.slots) ok
with_slots p (end_of b) ks f fs m out st ok = other_slots p (frame_back p (end_of b) [] f) fs m out st (put_back ks f.slots) (length-put_back ks f.slots) ok

without_slots : {A : Type 0} (p : Program A) (place : Place) (ks : List SavedSlot) (f : SlotFrame) (fs : List SlotFrame) (m : Buffers) (out : List ℕ) (st : Status)
    → IsMachine (whole p (frame_back p place ks f ∷ fs) m out st) → IsMachine (whole p (frame_back p place [] f ∷ fs) m out st)
without_slots p stays ks f fs m out st ok = other_slots p (frame_back p stays ks f) fs m out st f.slots (sym (length-put_back ks f.slots)) ok
without_slots p (at k) ks f fs m out st ok = other_slots p (frame_back p (at k) ks f) fs m out st f.slots (sym (length-put_back ks f.slots)) ok
without_slots p (end_of b) ks f fs m out st ok = other_slots p (frame_back p (end_of b) ks f) fs m out st f.slots (sym (length-put_back ks f.slots)) ok

slots_to : {A : Type 0} (p : Program A) (fs : List SlotFrame) (m : Buffers) (out : List ℕ) (st : Status) (place : Place) (ks : List SavedSlot) (b : Option Bytes) (t n : Option ℕ) (s : Option Status) → HasSlots fs ks
    → Fits (plain place [] b t n s) (whole p fs m out st) → Fits (plain place ks b t n s) (whole p fs m out st)
slots_to p [] m out st place ks b t n s has h = absurd has
slots_to p (f ∷ fs) m out st place ks b t n s has h =
    record { added = not_added; frame = has; bytes = h.bytes; top = h.top; output = h.output; machine = with_slots p place ks f fs _ _ _ h.machine }

slots_of : {A : Type 0} (p : Program A) (fs : List SlotFrame) (m : Buffers) (out : List ℕ) (st : Status) (place : Place) (ks : List SavedSlot) (b : Option Bytes) (t n : Option ℕ) (s : Option Status)
    → Fits (plain place ks b t n s) (whole p fs m out st) → Fits (plain place [] b t n s) (whole p fs m out st)
slots_of p [] m out st place ks b t n s h =
    record { added = not_added; frame = (h.frame.0, refl); bytes = h.bytes; top = h.top; output = h.output; machine = h.machine }
slots_of p (f ∷ fs) m out st place ks b t n s h =
    record { added = not_added; frame = no_slots (length f.slots); bytes = h.bytes; top = h.top; output = h.output; machine = without_slots p place ks f fs _ _ _ h.machine }

-- a move with slots fits where they are there, and it fits without them
pub fits_slots : {A : Type 0} (w : Whole A) (place : Place) (ks : List SavedSlot) (b : Option Bytes) (t n : Option ℕ) (s : Option Status) → HasSlots w.frames ks → Fits (plain place [] b t n s) w → Fits (plain place ks b t n s) w
fits_slots w place ks b t n s has h = slots_to w.program w.frames w.memory w.output w.status place ks b t n s has h

pub fits_rest : {A : Type 0} (w : Whole A) (place : Place) (ks : List SavedSlot) (b : Option Bytes) (t n : Option ℕ) (s : Option Status) → Fits (plain place ks b t n s) w → Fits (plain place [] b t n s) w
fits_rest w place ks b t n s h = slots_of w.program w.frames w.memory w.output w.status place ks b t n s h

-- the same of one slot
one_there : (fs : List SlotFrame) (s : Slot) (v : Option ℕ) → HasSlot fs s → HasSlots fs (one s v)
one_there [] s v h = absurd h
one_there (f ∷ fs) s v h = one_slot s (length f.slots) v h

pub fits_slot : {A : Type 0} (w : Whole A) (place : Place) (s : Slot) (v : Option ℕ) (b : Option Bytes) (t n : Option ℕ) (st : Option Status) → HasSlot w.frames s → Fits (plain place [] b t n st) w → Fits (plain place (one s v) b t n st) w
fits_slot w place s v b t n st has h = fits_slots w place (one s v) b t n st (one_there w.frames s v has) h

pub fitting_slot : {A : Type 0} (w : Whole A) (place : Place) (s : Slot) (v : Option ℕ) (b : Option Bytes) (t n : Option ℕ) (st : Option Status) → Fits (plain place (one s v) b t n st) w → HasSlot w.frames s
fitting_slot w place s v b t n st h = slot_there place s v w.frames h.frame

-- where a block was left, there is a frame
left_there : (b : ℕ) (ks : List SavedSlot) (fs : List SlotFrame) → FitsFrame (end_of b) ks fs → HasSlots fs ks
left_there b ks [] h = absurd (let e = h.0 in cc)
left_there b ks (f ∷ fs) h = h

pub fitting_slots : {A : Type 0} (w : Whole A) (b : ℕ) (ks : List SavedSlot) → Fits (slots_move (end_of b) ks) w → HasSlots w.frames ks
fitting_slots w b ks h = left_there b ks w.frames h.frame

-- ---- a slot that was poked

nothing_in : {A : Type 0} (p : Program A) (fs : List SlotFrame) (m : Buffers) (out : List ℕ) (st : Status) → IsMachine (whole p fs m out st) → Fits (plain stays [] None None None None) (whole p fs m out st)
nothing_in p [] m out st ok = record { added = not_added; frame = (refl, refl); bytes = tt; top = tt; output = tt; machine = ok }
nothing_in p (f ∷ fs) m out st ok = record { added = not_added; frame = no_slots (length f.slots); bytes = tt; top = tt; output = tt; machine = ok }

pub poked_to : {A : Type 0} (w : Whole A) (s : Slot) (v : Option ℕ) → IsMachine w → HasSlot w.frames s → Fits (poked_slot_move s v) w
poked_to w s v ok h = fits_slot w stays s v None None None None h (nothing_in w.program w.frames w.memory w.output w.status ok)

-- ---- bytes

pub low_places : (m : Buffers) (a n v : ℕ) → HasBytes m a n → HasPlaces m a (low_bytes n v)
low_places m a n v h = inr (subst (HasBytes m a) (sym (length-low_bytes n v)) h)

pub places_low : (m : Buffers) (a n v : ℕ) → (n ≡ 0 → ⊥) → HasPlaces m a (low_bytes n v) → HasBytes m a n
places_low m a n v some h = ⊎_elim
    (λ (e : length (low_bytes n v) ≡ 0). absurd (some (sym (length-low_bytes n v) ∙ e)))
    (λ (is : HasBytes m a (length (low_bytes n v))). subst (HasBytes m a) (length-low_bytes n v) is)
    h

-- ---- a frame that comes back

abbrev given : {A : Type 0} → Program A → Option Receiver → Option ℕ → List SlotFrame → List SlotFrame
given p to v fs = on_innermost (frame_back p stays (received to v)) fs

given_frames : {A : Type 0} (p : Program A) (to : Option Receiver) (v : Option ℕ) (fs : List SlotFrame) → FramesFit p fs → FramesFit p (given p to v fs)
given_frames p to v [] h = tt
given_frames p None v (f ∷ fs) h = h
given_frames p (Some to) v (f ∷ fs) h = innermost_at p f fs f.index (set f.slots to.slot.index v) h (here_fits p f fs h) (length-set f.slots to.slot.index v)

given_receiver : {A : Type 0} (p : Program A) (to : Option Receiver) (v : Option ℕ) (fs : List SlotFrame) → ReceiverFits fs to → ReceiverFits (given p to v fs) to
given_receiver p None v fs h = tt
given_receiver p (Some to) v [] h = h
given_receiver p (Some to) v (f ∷ fs) h = rw (length-set f.slots to.slot.index v) h

receiver_given : {A : Type 0} (p : Program A) (to : Option Receiver) (v : Option ℕ) (fs : List SlotFrame) → ReceiverFits (given p to v fs) to → ReceiverFits fs to
receiver_given p None v fs h = tt
receiver_given p (Some to) v [] h = h
receiver_given p (Some to) v (f ∷ fs) h = rw (length-set f.slots to.slot.index v) at h

given_count : {A : Type 0} (p : Program A) (to : Option Receiver) (v : Option ℕ) (fs : List SlotFrame) → length (given p to v fs) ≡ length fs
given_count p to v [] = refl
given_count p to v (f ∷ fs) = refl

given_floors : {A : Type 0} (p : Program A) (to : Option Receiver) (v : Option ℕ) (fs : List SlotFrame) (t x : ℕ) → Floors t fs → FloorFits fs x → Floors x (given p to v fs)
given_floors p to v [] t x h l = l
given_floors p to v (f ∷ fs) t x h l = (l, h.1)

floors_given : {A : Type 0} (p : Program A) (to : Option Receiver) (v : Option ℕ) (fs : List SlotFrame) (x : ℕ) → Floors x (given p to v fs) → FloorFits fs x
floors_given p to v [] x h = h
floors_given p to v (f ∷ fs) x h = h.0

given_slots : (to : Option Receiver) (v : Option ℕ) (fs : List SlotFrame) → ReceiverFits fs to → FitsFrame stays (received to v) fs
given_slots None v [] h = (refl, refl)
given_slots None v (f ∷ fs) h = no_slots (length f.slots)
given_slots (Some to) v [] h = absurd h
given_slots (Some to) v (f ∷ fs) h = one_slot to.slot (length f.slots) v h

returned_in : {A : Type 0} (p : Program A) (fs : List SlotFrame) (m : Buffers) (out : List ℕ) (st : Status) (f : SlotFrame) (t : ℕ) (v : Option ℕ) → IsMachine (whole p fs m out st)
    → (MayReturn p fs f t → Fits (returned_move f t v) (whole p fs m out st)) × (Fits (returned_move f t v) (whole p fs m out st) → MayReturn p fs f t)
returned_in p fs m out st f t v ok = (
  λ l. let floors : Floors f.floor (given p f.result v fs) = given_floors p f.result v fs m.top f.floor ok.floors l.low in
      let base : stack_base ≤ f.floor = floor_low f.floor (given p f.result v fs) floors in
      let up = l.floor in
      record {
        added = not_added;
        frame = given_slots f.result v fs l.receiver;
        bytes = tt;
        top = (omega (arith, base, up), l.high);
        output = tt;
        machine = record {
          few = let n = l.few in omega (arith, n, given_count p f.result v fs);
          frames = (l.frame, given_receiver p f.result v fs l.receiver, given_frames p f.result v fs ok.frames);
          some = tt;
          floors = (l.floor, floors);
          output = ok.output;
        };
      },
  λ h. record {
    few = let n = h.machine.few in omega (arith, n, given_count p f.result v fs);
    high = h.top.1;
    floor = h.machine.floors.0;
    low = floors_given p f.result v fs f.floor h.machine.floors.1;
    frame = h.machine.frames.0;
    receiver = receiver_given p f.result v fs h.machine.frames.1;
  },
)

pub returned_fits : {A : Type 0} (m now : Whole A) (f : SlotFrame) (t : ℕ) (v : Option ℕ) → m ≡ now → IsMachine m
    → (MayReturn m.program m.frames f t → Fits (returned_move f t v) now) × (Fits (returned_move f t v) now → MayReturn m.program m.frames f t)
returned_fits m now f t v same ok =
    let both = returned_in m.program m.frames m.memory m.output m.status f t v ok in
    (λ l. subst (Fits (returned_move f t v)) same (both.0 l), λ h. both.1 (subst (Fits (returned_move f t v)) (sym same) h))
