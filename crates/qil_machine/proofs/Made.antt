-- What each kind of move makes: a machine, and what undoes it.
use Rattle.std.proofs.Common.{◌≡◌, ℕ, ◌+◌, ◌<◌, ◌≤◌, ◌^◌, true, false, List, [], ◌∷◌, ◌++◌, length, Option, None, Some, Result, Ok, Err, get_or, set, refl, sym, ap, subst, ◌∙◌, arith}
use Rattle.std.proofs.lemmas.List.{set-set, set-get_or, length-set, length-append}
use Rattle.std.proofs.lemmas.List.Elements.{All-nil, All-cons}
use Rattle.std.proofs.Math.Seq.{take-append_seam}
use Rattle.qil_tree.specs.declared.tree.Program.{Program}
use Rattle.qil_memory.specs.Buffers.{Buffers, stack_base, stack_end, IsMemory}
use Rattle.qil_memory.specs.Undo.{Kept, with_bytes, with_top}
use Rattle.qil_memory.specs.Undo as memory
use Rattle.qil_memory.specs.Places.{HasPlaces}
use Rattle.qil_code.specs.declared.numbered.Slot.{Slot}
use Rattle.qil_code.specs.declared.numbered.Receiver.{Receiver}
use Rattle.qil_code.specs.Numbered.{block_at}
use Rattle.qil_frames.specs.declared.saved.SavedSlot.{SavedSlot}
use Rattle.qil_frames.specs.Frames.{SlotFrame, HasFrame, HasSlot, held, on_innermost, with_slot, at_index}
use Rattle.qil_code.specs.declared.numbered.PhiMove.{PhiMove}
use Rattle.qil_frames.specs.Enter as enter
use Rattle.qil_frames.specs.Enter.{LeftBlock, gathered, written, enters, entered_by, put_back, AreSlots, Fits as PhiFits}
use Rattle.qil_frames.proofs.ValueLemmas.{length-written}
use Rattle.qil_state.specs.declared.status.Status.{Status}
use Rattle.qil_state.specs.declared.status.Status.TheVariants.{Running, Done, Exited, Faulted}
use Rattle.qil_state.specs.State.{Whole, whole, PlaceFits, FrameFits, ReceiverFits, FramesFit, Floors, FramesFor, IsMachine, IsNext}
use Rattle.qil_machine.specs.Moves.{Move, inst_count, stays, at, end_of, without, frame_back, undone, FitsFrame, FitsBytes, FitsTop, FitsOutput}
use Rattle.qil_machine.specs.Kinds.{slots_move, one, bytes_move, called_move, received, held_by, with_received, returned_move, grown_move, copied_move, wrote_move, ended_move, poked_slot_move, poked_bytes_move}
use Rattle.qil_machine.specs.Places.{IsLeaving, Made}

-- a move that gives back a machine fits where its places exist
pub made : {A : Type 0} (d : Move) (m w : Whole A) → IsMachine m → IsMachine w → undone d w ≡ m → (d.added ≡ true → HasFrame w.frames) → FitsFrame d.place d.slots (without d.added w.frames)
    → FitsBytes d.bytes w.memory → FitsTop d.top → FitsOutput d.output w.output → Made d m w
made d m w ok is undo added frame bytes top output = record {
  machine = is;
  fits = record { added = added; frame = frame; bytes = bytes; top = top; output = output; machine = subst IsMachine (sym undo) ok };
  undo = undo;
}

pub not_added : {X : Type 0} → false ≡ true → X
not_added e = absurd (cc)

pub one_slot : (s : Slot) (n : ℕ) (v : Option ℕ) → s.index < n → AreSlots (one s v) n
one_slot s n v h = let k : SavedSlot = record { slot = s; value = v } in All-cons (λ (k : SavedSlot). k.slot.index < n) k [] h (All-nil (λ (k : SavedSlot). k.slot.index < n))

pub no_slots : (n : ℕ) → AreSlots [] n
no_slots n = All-nil (λ (k : SavedSlot). k.slot.index < n)

pub set_back : (vs : List (Option ℕ)) (s : ℕ) (v : Option ℕ) → set (set vs s v) s (get_or vs s None) ≡ vs
set_back vs s v = set-set vs s v (get_or vs s None) ∙ set-get_or vs s None

-- ---- frames that are changed

-- the innermost frame of a machine at another index of its block, with other values in as many slots
pub innermost_at : {A : Type 0} (p : Program A) (f : SlotFrame) (fs : List SlotFrame) (k : ℕ) (vs : List (Option ℕ)) → FramesFit p (f ∷ fs) → PlaceFits (block_at p f.func f.block) k → length vs ≡ length f.slots
    → FramesFit p (record f { index = k; slots = vs } ∷ fs)
innermost_at p f fs k vs fit place len = (record { place = place; slots = fit.0.slots ∙ sym len }, fit.1, fit.2)

pub here_fits : {A : Type 0} (p : Program A) (f : SlotFrame) (fs : List SlotFrame) → FramesFit p (f ∷ fs) → PlaceFits (block_at p f.func f.block) f.index
here_fits p f fs fit = fit.0.place

-- ---- a slot is set, and the place is one on

pub assigned : {A : Type 0} (p : Program A) (fs : List SlotFrame) (m : Buffers) (out : List ℕ) (st : Status) (s : Slot) (k : ℕ) (v : Option ℕ) → st ≡ Running → IsMachine (whole p fs m out st) → HasSlot fs s → IsNext p fs k
    → Made (slots_move (at k) (one s (held fs s))) (whole p fs m out st) (whole p (on_innermost (at_index (k + 1)) (on_innermost (with_slot s v) fs)) m out st)
assigned p [] m out st s k v run ok h n = absurd h
assigned {A} p (f ∷ fs) m out st s k v run ok h n =
    let g : SlotFrame = record f { index = k + 1; slots = set f.slots s.index v } in
    let d : Move = slots_move (at k) (one s (get_or f.slots s.index None)) in
    let len : length (set f.slots s.index v) ≡ length f.slots = length-set f.slots s.index v in
    let undo : undone d (whole p (g ∷ fs) m out st) ≡ whole p (f ∷ fs) m out st =
    λ i. whole p (record f { index = sym n.0 i; slots = set_back f.slots s.index v i } ∷ fs) m out (sym run i) in
    made d (whole p (f ∷ fs) m out st) (whole p (g ∷ fs) m out st) ok
    (record {
      few = ok.few;
      frames = innermost_at p f fs (k + 1) (set f.slots s.index v) ok.frames n.1 len;
      some = subst (λ t. FramesFor t (g ∷ fs)) (sym run) tt;
      floors = ok.floors;
      output = ok.output;
    })
    undo not_added (one_slot s (length g.slots) (get_or f.slots s.index None) (rw len h)) tt tt tt

-- ---- bytes are written over, and the place is one on

pub stored : {A : Type 0} (p : Program A) (fs : List SlotFrame) (old m : Buffers) (out : List ℕ) (st : Status) (k a : ℕ) (bs : List ℕ) → st ≡ Running → IsMachine (whole p fs old out st) → IsNext p fs k
    → m.top ≡ old.top → HasPlaces m a bs → with_bytes m a bs ≡ old
    → Made (bytes_move k a bs) (whole p fs old out st) (whole p (on_innermost (at_index (k + 1)) fs) m out st)
stored p [] old m out st k a bs run ok n top places back = absurd n
stored p (f ∷ fs) old m out st k a bs run ok n top places back =
    let g : SlotFrame = record f { index = k + 1 } in
    let undo : undone (bytes_move k a bs) (whole p (g ∷ fs) m out st) ≡ whole p (f ∷ fs) old out st =
    λ i. whole p (record f { index = sym n.0 i } ∷ fs) (back i) out (sym run i) in
    made (bytes_move k a bs) (whole p (f ∷ fs) old out st) (whole p (g ∷ fs) m out st) ok
    (record {
      few = ok.few;
      frames = innermost_at p f fs (k + 1) f.slots ok.frames n.1 refl;
      some = subst (λ t. FramesFor t (g ∷ fs)) (sym run) tt;
      floors = subst (λ t. Floors t (f ∷ fs)) (sym top) ok.floors;
      output = ok.output;
    })
    undo not_added (no_slots (length f.slots)) places tt tt

-- ---- bytes are written, a slot is set or none, and the place is one on

wrote_frame : SlotFrame → ℕ → Option Receiver → Option ℕ → SlotFrame
wrote_frame f k to v = at_index k (with_received to v f)

received_length : (to : Option Receiver) (v : Option ℕ) (f : SlotFrame) → length (with_received to v f).slots ≡ length f.slots
received_length None v f = refl
received_length (Some to) v f = length-set f.slots to.slot.index v

received_slots : (to : Option Receiver) (v : Option ℕ) (f : SlotFrame) (fs : List SlotFrame) → ReceiverFits (f ∷ fs) to → AreSlots (received to v) (length f.slots)
received_slots None v f fs h = no_slots (length f.slots)
received_slots (Some to) v f fs h = one_slot to.slot (length f.slots) v h

received_back : (to : Option Receiver) (v : Option ℕ) (f : SlotFrame) (fs : List SlotFrame) → put_back (received to (held_by to (f ∷ fs))) (with_received to v f).slots ≡ f.slots
received_back None v f fs = refl
received_back (Some to) v f fs = set_back f.slots to.slot.index v

received_rest : (to : Option Receiver) (v : Option ℕ) (f : SlotFrame) → with_received to v f ≡ record f { slots = (with_received to v f).slots }
received_rest None v f = refl
received_rest (Some to) v f = refl

pub wrote : {A : Type 0} (p : Program A) (fs : List SlotFrame) (m : Buffers) (out bytes : List ℕ) (st : Status) (to : Option Receiver) (k : ℕ) (v : Option ℕ) → st ≡ Running → IsMachine (whole p fs m out st) → ReceiverFits fs to → IsNext p fs k
    → length (out ++ bytes) ≤ 2 ^ 20
    → Made (wrote_move k (length out) (received to (held_by to fs))) (whole p fs m out st) (whole p (on_innermost (at_index (k + 1)) (on_innermost (with_received to v) fs)) m (out ++ bytes) st)
wrote p [] m out bytes st to k v run ok h n few = absurd n
wrote {A} p (f ∷ fs) m out bytes st to k v run ok h n few =
    let vs : List (Option ℕ) = (with_received to v f).slots in
    let g : SlotFrame = record f { index = k + 1; slots = vs } in
    let g0 : SlotFrame = at_index (k + 1) (with_received to v f) in
    let same : g ≡ g0 = ap (at_index (k + 1)) (sym (received_rest to v f)) in
    let old : Option ℕ = held_by to (f ∷ fs) in
    let d : Move = wrote_move k (length out) (received to old) in
    let undo : undone d (whole p (g ∷ fs) m (out ++ bytes) st) ≡ whole p (f ∷ fs) m out st =
    λ i. whole p (record f { index = sym n.0 i; slots = received_back to v f fs i } ∷ fs) m (take-append_seam out bytes i) (sym run i) in
    subst (λ h. Made d (whole p (f ∷ fs) m out st) (whole p (h ∷ fs) m (out ++ bytes) st)) same
    (made d (whole p (f ∷ fs) m out st) (whole p (g ∷ fs) m (out ++ bytes) st) ok
    (record {
      few = ok.few;
      frames = innermost_at p f fs (k + 1) vs ok.frames n.1 (received_length to v f);
      some = subst (λ t. FramesFor t (g ∷ fs)) (sym run) tt;
      floors = ok.floors;
      output = few;
    })
    undo not_added (subst (AreSlots (received to old)) (sym (received_length to v f)) (received_slots to old f fs h)) tt tt (omega (arith, length-append out bytes)))

-- ---- the stack grows, a slot is set, and the place is one on

pub grown : {A : Type 0} (p : Program A) (fs : List SlotFrame) (old m : Buffers) (out : List ℕ) (st : Status) (s : Slot) (k : ℕ) (v : Option ℕ) (saved : Kept) → st ≡ Running → IsMachine (whole p fs old out st) → IsMemory old → HasSlot fs s → IsNext p fs k
    → old.top ≤ m.top → HasPlaces m saved.address saved.bytes → memory.undone saved m ≡ old
    → Made (grown_move k s (held fs s) saved) (whole p fs old out st) (whole p (on_innermost (at_index (k + 1)) (on_innermost (with_slot s v) fs)) m out st)
grown p [] old m out st s k v saved run ok mem h n up places back = absurd h
grown {A} p (f ∷ fs) old m out st s k v saved run ok mem h n up places back =
    let g : SlotFrame = record f { index = k + 1; slots = set f.slots s.index v } in
    let d : Move = grown_move k s (get_or f.slots s.index None) saved in
    let len : length (set f.slots s.index v) ≡ length f.slots = length-set f.slots s.index v in
    let top : saved.top ≡ old.top = ap (λ (b : Buffers). b.top) back in
    let undo : undone d (whole p (g ∷ fs) m out st) ≡ whole p (f ∷ fs) old out st =
    λ i. whole p (record f { index = sym n.0 i; slots = set_back f.slots s.index v i } ∷ fs) (back i) out (sym run i) in
    made d (whole p (f ∷ fs) old out st) (whole p (g ∷ fs) m out st) ok
    (record {
      few = ok.few;
      frames = innermost_at p f fs (k + 1) (set f.slots s.index v) ok.frames n.1 len;
      some = subst (λ t. FramesFor t (g ∷ fs)) (sym run) tt;
      floors = (let low = ok.floors.0 in omega (arith, low, up), ok.floors.1);
      output = ok.output;
    })
    undo not_added (one_slot s (length g.slots) (get_or f.slots s.index None) (rw len h)) places
    (subst (λ t. (stack_base ≤ t) × (t ≤ stack_end)) (sym top) (mem.low, mem.high)) tt

-- ---- bytes are copied, and the place is one on

pub copied : {A : Type 0} (p : Program A) (fs : List SlotFrame) (old m : Buffers) (out : List ℕ) (st : Status) (k : ℕ) (saved : Kept) → st ≡ Running → IsMachine (whole p fs old out st) → IsMemory old → IsNext p fs k
    → m.top ≡ old.top → HasPlaces m saved.address saved.bytes → memory.undone saved m ≡ old
    → Made (copied_move k saved) (whole p fs old out st) (whole p (on_innermost (at_index (k + 1)) fs) m out st)
copied p [] old m out st k saved run ok mem n same places back = absurd n
copied {A} p (f ∷ fs) old m out st k saved run ok mem n same places back =
    let g : SlotFrame = record f { index = k + 1 } in
    let top : saved.top ≡ old.top = ap (λ (b : Buffers). b.top) back in
    let undo : undone (copied_move k saved) (whole p (g ∷ fs) m out st) ≡ whole p (f ∷ fs) old out st =
    λ i. whole p (record f { index = sym n.0 i } ∷ fs) (back i) out (sym run i) in
    made (copied_move k saved) (whole p (f ∷ fs) old out st) (whole p (g ∷ fs) m out st) ok
    (record {
      few = ok.few;
      frames = innermost_at p f fs (k + 1) f.slots ok.frames n.1 refl;
      some = subst (λ t. FramesFor t (g ∷ fs)) (sym run) tt;
      floors = subst (λ t. Floors t (f ∷ fs)) (sym same) ok.floors;
      output = ok.output;
    })
    undo not_added (no_slots (length f.slots)) places
    (subst (λ t. (stack_base ≤ t) × (t ≤ stack_end)) (sym top) (mem.low, mem.high)) tt

-- ---- the run ends

pub ended : {A : Type 0} (p : Program A) (fs : List SlotFrame) (m : Buffers) (out : List ℕ) (st st2 : Status) → st ≡ Running → IsMachine (whole p fs m out st) → FramesFor st2 fs
    → Made ended_move (whole p fs m out st) (whole p fs m out st2)
ended p [] m out st st2 run ok some = absurd (subst (λ t. FramesFor t []) run ok.some)
ended p (f ∷ fs) m out st st2 run ok some =
    made ended_move (whole p (f ∷ fs) m out st) (whole p (f ∷ fs) m out st2) ok
    (record { few = ok.few; frames = ok.frames; some = some; floors = ok.floors; output = ok.output })
    (λ i. whole p (f ∷ fs) m out (sym run i)) not_added (no_slots (length f.slots)) tt tt tt

-- ---- a frame is added

receiver_still : (f : SlotFrame) (k : ℕ) (fs : List SlotFrame) (to : Option Receiver) → ReceiverFits (f ∷ fs) to → ReceiverFits (record f { index = k } ∷ fs) to
receiver_still f k fs None h = tt
receiver_still f k fs (Some to) h = h

pub called : {A : Type 0} (p : Program A) (g : SlotFrame) (fs : List SlotFrame) (m : Buffers) (out : List ℕ) (st : Status) (k : ℕ) → st ≡ Running → IsMachine (whole p fs m out st) → IsNext p fs k
    → length fs < 1000 → FrameFits p g → ReceiverFits fs g.result → g.floor ≡ m.top
    → Made (called_move k) (whole p fs m out st) (whole p (g ∷ on_innermost (at_index (k + 1)) fs) m out st)
called p g [] m out st k run ok n few fits to floor = absurd n
called {A} p g (f ∷ fs) m out st k run ok n few fits to floor =
    let h : SlotFrame = record f { index = k + 1 } in
    let undo : undone (called_move k) (whole p (g ∷ (h ∷ fs)) m out st) ≡ whole p (f ∷ fs) m out st =
    λ i. whole p (record f { index = sym n.0 i } ∷ fs) m out (sym run i) in
    made (called_move k) (whole p (f ∷ fs) m out st) (whole p (g ∷ (h ∷ fs)) m out st) ok
    (record {
      few = omega (arith, few);
      frames = (fits, receiver_still f (k + 1) fs g.result to, innermost_at p f fs (k + 1) f.slots ok.frames n.1 refl);
      some = subst (λ t. FramesFor t (g ∷ (h ∷ fs))) (sym run) tt;
      floors = (omega (arith, floor), subst (λ t. Floors t (f ∷ fs)) (sym floor) ok.floors);
      output = ok.output;
    })
    undo (λ e. tt) (no_slots (length f.slots)) tt tt tt

-- ---- a frame goes away, and its caller takes what was returned

pub floor_low : (t : ℕ) (fs : List SlotFrame) → Floors t fs → stack_base ≤ t
floor_low t [] h = h
floor_low t (f ∷ fs) h = let k : stack_base ≤ f.floor = floor_low f.floor fs h.1 in let e = h.0 in omega (arith, k, e)

received_fits : {A : Type 0} (p : Program A) (to : Option Receiver) (v : Option ℕ) (fs : List SlotFrame) → FramesFit p fs → FramesFit p (on_innermost (with_received to v) fs)
received_fits p to v [] h = tt
received_fits p None v (f ∷ fs) h = h
received_fits p (Some to) v (f ∷ fs) h = innermost_at p f fs f.index (set f.slots to.slot.index v) h (here_fits p f fs h) (length-set f.slots to.slot.index v)

received_floors : (to : Option Receiver) (v : Option ℕ) (t : ℕ) (fs : List SlotFrame) → Floors t fs → Floors t (on_innermost (with_received to v) fs)
received_floors to v t [] h = h
received_floors None v t (f ∷ fs) h = h
received_floors (Some to) v t (f ∷ fs) h = h

received_count : (to : Option Receiver) (v : Option ℕ) (fs : List SlotFrame) → length (on_innermost (with_received to v) fs) ≡ length fs
received_count to v [] = refl
received_count to v (f ∷ fs) = refl

received_undone : {A : Type 0} (p : Program A) (to : Option Receiver) (v : Option ℕ) (fs : List SlotFrame) → on_innermost (frame_back p stays (received to (held_by to fs))) (on_innermost (with_received to v) fs) ≡ fs
received_undone p to v [] = refl
received_undone p None v (f ∷ fs) = refl
received_undone p (Some to) v (f ∷ fs) = λ i. record f { slots = set_back f.slots to.slot.index v i } ∷ fs

received_frame : (to : Option Receiver) (v w : Option ℕ) (fs : List SlotFrame) → ReceiverFits fs to → FitsFrame stays (received to w) (on_innermost (with_received to v) fs)
received_frame None v w [] h = (refl, refl)
received_frame (Some to) v w [] h = absurd h
received_frame to v w (f ∷ fs) h = subst (AreSlots (received to w)) (sym (received_length to v f)) (received_slots to w f fs h)

pub returned : {A : Type 0} (p : Program A) (f : SlotFrame) (fs : List SlotFrame) (m : Buffers) (out : List ℕ) (st st2 : Status) (v : Option ℕ) → st ≡ Running → IsMachine (whole p (f ∷ fs) m out st) → IsMemory m
    → FramesFor st2 (on_innermost (with_received f.result v) fs)
    → Made (returned_move f m.top (held_by f.result fs)) (whole p (f ∷ fs) m out st) (whole p (on_innermost (with_received f.result v) fs) (with_top m f.floor) out st2)
returned {A} p f fs m out st st2 v run ok mem some =
    let gs : List SlotFrame = on_innermost (with_received f.result v) fs in
    let d : Move = returned_move f m.top (held_by f.result fs) in
    let undo : undone d (whole p gs (with_top m f.floor) out st2) ≡ whole p (f ∷ fs) m out st =
    λ i. whole p (f ∷ received_undone p f.result v fs i) m out (sym run i) in
    let few = ok.few in
    made d (whole p (f ∷ fs) m out st) (whole p gs (with_top m f.floor) out st2) ok
    (record {
      few = omega (arith, few, received_count f.result v fs);
      frames = received_fits p f.result v fs ok.frames.2;
      some = some;
      floors = received_floors f.result v f.floor fs ok.floors.1;
      output = ok.output;
    })
    undo not_added (received_frame f.result v (held_by f.result fs) fs ok.frames.1) tt (mem.low, mem.high) tt

-- ---- another block is entered

err_ok : {X Y Z : Type 0} {e : Y} {x : X} → Err e ≡ Ok x → Z
err_ok e = absurd (subst (λ o. elim o as (λ _. Type 0) [ Ok x ↦ ⊥ | Err y ↦ Unit {0} ]) e tt)

abbrev frames_or : List SlotFrame → Result (List SlotFrame) Slot → List SlotFrame
frames_or other (Ok fs) = fs
frames_or other (Err s) = other

left_by : {A : Type 0} (p : Program A) (f : SlotFrame) (fs gs : List SlotFrame) (m : Buffers) (out : List ℕ) (st : Status) (to : ℕ) (kept : LeftBlock) (o : Result (List SavedSlot) Slot) → st ≡ Running → IsMachine (whole p (f ∷ fs) m out st) → IsLeaving p (f ∷ fs) to
    → enters to f fs o ≡ Ok gs → PhiFits kept gs → on_innermost (enter.returned kept) gs ≡ f ∷ fs → kept.block ≡ f.block → kept.index ≡ f.index
    → Made (slots_move (end_of kept.block) kept.slots) (whole p (f ∷ fs) m out st) (whole p gs m out st)
left_by p f fs gs m out st to kept (Err s) run ok n e fits back b k = err_ok e
left_by {A} p f fs gs m out st to kept (Ok ks) run ok n e fits back b k =
    let vs : List (Option ℕ) = written ks f.slots in
    let g : SlotFrame = record f { block = to; index = 0; slots = vs } in
    let same : g ∷ fs ≡ gs = ap (frames_or []) e in
    let d : Move = slots_move (end_of kept.block) kept.slots in
    let back2 : enter.returned kept g ∷ fs ≡ f ∷ fs = ap (on_innermost (enter.returned kept)) same ∙ back in
    let place : inst_count (block_at p f.func kept.block) ≡ kept.index = ap (λ j. inst_count (block_at p f.func j)) b ∙ sym n.0 ∙ sym k in
    let undo : undone d (whole p (g ∷ fs) m out st) ≡ whole p (f ∷ fs) m out st =
    (λ i. whole p (record f { block = kept.block; index = place i; slots = put_back kept.slots vs } ∷ fs) m out Running)
    ∙ (λ i. whole p (back2 i) m out (sym run i)) in
    subst (λ hs. Made d (whole p (f ∷ fs) m out st) (whole p hs m out st)) same
    (made d (whole p (f ∷ fs) m out st) (whole p (g ∷ fs) m out st) ok
    (record {
      few = ok.few;
      frames = (record { place = n.1; slots = ok.frames.0.slots ∙ sym (length-written ks f.slots) }, ok.frames.1, ok.frames.2);
      some = subst (λ t. FramesFor t (g ∷ fs)) (sym run) tt;
      floors = ok.floors;
      output = ok.output;
    })
    undo not_added (subst (PhiFits kept) (sym same) fits) tt tt tt)

pub left : {A : Type 0} (p : Program A) (f : SlotFrame) (fs gs : List SlotFrame) (m : Buffers) (out : List ℕ) (st : Status) (to : ℕ) (ms : List PhiMove) (kept : LeftBlock) → st ≡ Running → IsMachine (whole p (f ∷ fs) m out st) → IsLeaving p (f ∷ fs) to
    → entered_by (f ∷ fs) to ms ≡ Ok gs → PhiFits kept gs → on_innermost (enter.returned kept) gs ≡ f ∷ fs → kept.block ≡ f.block → kept.index ≡ f.index
    → Made (slots_move (end_of kept.block) kept.slots) (whole p (f ∷ fs) m out st) (whole p gs m out st)
left p f fs gs m out st to ms kept run ok n e fits back b k = left_by p f fs gs m out st to kept (gathered f.slots ms) run ok n e fits back b k

-- ---- pokes

pub still_for : (st : Status) (f g : SlotFrame) (fs : List SlotFrame) → FramesFor st (f ∷ fs) → FramesFor st (g ∷ fs)
still_for Running f g fs h = tt
still_for (Done v) f g fs h = absurd (cc)
still_for (Exited w) f g fs h = tt
still_for (Faulted why) f g fs h = tt

nothing_back : {A : Type 0} (p : Program A) (fs : List SlotFrame) → on_innermost (frame_back p stays []) fs ≡ fs
nothing_back p [] = refl
nothing_back p (f ∷ fs) = refl

nothing_kept : (fs : List SlotFrame) → FitsFrame stays [] fs
nothing_kept [] = (refl, refl)
nothing_kept (f ∷ fs) = no_slots (length f.slots)

pub poked_slot : {A : Type 0} (p : Program A) (fs : List SlotFrame) (m : Buffers) (out : List ℕ) (st : Status) (s : Slot) (v : Option ℕ) → IsMachine (whole p fs m out st) → HasSlot fs s
    → Made (poked_slot_move s (held fs s)) (whole p fs m out st) (whole p (on_innermost (with_slot s v) fs) m out st)
poked_slot p [] m out st s v ok h = absurd h
poked_slot {A} p (f ∷ fs) m out st s v ok h =
    let vs : List (Option ℕ) = set f.slots s.index v in
    let g : SlotFrame = record f { slots = vs } in
    let d : Move = poked_slot_move s (get_or f.slots s.index None) in
    let len : length vs ≡ length f.slots = length-set f.slots s.index v in
    made d (whole p (f ∷ fs) m out st) (whole p (g ∷ fs) m out st) ok
    (record {
      few = ok.few;
      frames = innermost_at p f fs f.index vs ok.frames (here_fits p f fs ok.frames) len;
      some = still_for st f g fs ok.some;
      floors = ok.floors;
      output = ok.output;
    })
    (λ i. whole p (record f { slots = set_back f.slots s.index v i } ∷ fs) m out st) not_added (one_slot s (length g.slots) (get_or f.slots s.index None) (rw len h)) tt tt tt

pub poked_bytes : {A : Type 0} (p : Program A) (fs : List SlotFrame) (old m : Buffers) (out : List ℕ) (st : Status) (a : ℕ) (bs : List ℕ) → IsMachine (whole p fs old out st)
    → m.top ≡ old.top → HasPlaces m a bs → with_bytes m a bs ≡ old → Made (poked_bytes_move a bs) (whole p fs old out st) (whole p fs m out st)
poked_bytes {A} p fs old m out st a bs ok top places back =
    made (poked_bytes_move a bs) (whole p fs old out st) (whole p fs m out st) ok
    (record { few = ok.few; frames = ok.frames; some = ok.some; floors = subst (λ t. Floors t fs) (sym top) ok.floors; output = ok.output })
    ((λ i. whole p (nothing_back p fs i) (back i) out st)) not_added (nothing_kept fs) places tt tt
