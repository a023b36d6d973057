-- From the frame that entered a block to all frames.
use Rattle.std.specs.Prelude.{slice_get, IfErr, OnErr}
use Rattle.std.specs.List.{All}
use Rattle.std.proofs.Common.{◌≡◌, ◌↔◌, refl, Bool, IsTrue, ℕ, List, [], ◌∷◌, Option, Some, Result, Ok, Err, OnOk, IfOk, length, slice_set, reverse, sym, ap, subst, ◌∙◌}
use Rattle.qil_code.specs.declared.numbered.Slot.{Slot}
use Rattle.qil_code.specs.declared.numbered.PhiMove.{PhiMove}
use Rattle.qil_frames.specs.declared.saved.SavedSlot.{SavedSlot}
use Rattle.qil_frames.specs.declared.saved.PhiFault.{PhiFault}
use Rattle.qil_frames.specs.declared.saved.PhiFault.TheVariants.{Unset, OutOfMemory}
use Rattle.qil_code.specs.Ranges.{MoveInRange}
use Rattle.qil_frames.specs.Frames.{SlotFrame, HasFrame, on_innermost, at_place}
use Rattle.qil_frames.specs.Enter.{gathered, written, enters, entered_by, returned, LeftBlock, HasMoves, HasLeft, Explains, Fits, AreSlots}
use Rattle.qil_frames.specs.Kept.{slots_by, HasEntered}
use Rattle.qil_frames.proofs.ValueLemmas.{length-put_back}
use Rattle.qil_frames.proofs.Innermost.{IsInnermost}

pub moves_frame : (zs : List SlotFrame) (ms : List PhiMove) → HasMoves zs ms → HasFrame zs
moves_frame [] ms h = h
moves_frame (f ∷ fs) ms h = tt

pub fits_frame : (kept : LeftBlock) (zs : List SlotFrame) → Fits kept zs → HasFrame zs
fits_frame kept [] h = h
fits_frame kept (f ∷ fs) h = tt

-- ---- one frame

enters_slots : (b : ℕ) (f : SlotFrame) (fs : List SlotFrame) (vs : List (Option ℕ)) (r : Result (List SavedSlot) Slot) → slots_by f.slots r ≡ Ok vs → enters b f fs r ≡ Ok (at_place b 0 (record f { slots = vs }) ∷ fs)
enters_slots b f fs vs (Ok ks) e =
    let w : written ks f.slots ≡ vs = cc in
    ap (λ us. Ok (at_place b 0 (record f { slots = us }) ∷ fs)) w
enters_slots b f fs vs (Err s) e = cc

pub entered_frame : (b : ℕ) (ms : List PhiMove) (f w : SlotFrame) (fs : List SlotFrame) (kept : LeftBlock) → HasEntered b ms f w kept → entered_by (f ∷ fs) b ms ≡ Ok (w ∷ fs)
entered_frame b ms f w fs kept h = enters_slots b f fs w.slots (gathered f.slots ms) h.done.after ∙ ap (λ u. Ok (u ∷ fs)) (sym h.frame)

pub returned_frame : (b : ℕ) (ms : List PhiMove) (f w : SlotFrame) (kept : LeftBlock) → HasEntered b ms f w kept → returned kept w ≡ f
returned_frame b ms f w kept h =
    ap (returned kept) h.frame
    ∙ ap (λ us. at_place kept.block kept.index (record f { slots = us })) h.done.undo
    ∙ ap (λ n. at_place n kept.index f) h.block
    ∙ ap (λ n. at_place f.block n f) h.index

pub fits_new : (b : ℕ) (ms : List PhiMove) (f w : SlotFrame) (kept : LeftBlock) → HasEntered b ms f w kept → AreSlots kept.slots (length w.slots)
fits_new b ms f w kept h =
    let same : length f.slots ≡ length w.slots = ap length (sym h.done.undo) ∙ length-put_back kept.slots w.slots in
    subst (AreSlots kept.slots) same h.done.fits

enters_explains : (b : ℕ) (f : SlotFrame) (fs : List SlotFrame) (e : PhiFault) (r : Result (List SavedSlot) Slot) → Explains e r → Explains e (enters b f fs r)
enters_explains b f fs (Unset s) (Ok ks) h = absurd (cc)
enters_explains b f fs (Unset s) (Err t) h =
    let same : t ≡ s = cc in
    ap (λ u. Err u) same
enters_explains b f fs OutOfMemory (Ok ks) h = refl
enters_explains b f fs OutOfMemory (Err t) h = absurd (cc)

-- ---- all frames

pub moves_here : (xs zs : List SlotFrame) (n : ℕ) (f : SlotFrame) (ms : List PhiMove) → IsInnermost xs zs n f → HasMoves zs ms → All (MoveInRange (length f.slots)) ms
moves_here xs zs n f ms s h = subst (λ fs. HasMoves fs ms) s.was h

pub all_entered : (xs zs : List SlotFrame) (n : ℕ) (f w : SlotFrame) (b : ℕ) (ms : List PhiMove) (r : Result LeftBlock PhiFault) → IsInnermost xs zs n f → IfOk r (λ kept. HasEntered b ms f w kept) → OnOk r (entered_by zs b ms ≡ Ok (reverse (slice_set xs n w)))
all_entered xs zs n f w b ms (Ok kept) s h =
    ap (λ us. entered_by us b ms) s.was ∙ entered_frame b ms f w s.callers kept h ∙ ap (λ us. Ok us) (sym (s.now w))
all_entered xs zs n f w b ms (Err e) s h = tt

pub all_returned : (xs zs : List SlotFrame) (n : ℕ) (f w : SlotFrame) (b : ℕ) (ms : List PhiMove) (r : Result LeftBlock PhiFault) → IsInnermost xs zs n f → IfOk r (λ kept. HasEntered b ms f w kept) → IfOk r (λ kept. on_innermost (returned kept) (reverse (slice_set xs n w)) ≡ zs)
all_returned xs zs n f w b ms (Ok kept) s h =
    ap (on_innermost (returned kept)) (s.now w) ∙ ap (λ u. u ∷ s.callers) (returned_frame b ms f w kept h) ∙ sym s.was
all_returned xs zs n f w b ms (Err e) s h = tt

pub all_fit : (xs zs : List SlotFrame) (n : ℕ) (f w : SlotFrame) (b : ℕ) (ms : List PhiMove) (r : Result LeftBlock PhiFault) → IsInnermost xs zs n f → IfOk r (λ kept. HasEntered b ms f w kept) → IfOk r (λ kept. Fits kept (reverse (slice_set xs n w)))
all_fit xs zs n f w b ms (Ok kept) s h = subst (Fits kept) (sym (s.now w)) (fits_new b ms f w kept h)
all_fit xs zs n f w b ms (Err e) s h = tt

pub all_explain : (xs zs : List SlotFrame) (n : ℕ) (f : SlotFrame) (b : ℕ) (ms : List PhiMove) (r : Result LeftBlock PhiFault) → IsInnermost xs zs n f → IfErr r (λ e. Explains e (gathered f.slots ms)) → IfErr r (λ e. Explains e (entered_by zs b ms))
all_explain xs zs n f b ms (Ok kept) s h = tt
all_explain xs zs n f b ms (Err e) s h = subst (λ fs. Explains e (entered_by fs b ms)) (sym s.was) (enters_explains b f s.callers e (gathered f.slots ms) h)

pub all_counted : (f w : SlotFrame) (b : ℕ) (ms : List PhiMove) (r : Result LeftBlock PhiFault) → IfOk r (λ kept. HasEntered b ms f w kept) → IfOk r (λ kept. length kept.slots ≡ length ms)
all_counted f w b ms (Ok kept) h = h.done.count
all_counted f w b ms (Err e) h = tt

pub all_left : (xs zs : List SlotFrame) (n : ℕ) (f w : SlotFrame) (b : ℕ) (ms : List PhiMove) (r : Result LeftBlock PhiFault) → IsInnermost xs zs n f → IfOk r (λ kept. HasEntered b ms f w kept) → IfOk r (λ kept. HasLeft kept zs)
all_left xs zs n f w b ms (Ok kept) s h = subst (HasLeft kept) (sym s.was) (h.block, h.index)
all_left xs zs n f w b ms (Err e) s h = tt

pub all_stay : (xs zs : List SlotFrame) (n : ℕ) (f w : SlotFrame) (r : Result LeftBlock PhiFault) → IsInnermost xs zs n f → OnErr r (w ≡ f) → OnErr r (reverse (slice_set xs n w) ≡ zs)
all_stay xs zs n f w (Ok kept) s h = tt
all_stay xs zs n f w (Err e) s h = s.now w ∙ ap (λ u. u ∷ s.callers) h ∙ sym s.was

-- what is put back fits where it does the innermost frame
same_slots_fit : (kept : LeftBlock) (ks : List SavedSlot) (f g : SlotFrame) (n : ℕ) → ks ≡ kept.slots → f ≡ g → n ≡ length g.slots → AreSlots ks n ≡ AreSlots kept.slots (length f.slots)
same_slots_fit kept ks f g n ek ef en = ap (λ l. AreSlots l n) ek ∙ ap (λ k. AreSlots kept.slots k) (en ∙ ap (λ (x : SlotFrame). length x.slots) (sym ef))

pub fits_innermost : (kept : LeftBlock) (ks : List SavedSlot) (fs : List SlotFrame) (g : SlotFrame) (n : ℕ) (b : Bool) → ks ≡ kept.slots → slice_get fs 0 ≡ Some g → n ≡ length g.slots → (IsTrue b ↔ AreSlots ks n) → IsTrue b ↔ Fits kept fs
fits_innermost kept ks [] g n b ek eg en h = absurd (cc)
fits_innermost kept ks (f ∷ fs) g n b ek eg en h =
    let same : f ≡ g = cc in
    subst (λ (T : Type 0). IsTrue b ↔ T) (same_slots_fit kept ks f g n ek same en) h
