-- What the kinds of moves make, from what a machine's type keeps to what its definitions see.
use Rattle.std.proofs.Common.{◌≡◌, ℕ, ◌+◌, ◌≤◌, List, [], ◌∷◌, Option, Ok, refl, sym, ap, subst, ◌∙◌}
use Rattle.qil_memory.specs.Buffers.{Buffers, stack_base, IsMemory}
use Rattle.qil_memory.specs.Undo.{Kept, with_bytes, with_top}
use Rattle.qil_memory.specs.Undo as memory
use Rattle.qil_memory.specs.Places.{HasPlaces}
use Rattle.qil_memory.proofs.Undoing.{places_of}
use Rattle.qil_code.specs.declared.numbered.Slot.{Slot}
use Rattle.qil_code.specs.declared.numbered.Receiver.{Receiver}
use Rattle.qil_code.specs.declared.numbered.PhiMove.{PhiMove}
use Rattle.qil_tree.specs.declared.tree.Program.{Program}
use Rattle.qil_frames.specs.Enter as enter
use Rattle.qil_frames.specs.Enter.{LeftBlock, entered_by, HasLeft, Fits as PhiFits}
use Rattle.qil_frames.specs.Frames.{SlotFrame, HasSlot, held, on_innermost, with_slot, at_index}
use Rattle.qil_state.specs.declared.status.Status.{Status}
use Rattle.qil_state.specs.declared.status.Status.TheVariants.{Running}
use Rattle.qil_state.specs.State.{Whole, whole, IsMachine, FramesFor, Floors, IsNext}
use Rattle.qil_machine.specs.Moves.{Move, at, end_of}
use Rattle.qil_machine.specs.Kinds.{slots_move, one, bytes_move, copied_move, grown_move, returned_move, held_by, with_received}
use Rattle.qil_machine.specs.Places.{IsRunning, IsLeaving, Made}
use Rattle.qil_machine.specs.Results.{gives, received_value, status_after}
use Rattle.qil_machine.proofs.Made.{assigned, stored, copied, grown, returned, left, floor_low}

-- a machine with other frames and another memory, from what its type keeps to what its definitions see
pub moved : {A : Type 0} (m now : Whole A) (to : Whole A → List SlotFrame) (gs : List SlotFrame) (mem : Buffers) → m ≡ now → gs ≡ to m → whole m.program gs mem m.output m.status ≡ record now { frames = to now; memory = mem }
moved {A} m now to gs mem same e =
    subst (λ (w : Whole A). whole m.program gs mem m.output m.status ≡ record w { frames = to w; memory = mem }) same (ap (λ fs. whole m.program fs mem m.output m.status) e)

-- the same machine, where its memory is as it was
pub still_seen : {A : Type 0} (m now : Whole A) (mem : Buffers) → m ≡ now → mem ≡ m.memory → whole m.program m.frames mem m.output m.status ≡ now
still_seen m now mem same e = ap (λ b. whole m.program m.frames b m.output m.status) e ∙ same

pub still_machine : {A : Type 0} (m : Whole A) (mem : Buffers) → IsMachine m → mem ≡ m.memory → IsMachine (whole m.program m.frames mem m.output m.status)
still_machine m mem ok e = subst (λ b. IsMachine (whole m.program m.frames b m.output m.status)) (sym e) ok

pub assigned_made : {A : Type 0} (m now : Whole A) (d : Move) (s : Slot) (k : ℕ) (v old : Option ℕ) (hs gs : List SlotFrame) → m ≡ now → IsMachine m → IsRunning now → HasSlot now.frames s → IsNext now.program now.frames k
    → hs ≡ on_innermost (with_slot s v) m.frames → old ≡ held m.frames s → gs ≡ on_innermost (at_index (k + 1)) hs → d ≡ slots_move (at k) (one s old)
    → Made d now (whole m.program gs m.memory m.output m.status)
assigned_made {A} m now d s k v old hs gs same ok run h n eh eo eg ed =
    subst (λ (w : Whole A). IsRunning w → HasSlot w.frames s → IsNext w.program w.frames k → Made d w (whole m.program gs m.memory m.output m.status)) same
    (λ run h n. rw (ed, eo, eg, eh) (assigned m.program m.frames m.memory m.output m.status s k v run ok h n)) run h n

pub stored_made : {A : Type 0} (m now : Whole A) (d : Move) (k a : ℕ) (bs : List ℕ) (gs : List SlotFrame) (mem : Buffers) → m ≡ now → IsMachine m → IsRunning now → IsNext now.program now.frames k
    → mem.top ≡ m.memory.top → HasPlaces mem a bs → with_bytes mem a bs ≡ m.memory → gs ≡ on_innermost (at_index (k + 1)) m.frames → d ≡ bytes_move k a bs
    → Made d now (whole m.program gs mem m.output m.status)
stored_made {A} m now d k a bs gs mem same ok run n top places back eg ed =
    subst (λ (w : Whole A). IsRunning w → IsNext w.program w.frames k → Made d w (whole m.program gs mem m.output m.status)) same
    (λ run n. rw (ed, eg) (stored m.program m.frames m.memory mem m.output m.status k a bs run ok n top places back)) run n

pub copied_made : {A : Type 0} (m now : Whole A) (d : Move) (k : ℕ) (saved : Kept) (gs : List SlotFrame) (mem : Buffers) → m ≡ now → IsMachine m → IsMemory m.memory → IsMemory mem → IsRunning now → IsNext now.program now.frames k
    → mem.top ≡ m.memory.top → memory.Fits saved mem → memory.undone saved mem ≡ m.memory → gs ≡ on_innermost (at_index (k + 1)) m.frames → d ≡ copied_move k saved
    → Made d now (whole m.program gs mem m.output m.status)
copied_made {A} m now d k saved gs mem same ok is is2 run n top fits back eg ed =
    subst (λ (w : Whole A). IsRunning w → IsNext w.program w.frames k → Made d w (whole m.program gs mem m.output m.status)) same
    (λ run n. rw (ed, eg) (copied m.program m.frames m.memory mem m.output m.status k saved run ok is n top (places_of saved mem is2 fits) back)) run n

pub grown_made : {A : Type 0} (m now : Whole A) (d : Move) (s : Slot) (k : ℕ) (v old : Option ℕ) (saved : Kept) (hs gs : List SlotFrame) (mem : Buffers) → m ≡ now → IsMachine m → IsMemory m.memory → IsMemory mem → IsRunning now → HasSlot now.frames s → IsNext now.program now.frames k
    → m.memory.top ≤ mem.top → memory.Fits saved mem → memory.undone saved mem ≡ m.memory → hs ≡ on_innermost (with_slot s v) m.frames → old ≡ held m.frames s → gs ≡ on_innermost (at_index (k + 1)) hs → d ≡ grown_move k s old saved
    → Made d now (whole m.program gs mem m.output m.status)
grown_made {A} m now d s k v old saved hs gs mem same ok is is2 run h n up fits back eh eo eg ed =
    subst (λ (w : Whole A). IsRunning w → HasSlot w.frames s → IsNext w.program w.frames k → Made d w (whole m.program gs mem m.output m.status)) same
    (λ run h n. rw (ed, eo, eg, eh) (grown m.program m.frames m.memory mem m.output m.status s k v saved run ok is h n up (places_of saved mem is2 fits) back)) run h n

-- ---- returns

status_fits : (fs : List SlotFrame) (to : Option Receiver) (v w : Option ℕ) → FramesFor (status_after fs v) (on_innermost (with_received to w) fs)
status_fits [] to v w = refl
status_fits (f ∷ fs) to v w = tt

status_gives : (to : Option Receiver) (v : Option ℕ) (fs : List SlotFrame) → status_after (gives to v fs) v ≡ status_after fs v
status_gives to v [] = refl
status_gives to v (f ∷ fs) = refl

-- the floor of the innermost frame is on the stack
pub innermost_floor : {A : Type 0} (m : Whole A) (f : SlotFrame) (fs : List SlotFrame) → IsMachine m → m.frames ≡ f ∷ fs → stack_base ≤ f.floor
innermost_floor m f fs ok e = floor_low f.floor fs (subst (Floors m.memory.top) e ok.floors).1

pub returned_made : {A : Type 0} (m now : Whole A) (d : Move) (f : SlotFrame) (fs gs : List SlotFrame) (mem : Buffers) (t : ℕ) (v old : Option ℕ) (st : Status) → m ≡ now → IsMachine m → IsMemory m.memory → IsRunning now
    → m.frames ≡ f ∷ fs → mem ≡ with_top m.memory f.floor → gs ≡ gives f.result v fs → old ≡ held_by f.result fs → t ≡ m.memory.top → st ≡ status_after gs v → d ≡ returned_move f t old
    → Made d now (whole m.program gs mem m.output st)
returned_made {A} m now d f fs gs mem t v old st same ok is run ef em eg eo et es ed =
    subst (λ (w : Whole A). IsRunning w → Made d w (whole m.program gs mem m.output st)) same
    (λ run. rw (ed, eo, et, em, es ∙ ap (λ l. status_after l v) eg ∙ status_gives f.result v fs, eg)
    (subst (λ l. Made (returned_move f m.memory.top (held_by f.result fs)) (whole m.program l m.memory m.output m.status) (whole m.program (gives f.result v fs) (with_top m.memory f.floor) m.output (status_after fs v))) (sym ef)
    (returned m.program f fs m.memory m.output m.status (status_after fs v) (received_value f.result v) run (subst (λ l. IsMachine (whole m.program l m.memory m.output m.status)) ef ok) is
    (status_fits fs f.result v (received_value f.result v))))) run

-- ---- jumps

left_from : {A : Type 0} (p : Program A) (fs gs : List SlotFrame) (m : Buffers) (out : List ℕ) (st : Status) (to : ℕ) (ms : List PhiMove) (kept : LeftBlock) → st ≡ Running → IsMachine (whole p fs m out st) → IsLeaving p fs to
    → entered_by fs to ms ≡ Ok gs → PhiFits kept gs → on_innermost (enter.returned kept) gs ≡ fs → HasLeft kept fs
    → Made (slots_move (end_of kept.block) kept.slots) (whole p fs m out st) (whole p gs m out st)
left_from p [] gs m out st to ms kept run ok n e fits back was = absurd n
left_from p (f ∷ fs) gs m out st to ms kept run ok n e fits back was = left p f fs gs m out st to ms kept run ok n e fits back was.0 was.1

pub left_made : {A : Type 0} (m now : Whole A) (d : Move) (to : ℕ) (ms : List PhiMove) (kept : LeftBlock) (gs : List SlotFrame) → m ≡ now → IsMachine m → IsRunning now → IsLeaving now.program now.frames to
    → entered_by m.frames to ms ≡ Ok gs → PhiFits kept gs → on_innermost (enter.returned kept) gs ≡ m.frames → HasLeft kept m.frames → d ≡ slots_move (end_of kept.block) kept.slots
    → Made d now (whole m.program gs m.memory m.output m.status)
left_made {A} m now d to ms kept gs same ok run n e fits back was ed =
    subst (λ (w : Whole A). IsRunning w → IsLeaving w.program w.frames to → Made d w (whole m.program gs m.memory m.output m.status)) same
    (λ run n. rw ed (left_from m.program m.frames gs m.memory m.output m.status to ms kept run ok n e fits back was)) run n
