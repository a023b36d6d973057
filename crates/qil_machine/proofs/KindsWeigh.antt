-- What the undo record of each kind of move weighs.
use Rattle.std.proofs.Common.{◌≡◌, refl, sym, ap, ◌∙◌, ℕ, ◌+◌, ◌*◌, List, ◌∷◌, length, Option, Some, None, arith}
use Rattle.qil_layout.specs.Layout.{low_bytes}
use Rattle.qil_layout.proofs.BytesLemmas.{length-low_bytes}
use Rattle.qil_memory.specs.Undo.{Kept}
use Rattle.qil_code.specs.declared.numbered.Slot.{Slot}
use Rattle.qil_code.specs.declared.numbered.Receiver.{Receiver}
use Rattle.qil_frames.specs.declared.saved.SavedSlot.{SavedSlot}
use Rattle.qil_frames.specs.Frames.{SlotFrame}
use Rattle.qil_machine.specs.Moves.{Move, Place, weight}
use Rattle.qil_machine.specs.Kinds.{slots_move, bytes_move, received, returned_move, grown_move, copied_move, wrote_move, poked_bytes_move}
use Rattle.qil_machine.specs.Costs.{receiver_count, returned_weight}

pub slots_weigh : (d : Move) (place : Place) (ks : List SavedSlot) (n : ℕ) → d ≡ slots_move place ks → length ks ≡ n → weight d ≡ 4 + 2 * n
slots_weigh d place ks n e count = ap weight e ∙ (let all : weight (slots_move place ks) ≡ 4 + 2 * n = omega (arith, count) in all)

pub bytes_weigh : (d : Move) (k a n v : ℕ) → d ≡ bytes_move k a (low_bytes n v) → weight d ≡ 4 + n
bytes_weigh d k a n v e = ap weight e ∙ (let count = length-low_bytes n v in let all : weight (bytes_move k a (low_bytes n v)) ≡ 4 + n = omega (arith, count) in all)

pub poked_weigh : (d : Move) (a n v : ℕ) → d ≡ poked_bytes_move a (low_bytes n v) → weight d ≡ 4 + n
poked_weigh d a n v e = ap weight e ∙ (let count = length-low_bytes n v in let all : weight (poked_bytes_move a (low_bytes n v)) ≡ 4 + n = omega (arith, count) in all)

pub copied_weighs : (d : Move) (k n : ℕ) (saved : Kept) → d ≡ copied_move k saved → length saved.bytes ≡ n → weight d ≡ 4 + n
copied_weighs d k n saved e count = ap weight e ∙ (let all : weight (copied_move k saved) ≡ 4 + n = omega (arith, count) in all)

pub grown_weighs : (d : Move) (k n : ℕ) (s : Slot) (v : Option ℕ) (saved : Kept) → d ≡ grown_move k s v saved → length saved.bytes ≡ n → weight d ≡ 6 + n
grown_weighs d k n s v saved e count = ap weight e ∙ (let all : weight (grown_move k s v saved) ≡ 6 + n = omega (arith, count) in all)

received_count : (to : Option Receiver) (v : Option ℕ) → length (received to v) ≡ receiver_count to
received_count None v = refl
received_count (Some to) v = refl

pub wrote_weighs : (d : Move) (k n : ℕ) (to : Option Receiver) (v : Option ℕ) → d ≡ wrote_move k n (received to v) → weight d ≡ 4 + 2 * receiver_count to
wrote_weighs d k n to v e = ap weight e ∙ (let count = received_count to v in let all : weight (wrote_move k n (received to v)) ≡ 4 + 2 * receiver_count to = omega (arith, count) in all)

pub returned_weighs : (d : Move) (f : SlotFrame) (fs gs : List SlotFrame) (t : ℕ) (v : Option ℕ) → gs ≡ f ∷ fs → d ≡ returned_move f t v → weight d ≡ returned_weight gs
returned_weighs d f fs gs t v eg e =
    ap weight e ∙ (let count = received_count f.result v in let all : weight (returned_move f t v) ≡ 4 + 2 * receiver_count f.result + length f.slots = omega (arith, count) in all)
    ∙ ap returned_weight (sym eg)
