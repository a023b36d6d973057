-- What an exchange gave, put back.
use Rattle.std.proofs.Common.{◌≡◌, ℕ, ◌≤◌, inr, List, length, sym, ap, ◌∙◌, arith}
use Rattle.qil_layout.specs.Layout.{low_bytes}
use Rattle.qil_layout.proofs.BytesLemmas.{length-low_bytes}
use Rattle.qil_memory.specs.Buffers.{Buffers, IsMemory, stack_base, stack_end}
use Rattle.qil_memory.specs.Undo.{Kept, with_bytes, with_top, undone, Fits}
use Rattle.qil_memory.specs.Places.{HasBytes, HasPlaces, bytes_at}
use Rattle.qil_memory.proofs.Undoing.{length-with_bytes_data, length-with_bytes_stack, with_bytes-top, undone_back, top_stays, fits_of}

module _ (m w : Buffers) (a n v old : ℕ) (h : HasBytes m a n) (e : w ≡ with_bytes m a (low_bytes n v)) (f : low_bytes n old ≡ bytes_at m a n) where
  pub exchange_undo : with_bytes w a (low_bytes n old) ≡ m
  exchange_undo =
      let stays : w ≡ with_top (with_bytes m a (low_bytes n v)) m.top = top_stays m w a (low_bytes n v) e in
      let back : with_top (with_bytes w a (low_bytes n old)) m.top ≡ m = (λ i. with_top (with_bytes (stays i) a (f i)) m.top) ∙ undone_back m a (low_bytes n v) n m.top (sym (length-low_bytes n v)) h in
      let top : (with_bytes w a (low_bytes n old)).top ≡ m.top = with_bytes-top w a (low_bytes n old) ∙ ap (λ (x : Buffers). x.top) stays in
      ap (λ t. with_top (with_bytes w a (low_bytes n old)) t) top ∙ back

  pub exchange_places : HasPlaces w a (low_bytes n old)
  exchange_places =
      let places : HasBytes m a (length (low_bytes n v)) = rw (length-low_bytes n v) h in
      let d : length w.data_bytes ≡ length m.data_bytes = ap (λ (x : Buffers). length x.data_bytes) e ∙ length-with_bytes_data m a (low_bytes n v) places in
      let s : length w.stack_bytes ≡ length m.stack_bytes = ap (λ (x : Buffers). length x.stack_bytes) e ∙ length-with_bytes_stack m a (low_bytes n v) places in
      let count : length (low_bytes n old) ≡ n = length-low_bytes n old in
      inr (record {
        low = h.low;
        in_data = λ u. let k = h.in_data u in omega arith;
        in_stack = λ u. let k = h.in_stack u in omega arith;
      })

-- what an exchange gave, kept with the top, puts the whole memory back
pub stored_undo : (m w : Buffers) (saved : Kept) (a t : ℕ) (bs : List ℕ) → with_bytes w a bs ≡ m → w.top ≡ m.top → t ≡ w.top → saved ≡ record { address = a; bytes = bs; top = t } → undone saved w ≡ m
stored_undo m w saved a t bs back stays e is = rw is (λ i. with_top (back i) ((e ∙ stays) i))

pub stored_fits : (w : Buffers) (saved : Kept) (a t : ℕ) (bs : List ℕ) → IsMemory w → t ≡ w.top → HasPlaces w a bs → saved ≡ record { address = a; bytes = bs; top = t } → Fits saved w
stored_fits w saved a t bs i e room is =
    let low : stack_base ≤ w.top = i.low in
    let high : w.top ≤ stack_end = i.high in
    rw is (fits_of (record { address = a; bytes = bs; top = t }) w i (omega (arith, low, e)) (omega (arith, high, e)) room)
