-- What the calls did, in words of the map of live bytes.
use Rattle.std.proofs.Common.{◌≡◌, ◌≢◌, ℕ, ◌+◌, ◌<◌, ◌≤◌, List, [], length, Option, Some, None, Result, Ok, Err, IsErrAnd, IfOk, IfErr, OnOk, OnErr, inl, true, false, ◌==◌, if◌then◌else◌, ◌-◌, IsTrue, refl, sym, ap, subst, ◌∙◌, arith, ⊎_elim}
use Rattle.std.proofs.lemmas.Bool.Decides.{nat_tests}
use Rattle.qil_layout.specs.Layout.{low_bytes, zeros}
use Rattle.qil_layout.proofs.BytesLemmas.{length-low_bytes, length-zeros}
use Rattle.qil_memory.specs.Bytes.{number}
use Rattle.qil_memory.specs.Buffers.{Buffers, IsMemory, stack_base, stack_end}
use Rattle.qil_memory.specs.Live.{Live, live, read, laid}
use Rattle.qil_memory.specs.Calls.{IsWidth, if_live, loaded, stored, overlap, copied, blitted, Explains}
use Rattle.qil_memory.specs.declared.fault.BlitFault.TheVariants.{Source, Target, Overlap, OutOfMemory}
use Rattle.qil_memory.specs.declared.fault.BlitFault.{BlitFault}
use Rattle.qil_memory.specs.Undo.{Kept, with_bytes, with_top, undone, Fits}
use Rattle.qil_memory.specs.Places.{IsLive, HasBytes, HasPlaces, bytes_at}
use Rattle.qil_memory.proofs.LiveBytes.{live-with_bytes, live-grown, read-live, read-dead}
use Rattle.qil_memory.proofs.Undoing.{length-bytes_at, with_bytes-nil, top_stays, Keeps, fits_of}

pub some_width : (n : ℕ) → IsWidth n → 0 < n
some_width n w = grind arith

pub loaded_live : (m : Buffers) (a n : ℕ) → IsMemory m → IsLive m a n → loaded (live m) a n ≡ Ok (number (bytes_at m a n))
loaded_live m a n i l = ap (if_live a number) (read-live m a n i l)

pub loaded_dead : (m : Buffers) (a n : ℕ) → IsMemory m → IsWidth n → (IsLive m a n → IsTrue false) → loaded (live m) a n ≡ Err (record { address = a })
loaded_dead m a n i w d = ap (if_live a number) (read-dead m a n i (some_width n w) (λ l. let e : IsTrue false = d l in cc))

pub stored_live : (m w : Buffers) (a n v : ℕ) → IsMemory m → IsLive m a n → w ≡ with_bytes m a (low_bytes n v) → stored (live m) a n v ≡ Ok (live w)
stored_live m w a n v i l e =
    let n_bytes : IsLive m a (length (low_bytes n v)) = rw (length-low_bytes n v) l in
    ap (if_live a (λ _. laid (live m) a (low_bytes n v))) (read-live m a n i l) ∙ ap Ok (sym (live-with_bytes m a (low_bytes n v) i n_bytes) ∙ ap live (sym e))

pub stored_dead : (m : Buffers) (a n v : ℕ) → IsMemory m → IsWidth n → (IsLive m a n → IsTrue false) → stored (live m) a n v ≡ Err (record { address = a })
stored_dead m a n v i w d = ap (if_live a (λ _. laid (live m) a (low_bytes n v))) (read-dead m a n i (some_width n w) (λ l. let e : IsTrue false = d l in cc))

pub written_keeps : (m w : Buffers) (saved : Kept) (a n t s : ℕ) (new kept xs : List ℕ) → HasBytes m a n → n ≡ length new → w ≡ with_top (with_bytes m a new) t → kept ≡ xs → xs ≡ bytes_at m a n → s ≡ m.top → saved ≡ record { address = a; bytes = kept; top = s } → Keeps m w saved
written_keeps m w saved a n t s new kept xs h count e f g top is = rw is (record {
  n = n;
  t = t;
  new = new;
  length_is = count;
  places = h;
  written = e;
  bytes = f ∙ g;
  top = top;
})

pub release_undo : (m w : Buffers) (saved : Kept) (a t : ℕ) → w ≡ with_top m a → t ≡ m.top → saved ≡ record { address = a; bytes = []; top = t } → undone saved w ≡ m
release_undo m w saved a t e s is = rw (is, e, s) (ap (λ (x : Buffers). with_top x m.top) (with_bytes-nil (with_top m a) a))

pub nothing_undone : (m : Buffers) (saved : Kept) (a t : ℕ) → t ≡ m.top → saved ≡ record { address = a; bytes = []; top = t } → undone saved m ≡ m
nothing_undone m saved a t e is = rw (is, e) (ap (λ (x : Buffers). with_top x m.top) (with_bytes-nil m a))

pub nothing_fits : (w : Buffers) (saved : Kept) (a t : ℕ) → IsMemory w → stack_base ≤ t → t ≤ stack_end → saved ≡ record { address = a; bytes = []; top = t } → Fits saved w
nothing_fits w saved a t i low high is = rw is (fits_of (record { address = a; bytes = []; top = t }) w i low high (inl refl))

-- some bytes that have places stand in the buffers
pub some_places : (m : Buffers) (a n : ℕ) (bs : List ℕ) → 0 < n → length bs ≡ n → HasPlaces m a bs → HasBytes m a n
some_places m a n bs some e h = ⊎_elim
    (λ (none : length bs ≡ 0). absurd (omega arith))
    (λ (x : HasBytes m a (length bs)). subst (HasBytes m a) e x)
    h

-- ---- a call that failed

pub failed_if : {A E : Type 0} (Q : E → Type 0) (P : A → Type 0) (r : Result A E) → IsErrAnd r Q → IfOk r P
failed_if Q P (Ok a) h = absurd h
failed_if Q P (Err e) h = tt

pub failed_on : {A E : Type 0} (Q : E → Type 0) (P : Type 0) (r : Result A E) → IsErrAnd r Q → OnOk r P
failed_on Q P (Ok a) h = absurd h
failed_on Q P (Err e) h = tt

pub failed_same : {A E : Type 0} (P : Type 0) (r : Result A E) → P → OnErr r P
failed_same P (Ok a) p = tt
failed_same P (Err e) p = p

-- and that for another reason
pub failed_other : {A E : Type 0} (e other : E) (X : Type 0) (r : Result A E) → IsErrAnd r (λ x. x ≡ e) → (e ≡ other → ⊥) → (X → ⊥) → (r ≡ Err other → X) × (X → r ≡ Err other)
failed_other e other X (Ok a) h apart never = absurd h
failed_other e other X (Err x) h apart never = (λ is. absurd (apart (let same : x ≡ other = cc in sym h ∙ same)), λ p. absurd (never p))

pub failed_apart : {A E : Type 0} (e other : E) (r : Result A E) → IsErrAnd r (λ x. x ≡ e) → (e ≡ other → ⊥) → r ≡ Err other → ⊥
failed_apart e other (Ok a) h apart is = absurd h
failed_apart e other (Err x) h apart is = apart (let same : x ≡ other = cc in sym h ∙ same)

-- few bytes are always kept
pub few_kept : (m : Buffers) (a n : ℕ) (bytes : List ℕ) → HasBytes m a n → bytes ≡ bytes_at m a n → n ≤ 32 → (length bytes ≤ 32 → IsTrue false) → ⊥
few_kept m a n bytes h is little kept = let count = length-bytes_at m a n h in let long = ap length is in absurd (let never : IsTrue false = kept (omega arith) in cc)

-- ---- blit

blit_some : (m : Live) (s t n : ℕ) (x y : Option (List ℕ)) → 0 < n → read m s n ≡ x → read m t n ≡ y → blitted m s t n ≡ copied m s t n x y
blit_some m s t n x y some e f =
    let not_none : (n == 0) ≡ false = grind (arith, nat_tests) in
    rw (not_none, e, f) refl

pub blit_source : (m : Buffers) (s t n : ℕ) → IsMemory m → 0 < n → (IsLive m s n → IsTrue false) → blitted (live m) s t n ≡ Err (Source s)
blit_source m s t n i some d =
    blit_some (live m) s t n None (read (live m) t n) some (read-dead m s n i some (λ l. let e : IsTrue false = d l in cc)) refl

pub blit_target : (m : Buffers) (s t n : ℕ) → IsMemory m → 0 < n → IsLive m s n → (IsLive m t n → IsTrue false) → blitted (live m) s t n ≡ Err (Target t)
blit_target m s t n i some l d =
    blit_some (live m) s t n (Some (bytes_at m s n)) None some (read-live m s n i l) (read-dead m t n i some (λ k. let e : IsTrue false = d k in cc))

blit_both : (m : Buffers) (s t n : ℕ) → IsMemory m → 0 < n → IsLive m s n → IsLive m t n → blitted (live m) s t n ≡ (if overlap s t n then Err Overlap else Ok (laid (live m) t (bytes_at m s n)))
blit_both m s t n i some l k =
    blit_some (live m) s t n (Some (bytes_at m s n)) (Some (bytes_at m t n)) some (read-live m s n i l) (read-live m t n i k)

pub blit_overlap : (m : Buffers) (s t n : ℕ) → IsMemory m → 0 < n → IsLive m s n → IsLive m t n → overlap s t n ≡ true → blitted (live m) s t n ≡ Err Overlap
blit_overlap m s t n i some l k e = blit_both m s t n i some l k ∙ rw e refl

pub blit_free : (m : Buffers) (s t n : ℕ) → IsMemory m → 0 < n → IsLive m s n → IsLive m t n → overlap s t n ≡ false → blitted (live m) s t n ≡ Ok (laid (live m) t (bytes_at m s n))
blit_free m s t n i some l k e = blit_both m s t n i some l k ∙ rw e refl

pub blit_done : (m w : Buffers) (s t n : ℕ) → IsMemory m → 0 < n → IsLive m s n → HasBytes m s n → IsLive m t n → overlap s t n ≡ false → w ≡ with_bytes m t (bytes_at m s n) → blitted (live m) s t n ≡ Ok (live w)
blit_done m w s t n i some l h k e same =
    let count : length (bytes_at m s n) ≡ n = length-bytes_at m s n h in
    blit_free m s t n i some l k e ∙ ap Ok (sym (live-with_bytes m t (bytes_at m s n) i (rw count k)) ∙ ap live (sym same))

-- ---- alloc

pub alloc_bytes : (m c w : Buffers) (top end n : ℕ) → IsMemory m → top ≡ m.top → end ≡ top + n → end ≤ stack_end → c ≡ with_bytes m top (zeros n) → w ≡ with_top c end → live w ≡ laid (live m) m.top (zeros (w.top - m.top))
alloc_bytes m c w top end n i e f high g h =
    let same : w ≡ with_top (with_bytes m m.top (zeros n)) end = h ∙ (λ j. with_top (g j) end) ∙ (λ j. with_top (with_bytes m (e j) (zeros n)) end) in
    let count : w.top - m.top ≡ n = ap (λ (x : Buffers). x.top - m.top) same ∙ omega arith in
    ap live same ∙ live-grown m (zeros n) end i (omega (arith, length-zeros n)) high ∙ ap (λ k. laid (live m) m.top (zeros k)) (sym count)

pub alloc_keeps : (m c w : Buffers) (saved : Kept) (top end n : ℕ) (kept xs : List ℕ) → HasBytes m top n → c ≡ with_bytes m top (zeros n) → w ≡ with_top c end → kept ≡ xs → xs ≡ bytes_at m top n → top ≡ m.top → saved ≡ record { address = top; bytes = kept; top = top } → Keeps m w saved
alloc_keeps m c w saved top end n kept xs h g e f same s is =
    written_keeps m w saved top n end top (zeros n) kept xs h (sym (length-zeros n)) (e ∙ (λ j. with_top (g j) end)) f same s is

pub blit_keeps : (m w : Buffers) (saved : Kept) (s t n top : ℕ) (kept xs : List ℕ) → HasBytes m s n → HasBytes m t n → w ≡ with_bytes m t (bytes_at m s n) → kept ≡ xs → xs ≡ bytes_at m t n → top ≡ w.top → saved ≡ record { address = t; bytes = kept; top = top } → Keeps m w saved
blit_keeps m w saved s t n top kept xs h k e f g top_is is =
    let stays : w ≡ with_top (with_bytes m t (bytes_at m s n)) m.top = top_stays m w t (bytes_at m s n) e in
    written_keeps m w saved t n m.top top (bytes_at m s n) kept xs k (sym (length-bytes_at m s n h)) stays f g (top_is ∙ ap (λ (x : Buffers). x.top) stays) is

-- out of memory, where the blit has no fault
pub wants_memory : {A : Type 0} (r : Result A BlitFault) (b : Result Live BlitFault) (x : Live) → b ≡ Ok x → IsErrAnd r (λ e. e ≡ OutOfMemory) → IfErr r (λ e. Explains e b)
wants_memory (Ok a) b x e h = tt
wants_memory (Err fault) b x e h = rw (h, e) refl

own_explains : (e fault : BlitFault) (b : Result Live BlitFault) → b ≡ Err fault → fault ≢ OutOfMemory → e ≡ fault → Explains e b
own_explains OutOfMemory fault b of_it other e = absurd (other (sym e))
own_explains (Source a) fault b of_it other e = of_it ∙ ap Err (sym e)
own_explains (Target a) fault b of_it other e = of_it ∙ ap Err (sym e)
own_explains Overlap fault b of_it other e = of_it ∙ ap Err (sym e)

-- a fault of the blit's own, handed on
pub passed_on : {A : Type 0} (r : Result A BlitFault) (b : Result Live BlitFault) (fault : BlitFault) → b ≡ Err fault → fault ≢ OutOfMemory → IsErrAnd r (λ e. e ≡ fault) → IfErr r (λ e. Explains e b)
passed_on (Ok a) b fault of_it other h = tt
passed_on (Err e) b fault of_it other h = own_explains e fault b of_it other h

pub top_places : (m : Buffers) (top n : ℕ) → IsMemory m → top ≡ m.top → top + n ≤ stack_end → HasBytes m top n
top_places m top n i e h = let low = i.low in let whole = i.whole in record {
  low = omega arith;
  in_data = λ u. absurd (omega arith);
  in_stack = λ u. omega arith;
}
