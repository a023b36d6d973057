-- When two events are the same: part by part.
use Rattle.std.proofs.Common.{◌≡◌, ◌↔◌, ◌≢◌, refl, sym, ap, ◌∙◌, subst, ℕ, zero, suc, ◌+◌, ◌^◌, ◌<◌, ◌≤◌, Bool, true, false, List, [], ◌∷◌, length, Option, Some, None, IsTrue, not, nat_eq, eq-eqb, arith}
use Rattle.std.specs.Prelude.{slice_get}
use Rattle.std.specs.Option.{option_eq}
use Rattle.std.proofs.lemmas.Bool.{true≢false, eqb-true}
use Rattle.std.proofs.lemmas.Bool.Decides.{nat_tests}
use borrow.Author.Count.{below_more}
use Rattle.qil_memory.specs.Buffers.{Buffers}
use Rattle.qil_tree.specs.declared.ops.AbiType.{AbiType}
use Rattle.qil_tree.specs.declared.tree.Program.{Program}
use Rattle.qil_memory.specs.Live.{Live, live}
use Rattle.qil_semantics.specs.State.{Name, State}
use Rattle.qil_state.specs.declared.status.Fault.{Fault}
use Rattle.qil_state.specs.declared.status.Status.{Status}
use Rattle.qil_state.specs.declared.status.Status.TheVariants.{Faulted}
use Rattle.qil_state.specs.Faults.{fault_of, status_of}
use Rattle.qil_state.proofs.Place.{none_some, some_same}
use Rattle.qil_compare.specs.declared.event as code
use Rattle.qil_compare.specs.declared.event.Event.TheVariants as coded
use Rattle.qil_compare.specs.Seen.{Offset}
use Rattle.qil_compare.specs.Next.{event_at}
use Rattle.qil_compare.specs.Events.{Event, byte_out, written, bytes_from, Cause, unset, faulted_by, ended, cause_of, end_of}

-- after all addresses of 64 bits nothing is live
pub dead_far : (m : Buffers) (a : ℕ) → m.top < 2 ^ 64 → 2 ^ 64 ≤ a → live m a ≡ None
unfolding live
dead_far m a low far = grind (arith, nat_tests, low, far)

-- ---- a test that says no, or yes

pub no_same : {X : Type 0} {x y : X} → (x ≡ y → ⊥) → IsTrue false ↔ (x ≡ y)
no_same h = (λ t. absurd (true≢false (sym t)), λ e. absurd (h e))

pub yes_same : {X : Type 0} {x y : X} → x ≡ y → IsTrue true ↔ (x ≡ y)
yes_same e = (λ t. e, λ same. refl)

-- a test of parts that failed
pub failed : {X : Type 0} {x y : X} (r : Bool) → (IsTrue r ↔ (x ≡ y)) → r ≡ false → x ≡ y → ⊥
failed r test off e = true≢false (sym (test.1 e) ∙ off)

-- ---- lists, element by element

lists_same : {X : Type 0} (xs ys : List X) → length xs ≡ length ys → ((i : ℕ) → i < length xs → slice_get xs i ≡ slice_get ys i) → xs ≡ ys
lists_same [] [] e each = refl
lists_same [] (y ∷ ys) e each = absurd (omega (arith, e))
lists_same (x ∷ xs) [] e each = absurd (omega (arith, e))
lists_same (x ∷ xs) (y ∷ ys) e each =
    let first : x ≡ y = some_same x y (each 0 (omega arith)) in
    let rest : xs ≡ ys = lists_same xs ys (omega (arith, e)) (λ i lt. each (suc i) (omega (arith, lt))) in
    λ i. first i ∷ rest i

-- the first k elements are the same
abbrev pub AreAlike : {X : Type 0} → List X → List X → ℕ → Type 0
AreAlike xs ys k = (i : ℕ) → i < k → slice_get xs i ≡ slice_get ys i

pub other_lengths : {X : Type 0} (xs ys : List X) (m n : ℕ) → m ≡ length xs → n ≡ length ys → m ≢ n → IsTrue false ↔ (xs ≡ ys)
other_lengths xs ys m n em en other = no_same (λ e. other (em ∙ ap length e ∙ sym en))

pub alike_more : {X : Type 0} (xs ys : List X) (k : ℕ) (v w : X) (r : Bool) → AreAlike xs ys k → Some v ≡ slice_get xs k → Some w ≡ slice_get ys k → (IsTrue r ↔ (v ≡ w)) → r ≡ true → AreAlike xs ys (k + 1)
alike_more xs ys k v w r alike ev ew test on = below_more (λ i. slice_get xs i ≡ slice_get ys i) k alike (sym ev ∙ ap Some (test.0 on) ∙ ew)

pub other_at : {X : Type 0} (xs ys : List X) (k : ℕ) (v w : X) (r : Bool) → Some v ≡ slice_get xs k → Some w ≡ slice_get ys k → (IsTrue r ↔ (v ≡ w)) → r ≡ false → IsTrue false ↔ (xs ≡ ys)
other_at xs ys k v w r ev ew test off = no_same (λ e. failed r test off (some_same v w (ev ∙ ap (λ zs. slice_get zs k) e ∙ sym ew)))

pub all_alike : {X : Type 0} (xs ys : List X) (m n k : ℕ) → m ≡ length xs → n ≡ length ys → m ≡ n → m ≤ k → AreAlike xs ys k → IsTrue true ↔ (xs ≡ ys)
all_alike xs ys m n k em en same le alike =
    let each : (i : ℕ) → i < length xs → slice_get xs i ≡ slice_get ys i = λ i lt. alike i (omega (arith, lt, em, le)) in
    yes_same (lists_same xs ys (sym em ∙ same ∙ en) each)

-- ---- bytes from an address on

bytes_each : (m w : Live) (a b n : ℕ) → bytes_from m a n ≡ bytes_from w b n → (i : ℕ) → i < n → m (a + i) ≡ w (b + i)
unfolding bytes_from
bytes_each m w a b zero e i lt = absurd (omega (arith, lt))
bytes_each m w a b (suc n) e zero lt =
    let left : a + 0 ≡ a = omega arith in
    let right : b + 0 ≡ b = omega arith in
    ap m left ∙ ap (λ bs. first bs) e ∙ ap w (sym right)
  where
    first : List (Option ℕ) → Option ℕ
    first [] = None
    first (x ∷ xs) = x
bytes_each m w a b (suc n) e (suc i) lt =
    let left : a + suc i ≡ a + 1 + i = omega arith in
    let right : b + suc i ≡ b + 1 + i = omega arith in
    ap m left ∙ bytes_each m w (a + 1) (b + 1) n (ap (λ bs. others bs) e) i (omega (arith, lt)) ∙ ap w (sym right)
  where
    others : List (Option ℕ) → List (Option ℕ)
    others [] = []
    others (x ∷ xs) = xs

bytes_all : (m w : Live) (a b n : ℕ) → ((i : ℕ) → i < n → m (a + i) ≡ w (b + i)) → bytes_from m a n ≡ bytes_from w b n
unfolding bytes_from
bytes_all m w a b zero each = refl
bytes_all m w a b (suc n) each =
    let left : a ≡ a + 0 = omega arith in
    let right : b + 0 ≡ b = omega arith in
    let here : m a ≡ w b = ap m left ∙ each 0 (omega arith) ∙ ap w right in
    let rest : bytes_from m (a + 1) n ≡ bytes_from w (b + 1) n =
    bytes_all m w (a + 1) (b + 1) n (λ i lt.
    let from : a + 1 + i ≡ a + suc i = omega arith in
    let to : b + suc i ≡ b + 1 + i = omega arith in
    ap m from ∙ each (suc i) (omega (arith, lt)) ∙ ap w to) in
    λ i. here i ∷ rest i

-- the first k bytes are the same
abbrev pub AreSameBytes : Live → Live → ℕ → ℕ → ℕ → Type 0
AreSameBytes m w a b k = (i : ℕ) → i < k → m (a + i) ≡ w (b + i)

pub bytes_more : (m w : Live) (a b k : ℕ) (v u : Option ℕ) → AreSameBytes m w a b k → v ≡ m (a + k) → u ≡ w (b + k) → v ≡ u → AreSameBytes m w a b (k + 1)
bytes_more m w a b k v u alike ev eu same = below_more (λ i. m (a + i) ≡ w (b + i)) k alike (sym ev ∙ same ∙ eu)

pub bytes_other : (m w : Live) (a b n k : ℕ) (v u : Option ℕ) → k < n → v ≡ m (a + k) → u ≡ w (b + k) → v ≢ u → IsTrue false ↔ (bytes_from m a n ≡ bytes_from w b n)
bytes_other m w a b n k v u lt ev eu other = no_same (λ e. other (ev ∙ bytes_each m w a b n e k lt ∙ sym eu))

pub bytes_alike : (m w : Live) (a b n k : ℕ) → n ≤ k → AreSameBytes m w a b k → IsTrue true ↔ (bytes_from m a n ≡ bytes_from w b n)
bytes_alike m w a b n k le alike = yes_same (bytes_all m w a b n (λ i lt. alike i (omega (arith, lt, le))))

other_options : (v u : Option ℕ) → true ≡ not (option_eq nat_eq v u) → v ≢ u
other_options None None e same = true≢false e
other_options None (Some n) e same = none_some same
other_options (Some m) None e same = none_some (sym same)
other_options (Some m) (Some n) e same = let at : m ≡ n = some_same m n same in true≢false (e ∙ ap not (eq-eqb m n at))

pub bytes_differ : (m w : Live) (a b n k : ℕ) (v u : Option ℕ) → k < n → v ≡ m (a + k) → u ≡ w (b + k) → true ≡ not (option_eq nat_eq v u) → IsTrue false ↔ (bytes_from m a n ≡ bytes_from w b n)
bytes_differ m w a b n k v u lt ev eu other = bytes_other m w a b n k v u lt ev eu (other_options v u other)

-- ---- writes

length_from : (m : Live) (a n : ℕ) → length (bytes_from m a n) ≡ n
unfolding bytes_from
length_from m a zero = refl
length_from m a (suc n) = ap suc (length_from m (a + 1) n)

abbrev bytes_in : Event → List (Option ℕ)
bytes_in (written place bytes) = bytes
bytes_in e = []

abbrev place_in : Event → Offset
place_in (written place bytes) = place
place_in e = record { object = []; bytes = 0 }

pub other_count : (m w : Live) (a b n k : ℕ) (place other : Offset) → n ≢ k → IsTrue false ↔ (written place (bytes_from m a n) ≡ written other (bytes_from w b k))
other_count m w a b n k place other differ = no_same (λ e. differ (sym (length_from m a n) ∙ ap (λ x. length (bytes_in x)) e ∙ length_from w b k))

pub other_place : (m w : Live) (a b n k : ℕ) (place other p q : Offset) (r : Bool) → p ≡ place → q ≡ other → (IsTrue r ↔ (p ≡ q)) → r ≡ false → IsTrue false ↔ (written place (bytes_from m a n) ≡ written other (bytes_from w b k))
other_place m w a b n k place other p q r ep eq test off = no_same (λ e. failed r test off (ep ∙ ap place_in e ∙ sym eq))

pub same_place_bytes : (m w : Live) (a b n k : ℕ) (place other p q : Offset) (r s : Bool) → n ≡ k → p ≡ place → q ≡ other → (IsTrue r ↔ (p ≡ q)) → r ≡ true → (IsTrue s ↔ (bytes_from m a n ≡ bytes_from w b n))
    → IsTrue s ↔ (written place (bytes_from m a n) ≡ written other (bytes_from w b k))
same_place_bytes m w a b n k place other p q r s en ep eq test on bytes =
    let at : place ≡ other = sym ep ∙ test.0 on ∙ eq in
    subst (λ j. IsTrue s ↔ (written place (bytes_from m a n) ≡ written other (bytes_from w b j))) en
    (λ t. (λ i. written (at i) (bytes.0 t i)), λ e. bytes.1 (ap bytes_in e))

-- ---- output

abbrev byte_in : Event → ℕ
byte_in (byte_out byte) = byte
byte_in e = 0

-- two bytes of output are one event where they are one number
pub same_output : {A : Type 0} (p q : Program A) (s t : State) (one other : code.Event.Event) (b d : ℕ) → one ≡ coded.Output b → other ≡ coded.Output d → IsTrue (nat_eq b d) ↔ (event_at p s one ≡ event_at q t other)
same_output p q s t one other b d eb ed =
    subst (λ e. IsTrue (nat_eq b d) ↔ (event_at p s e ≡ event_at q t other)) (sym eb)
    (subst (λ e. IsTrue (nat_eq b d) ↔ (byte_out b ≡ event_at q t e)) (sym ed)
    (λ on. ap byte_out (eqb-true b d on), λ e. eq-eqb b d (ap byte_in e)))

-- ---- ends

abbrev cause_in : Event → Cause
cause_in (ended (Some (faulted_by cause))) = cause
cause_in e = unset

-- two runs that faulted ended the same where they did for the same cause
pub faulted_same : {A : Type 0} (p q : Program A) (t u : AbiType) (ns ms : List Name) (s w : Status) (one other : Fault) (r : Bool) → Faulted one ≡ s → Faulted other ≡ w
    → ((ns ms : List Name) → IsTrue r ↔ (cause_of p (fault_of ns one) ≡ cause_of q (fault_of ms other))) → IsTrue r ↔ (ended (end_of p t (status_of ns s)) ≡ ended (end_of q u (status_of ms w)))
faulted_same p q t u ns ms s w one other r es ew test =
    subst (λ x. IsTrue r ↔ (ended (end_of p t (status_of ns x)) ≡ ended (end_of q u (status_of ms w)))) es
    (subst (λ y. IsTrue r ↔ (ended (end_of p t (status_of ns (Faulted one))) ≡ ended (end_of q u (status_of ms y)))) ew
    (λ on. ap (λ cause. ended (Some (faulted_by cause))) ((test ns ms).0 on), λ e. (test ns ms).1 (ap cause_in e)))
