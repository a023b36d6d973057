-- When a watch reads otherwise and a breakpoint holds: the tests and the relations say the same.
use Rattle.std.proofs.Common.{◌≡◌, refl, sym, ap, subst, inl, inr, ◌⊎◌, ℕ, Bool, true, false, List, [], ◌∷◌, arith}
use Rattle.std.specs.Prelude.{not, ◌==◌, ◌&&◌, ◌≢◌}
use Rattle.std.specs.Option.{option_or, option_map}
use Rattle.std.specs.Str.{bytes_eq}
use Rattle.std.proofs.lemmas.Slice.Eq.{bytes_eq-Decides}
use Rattle.std.proofs.lemmas.Bool.Decides.{Decides-eqb}
use Rattle.qil_semantics.specs.State.{Frame, Status, running, done, exited, faulted, State, is_final}
use Rattle.qil_semantics.specs.Stops.{Watched, Reading, dead, unset, bytes_read, value_read, reading, same_reading, Place, place_of, same_place, innermost_at, is_at, break_at, watch, Numbered, AreListed, differs, is_held, first_watch, first_break, stopped}
use Rattle.qil_semantics.specs.Targets.{Has, IsAt, Halts}
use Rattle.qil_semantics.specs.declared.reason.Reason.{Reason}
use Rattle.qil_semantics.specs.declared.reason.Reason.TheVariants.{End, Watch, Break, Start, Oldest, Limit, Memory}
use Rattle.qil_semantics.proofs.FirstLemmas.{First, first_or, first_iff, Numbers, lowest_found, Watches, Breaks, first_watches, first_breaks}

equal_bytes : (x y : List ℕ) → bytes_eq x y ≡ true → x ≡ y
equal_bytes x y e = grind (arith, e, bytes_eq-Decides x y)

bytes_same : (x : List ℕ) → bytes_eq x x ≡ true
bytes_same x = grind (arith, bytes_eq-Decides x x)

equal_numbers : (v w : ℕ) → (v == w) ≡ true → v ≡ w
equal_numbers v w e = grind (arith, e, Decides-eqb v w)

numbers_same : (v : ℕ) → (v == v) ≡ true
numbers_same v = grind (arith, Decides-eqb v v)

both : (a b : Bool) → (a && b) ≡ true → (a ≡ true) × (b ≡ true)
both true b e = (refl, e)
both false b e = absurd (cc)

-- ---- readings

same-tells : (r q : Reading) → same_reading r q ≡ true → r ≡ q
same-tells dead dead e = refl
same-tells unset unset e = refl
same-tells (bytes_read bs) (bytes_read cs) e = ap bytes_read (equal_bytes bs cs e)
same-tells (value_read v) (value_read w) e = ap value_read (equal_numbers v w e)
same-tells r q e = absurd (cc)

same-itself : (r : Reading) → same_reading r r ≡ true
same-itself dead = refl
same-itself unset = refl
same-itself (bytes_read bs) = bytes_same bs
same-itself (value_read v) = numbers_same v

unlike : (r q : Reading) → not (same_reading r q) ≡ true → r ≢ q
unlike r q e f = let g = subst (λ x. not (same_reading r x) ≡ true) (sym f) e in let h = same-itself r in let i = ap not h in absurd (cc)

differ_by : (r q : Reading) (b : Bool) → same_reading r q ≡ b → r ≢ q → not b ≡ true
differ_by r q true e h = absurd (h (same-tells r q e))
differ_by r q false e h = refl

-- ---- places

place-tells : (a b : Place) → same_place a b ≡ true → a ≡ b
place-tells a b e =
    let (f, g) = both (bytes_eq a.func b.func) (bytes_eq a.label b.label && a.index == b.index) e in
    let (h, i) = both (bytes_eq a.label b.label) (a.index == b.index) g in
    let func = equal_bytes a.func b.func f in
    let label = equal_bytes a.label b.label h in
    let index = equal_numbers a.index b.index i in
    λ k. record { func = func k; label = label k; index = index k }

place-itself : (a : Place) → same_place a a ≡ true
place-itself a = rw (bytes_same a.func) (rw (bytes_same a.label) (numbers_same a.index))

innermost-tells : (place : Place) (frames : List Frame) → innermost_at place frames ≡ true → (f : Frame) × (fs : List Frame) × (frames ≡ f ∷ fs) × (place_of f ≡ place)
innermost-tells place [] e = absurd (cc)
innermost-tells place (f ∷ fs) e = (f, fs, refl, place-tells (place_of f) place e)

at-tells : (place : Place) (frames : List Frame) (status : Status) → (not (is_final status) && innermost_at place frames) ≡ true
    → (status ≡ running) × (f : Frame) × (fs : List Frame) × (frames ≡ f ∷ fs) × (place_of f ≡ place)
at-tells place frames running e = let (f, fs, g, h) = innermost-tells place frames e in (refl, f, fs, g, h)
at-tells place frames (done value) e = absurd (cc)
at-tells place frames (exited word) e = absurd (cc)
at-tells place frames (faulted fault) e = absurd (cc)

at-holds : (place : Place) (s : State) → IsAt place s → is_at place s ≡ true
at-holds place s (running_now, f, fs, frames, here) = rw running_now (rw frames (subst (λ x. same_place (place_of f) x ≡ true) here (place-itself (place_of f))))

-- ---- stops

abbrev Differ : List Numbered → State → State → ℕ → Type 0
Differ stops old new n = (w : Watched) × Has stops n (watch w) × (reading w old ≢ reading w new)

abbrev Hold : List Numbered → State → ℕ → Type 0
Hold stops new n = (place : Place) × Has stops n (break_at place) × IsAt place new

differ-to : (stops : List Numbered) (old new : State) (n : ℕ) → Numbers (differs old new) stops n → Differ stops old new n
differ-to stops old new n (watch w, has, e) = (w, has, unlike (reading w old) (reading w new) e)
differ-to stops old new n (break_at place, has, e) = absurd (cc)

differ-from : (stops : List Numbered) (old new : State) (n : ℕ) → Differ stops old new n → Numbers (differs old new) stops n
differ-from stops old new n (w, has, h) = (watch w, has, differ_by (reading w old) (reading w new) (same_reading (reading w old) (reading w new)) refl h)

hold-to : (stops : List Numbered) (new : State) (n : ℕ) → Numbers (is_held new) stops n → Hold stops new n
hold-to stops new n (watch w, has, e) = absurd (cc)
hold-to stops new n (break_at place, has, e) = (place, has, at-tells place new.frames new.status e)

hold-from : (stops : List Numbered) (new : State) (n : ℕ) → Hold stops new n → Numbers (is_held new) stops n
hold-from stops new n (place, has, h) = (break_at place, has, at-holds place new h)

-- ---- the first stop

halts-to : (stops : List Numbered) (old new : State) (q : Reason) → Watches (Numbers (differs old new) stops) q ⊎ Breaks (Numbers (is_held new) stops) q → Halts stops old new q
halts-to stops old new q (inl (n, e, h)) = rw e (differ-to stops old new n h)
halts-to stops old new q (inr (n, e, h)) = rw e (hold-to stops new n h)

halts-from : (stops : List Numbered) (old new : State) (q : Reason) → Halts stops old new q → Watches (Numbers (differs old new) stops) q ⊎ Breaks (Numbers (is_held new) stops) q
halts-from stops old new (Watch n) h = inl (n, refl, differ-from stops old new n h)
halts-from stops old new (Break n) h = inr (n, refl, hold-from stops new n h)
halts-from stops old new End h = absurd h
halts-from stops old new Start h = absurd h
halts-from stops old new Oldest h = absurd h
halts-from stops old new Limit h = absurd h
halts-from stops old new Memory h = absurd h

-- `stopped` is the first stop that halts a run
pub first_stopped : (low : ℕ) (stops : List Numbered) (old new : State) → AreListed low stops → First (Halts stops old new) (stopped stops old new)
unfolding stopped first_watch first_break
first_stopped low stops old new l =
    first_iff (λ q. Watches (Numbers (differs old new) stops) q ⊎ Breaks (Numbers (is_held new) stops) q) (Halts stops old new)
    (option_or (option_map Watch (first_watch old new stops)) (option_map Break (first_break new stops)))
    (λ q h. halts-to stops old new q h) (λ q h. halts-from stops old new q h)
    (first_or (Watches (Numbers (differs old new) stops)) (Breaks (Numbers (is_held new) stops)) 1
    (option_map Watch (first_watch old new stops)) (option_map Break (first_break new stops))
    (λ q h. rw h.1 (omega arith)) (λ q h. rw h.1 (omega arith))
    (first_watches (Numbers (differs old new) stops) (first_watch old new stops) (lowest_found (differs old new) low stops l))
    (first_breaks (Numbers (is_held new) stops) (first_break new stops) (lowest_found (is_held new) low stops l)))
