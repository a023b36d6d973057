-- Facts on the newest of what is kept.
use Rattle.std.proofs.Common.{◌≡◌, ℕ, zero, suc, ◌+◌, ◌-◌, ◌<◌, ◌≤◌, ◌^◌, List, [], ◌∷◌, ◌++◌, length, get_or, reverse, take, drop, Option, Some, None, Result, Ok, Err, OnOk, OnErr, ap, sym, ◌∙◌, subst, refl, arith, take-append-drop, take_all, ⊎_elim}
use Rattle.std.specs.Prelude.{slice_get, unwrap_or, option_to_list, IfNone}
use Rattle.std.proofs.lemmas.List.{length-reverse, length-drop, length-append, reverse-append}
use Rattle.std.proofs.lemmas.Bool.{cases_lt}
use Rattle.std.proofs.lemmas.Option.{none-some, slice_get-get_or}
use Rattle.std.proofs.Math.Seq.{take-append_seam}
use Rattle.circular_buffer.specs.Buffer.{Buffer, buffer, keep_last, last_item}
use Rattle.qil_semantics.specs.State.{State}
use Rattle.qil_semantics.specs.Poke.{PokeFault}
use Rattle.qil_semantics.specs.Step.{step_of}
use Rattle.qil_semantics.specs.Timeline.{to, forward, poked, back_to, back, position}
use Rattle.qil_state.specs.State.{Whole, state_of}
use Rattle.qil_machine.specs.Moves.{Move, undone, Fits}
use Rattle.qil_machine.specs.Places.{Made, HasMade}
use Rattle.qil_undo_log.specs.Kept.{before, AllFit, Recent, recent, recent_timeline, IsRecent, HasAdded}
use Rattle.qil_undo_log.proofs.KeptLemmas.{length_before, before_made, fits_made}

-- ---- lists

module _ {X : Type 0} where
  take-seam : (xs ys : List X) (n : ℕ) → length xs ≡ n → take n (xs ++ ys) ≡ xs
  take-seam xs ys n e = ap (λ k. take k (xs ++ ys)) (sym e) ∙ take-append_seam xs ys

  reverse-short : (xs : List X) (n : ℕ) → length xs ≤ n → reverse (keep_last n xs) ≡ take n (reverse xs)
  reverse-short xs n short =
      let none : length xs - n ≡ 0 = omega arith in
      let within : length (reverse xs) ≤ n = omega (arith, length-reverse xs) in
      ap (λ k. reverse (drop k xs)) none ∙ sym (take_all n (reverse xs) within)

  reverse-long : (xs : List X) (n : ℕ) → n ≤ length xs → reverse (keep_last n xs) ≡ take n (reverse xs)
  reverse-long xs n long =
      let k : ℕ = length xs - n in
      let whole : reverse xs ≡ reverse (drop k xs) ++ reverse (take k xs) =
      ap reverse (sym (take-append-drop k xs)) ∙ reverse-append (take k xs) (drop k xs) in
      let count : length (reverse (drop k xs)) ≡ n = omega (arith, length-reverse (drop k xs), length-drop k xs) in
      sym (ap (take n) whole ∙ take-seam (reverse (drop k xs)) (reverse (take k xs)) n count)

  -- the last n, the latest first, are the first n of all, the latest first
  pub reverse-keep_last : (xs : List X) (n : ℕ) → reverse (keep_last n xs) ≡ take n (reverse xs)
  reverse-keep_last xs n = ⊎_elim (λ long. reverse-long xs n (omega (arith, long))) (λ short. reverse-short xs n short) (cases_lt n (length xs))

  length-keep_last : (xs : List X) (n : ℕ) → length (keep_last n xs) ≤ n
  length-keep_last xs n = omega (arith, length-drop (length xs - n) xs)

  snoc-at : (xs : List X) (k : ℕ) (x : X) → length xs ≡ suc k → slice_get xs k ≡ Some x → xs ≡ take k xs ++ x ∷ []
  snoc-at [] k x count e = absurd (omega (arith, count))
  snoc-at (y ∷ []) zero x count e = ap (λ o. unwrap_or o y ∷ []) e
  snoc-at (y ∷ z ∷ ys) zero x count e = absurd (omega (arith, count))
  snoc-at (y ∷ ys) (suc k) x count e = ap (λ zs. y ∷ zs) (snoc-at ys k x (omega (arith, count)) e)

  popped-at : (d : X) (xs : List X) (k : ℕ) (o : Option X) → length xs ≡ suc k → o ≡ slice_get xs k → xs ≡ take k xs ++ option_to_list o
  popped-at d xs k None count e = absurd (none-some (get_or xs k d) (e ∙ slice_get-get_or xs k d (omega (arith, count))))
  popped-at d xs k (Some x) count e = snoc-at xs k x count (sym e)

  taken-whole : (xs : List X) (o : Option X) → o ≡ last_item xs → xs ≡ take (length xs - 1) xs ++ option_to_list o
  taken-whole [] o e = ap option_to_list (sym e)
  taken-whole (y ∷ ys) o e =
      let last : suc (length ys) - 1 ≡ length ys = omega arith in
      let at : o ≡ slice_get (y ∷ ys) (length ys) = e ∙ ap (slice_get (y ∷ ys)) last in
      popped-at y (y ∷ ys) (length ys) o refl at ∙ ap (λ k. take k (y ∷ ys) ++ option_to_list o) (sym last)

  -- what is left when the last item is taken, and that item
  pub taken : (xs : List X) (n : ℕ) (b : Buffer X) (o : Option X) → o ≡ last_item xs → b ≡ buffer (take (length xs - 1) xs) n → xs ≡ b.items ++ option_to_list o
  taken xs n b o e eb = taken-whole xs o e ∙ ap (λ (c : Buffer X). c.items ++ option_to_list o) (sym eb)

  -- nothing is taken where there is nothing
  pub none-taken : (xs : List X) (o : Option X) → o ≡ last_item xs → IfNone o (xs ≡ [])
  none-taken [] None e = refl
  none-taken (y ∷ ys) None e =
      let within : suc (length ys) - 1 < suc (length ys) = omega arith in
      absurd (none-some (get_or (y ∷ ys) (suc (length ys) - 1) y) (e ∙ slice_get-get_or (y ∷ ys) (suc (length ys) - 1) y within))
  none-taken xs (Some x) e = tt

-- ---- moves

take-before : {A : Type 0} (n : ℕ) (ds : List Move) (m : Whole A) → take n (before ds m) ≡ before (take n ds) m
take-before zero [] m = refl
take-before (suc n) [] m = refl
take-before zero (d ∷ ds) m = refl
take-before (suc n) (d ∷ ds) m = ap (λ ss. state_of (undone d m) ∷ ss) (take-before n ds (undone d m))

take-fits : {A : Type 0} (n : ℕ) (ds : List Move) (m : Whole A) → AllFit ds m → AllFit (take n ds) m
take-fits zero [] m fit = tt
take-fits (suc n) [] m fit = tt
take-fits zero (d ∷ ds) m fit = tt
take-fits (suc n) (d ∷ ds) m fit = (fit.0, take-fits n ds (undone d m) fit.1)

-- ---- the bounded log

few-position : (k f n : ℕ) → k ≤ n → f + k < 2 ^ 62 → (j : ℕ) → j ≡ (k + 1) - ((k + 1) - n) → (f + (k + 1 - n)) + j ≤ 2 ^ 62
few-position k f n few small j e = omega arith

added : {A : Type 0} (m w : Whole A) (ds : List Move) (d : Move) (f n : ℕ) → Made d m w → IsRecent (recent m ds f n) → position (recent_timeline (recent m ds f n)) < 2 ^ 62
    → IsRecent (recent w (keep_last n (ds ++ d ∷ [])) (f + (length ds + 1 - n)) n)
added {A} m w ds d f n made ok small = record {
  fit = subst (λ xs. AllFit xs w) (sym (reverse-keep_last (ds ++ d ∷ []) n)) (take-fits n (reverse (ds ++ d ∷ [])) w (fits_made ds d m w made ok.fit));
  few = length-keep_last (ds ++ d ∷ []) n;
  position = few-position (length ds) f n ok.few (omega (arith, small, length_before ds m)) (length (keep_last n (ds ++ d ∷ [])))
      (omega (arith, length-drop (length (ds ++ d ∷ []) - n) (ds ++ d ∷ []), length-append ds (d ∷ [])));
}

-- an undo record more keeps it a bounded log
pub stays_recent : {A : Type 0} (m w : Whole A) (ds : List Move) (d : Move) (f n g : ℕ) (b : Buffer Move) (now : Recent A) → recent m ds f n ≡ now → IsRecent (recent m ds f n) → Made d m w
    → b ≡ buffer (keep_last n (ds ++ d ∷ [])) n → g ≡ f + (length ds + 1 - n) → position (recent_timeline now) < 2 ^ 62 → IsRecent (recent w b.items g b.capacity)
stays_recent {A} m w ds d f n g b now is ok made eb eg small =
    let before : position (recent_timeline (recent m ds f n)) < 2 ^ 62 = subst (λ (k : Recent A). position (recent_timeline k) < 2 ^ 62) (sym is) small in
    subst (λ (c : Buffer Move). IsRecent (recent w c.items g c.capacity)) (sym eb)
    (subst (λ h. IsRecent (recent w (keep_last n (ds ++ d ∷ [])) h n)) (sym eg) (added m w ds d f n made ok before))

moved : {A : Type 0} (m w : Whole A) (ds : List Move) (d : Move) (f n : ℕ) (s : State) → Made d m w → state_of w ≡ s
    → recent_timeline (recent w (keep_last n (ds ++ d ∷ [])) (f + (length ds + 1 - n)) n) ≡ to s (recent_timeline (recent m ds f n))
moved {A} m w ds d f n s made e =
    let past : before (reverse (keep_last n (ds ++ d ∷ []))) w ≡ take n (state_of m ∷ before (reverse ds) m) =
    ap (λ xs. before xs w) (reverse-keep_last (ds ++ d ∷ []) n) ∙ (sym (take-before n (reverse (ds ++ d ∷ [])) w) ∙ ap (take n) (before_made ds d m w made)) in
    let forgotten : f + (length ds + 1 - n) ≡ f + (suc (length (before (reverse ds) m)) - n) = omega (arith, length_before ds m) in
    λ i. record { now = e i; past = past i; forgotten = forgotten i; keeps = Some n }

-- an undo record more is a move of the timeline
pub moves_on : {A : Type 0} (m w : Whole A) (ds : List Move) (d : Move) (f n g : ℕ) (b : Buffer Move) (now : Recent A) (s : State) → recent m ds f n ≡ now → Made d m w
    → b ≡ buffer (keep_last n (ds ++ d ∷ [])) n → g ≡ f + (length ds + 1 - n) → state_of w ≡ s → recent_timeline (recent w b.items g b.capacity) ≡ to s (recent_timeline now)
moves_on {A} m w ds d f n g b now s is made eb eg e =
    subst (λ (k : Recent A). recent_timeline (recent w b.items g b.capacity) ≡ to s (recent_timeline k)) is
    (ap (λ (c : Buffer Move). recent_timeline (recent w c.items g c.capacity)) eb
    ∙ (ap (λ h. recent_timeline (recent w (keep_last n (ds ++ d ∷ [])) h n)) eg ∙ moved m w ds d f n s made e))

-- ---- a step whose undo record went into the bounded log

abbrev ring_with : {A X : Type 0} → (X → Buffer Move) → (X → ℕ) → Whole A → X → Recent A
ring_with records forgotten m x = recent m (records x).items (forgotten x) (records x).capacity

abbrev Adds : {X : Type 0} → (X → Buffer Move) → (X → ℕ) → X → X → Move → Type 0
Adds records forgotten x y d = HasAdded (records x) (forgotten x) d (records y) (forgotten y)

module _ {A X : Type 0} (records : X → Buffer Move) (forgotten : X → ℕ) where
  -- it stays a bounded log
  pub steps_recent : {T E : Type 0} (r : Result T E) (m w : Whole A) (x y : X) (now : Recent A) → ring_with records forgotten m x ≡ now → IsRecent (ring_with records forgotten m x) → OnOk r (HasMade (Adds records forgotten x y) m w) → OnErr r (w ≡ m) → OnErr r (y ≡ x)
      → position (recent_timeline now) < 2 ^ 62 → IsRecent (ring_with records forgotten w y)
  steps_recent (Ok t) m w x y now view ok made same none small =
      stays_recent m w (records x).items made.move (forgotten x) (records x).capacity (forgotten y) (records y) now view ok made.made made.is_kept.kept made.is_kept.counted small
  steps_recent (Err e) m w x y now view ok made same none small = subst (λ v. IsRecent (ring_with records forgotten v y)) (sym same) (subst (λ z. IsRecent (ring_with records forgotten m z)) (sym none) ok)

  -- it is the move forward
  pub steps_on : {T E : Type 0} (r : Result T E) (m w : Whole A) (x y : X) (now : Recent A) → ring_with records forgotten m x ≡ now → OnOk r (state_of w ≡ step_of m.program (state_of m)) → OnOk r (HasMade (Adds records forgotten x y) m w)
      → OnOk r (recent_timeline (ring_with records forgotten w y) ≡ forward now.machine.program (recent_timeline now))
  steps_on (Ok t) m w x y now view step made =
      moves_on m w (records x).items made.move (forgotten x) (records x).capacity (forgotten y) (records y) now (step_of now.machine.program (state_of now.machine)) view made.made made.is_kept.kept made.is_kept.counted
      (step ∙ ap (λ (k : Recent A). step_of k.machine.program (state_of k.machine)) view)
  steps_on (Err e) m w x y now view step made = tt

-- so is a poke that isn't refused
pub pokes_on : {A : Type 0} (m w : Whole A) (ds : List Move) (d : Move) (f n g : ℕ) (b : Buffer Move) (now : Recent A) (r : Result State PokeFault) → recent m ds f n ≡ now → Made d m w
    → b ≡ buffer (keep_last n (ds ++ d ∷ [])) n → g ≡ f + (length ds + 1 - n) → r ≡ Ok (state_of w) → poked (recent_timeline now) r ≡ Ok (recent_timeline (recent w b.items g b.capacity))
pokes_on {A} m w ds d f n g b now r is made eb eg e =
    ap (poked (recent_timeline now)) e ∙ ap Ok (sym (moves_on m w ds d f n g b now (state_of w) is made eb eg refl))

-- ---- the latest undone

module _ {A : Type 0} (m w : Whole A) (ds es : List Move) (d : Move) (o : Option Move) (f n k : ℕ) where
  whole-was : ds ≡ es ++ option_to_list o → o ≡ Some d → ds ≡ es ++ d ∷ []
  whole-was e is = e ∙ ap (λ p. es ++ option_to_list p) is

  reverse-was : ds ≡ es ++ option_to_list o → o ≡ Some d → reverse ds ≡ d ∷ reverse es
  reverse-was e is = ap reverse (whole-was e is) ∙ reverse-append es (d ∷ [])

  fit-was : ds ≡ es ++ option_to_list o → o ≡ Some d → IsRecent (recent m ds f n) → AllFit (d ∷ reverse es) m
  fit-was e is ok = subst (λ xs. AllFit xs m) (reverse-was e is) ok.fit

  length-was : ds ≡ es ++ option_to_list o → o ≡ Some d → length ds ≡ length es + 1
  length-was e is = ap length (whole-was e is) ∙ length-append es (d ∷ [])

  -- the latest may be put back
  pub latest_fits : ds ≡ es ++ option_to_list o → o ≡ Some d → IsRecent (recent m ds f n) → Fits d m
  latest_fits e is ok = (fit-was e is ok).0

  -- what is left is a bounded log
  pub stays_back : ds ≡ es ++ option_to_list o → o ≡ Some d → w ≡ undone d m → k ≡ n → IsRecent (recent m ds f n) → IsRecent (recent w es f k)
  stays_back e is ew ek ok = record {
    fit = subst (AllFit (reverse es)) (sym ew) (fit-was e is ok).1;
    few = omega (arith, ok.few, length-was e is, ek);
    position = omega (arith, ok.position, length-was e is);
  }

  -- and it is the timeline a move back
  pub goes_back : (now : Recent A) → recent m ds f n ≡ now → ds ≡ es ++ option_to_list o → o ≡ Some d → w ≡ undone d m → k ≡ n → back (recent_timeline now) ≡ Some (recent_timeline (recent w es f k))
  goes_back now view e is ew ek =
      subst (λ (r : Recent A). back (recent_timeline r) ≡ Some (recent_timeline (recent w es f k))) view
      (ap (λ xs. back_to (recent_timeline (recent m ds f n)) (before xs m)) (reverse-was e is)
      ∙ (ap (λ v. Some (recent_timeline (recent v es f n))) (sym ew) ∙ ap (λ j. Some (recent_timeline (recent w es f j))) (sym ek)))
