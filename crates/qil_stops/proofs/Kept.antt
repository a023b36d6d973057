-- Lists of stops by rising number.
use Rattle.std.proofs.Common.{◌≡◌, ◌≢◌, refl, sym, ap, ◌∙◌, ℕ, zero, suc, ◌+◌, ◌<◌, ◌≤◌, Bool, true, false, cond, List, [], ◌∷◌, ◌++◌, length, take, get_or, Some, eq-eqb, arith}
use Rattle.std.specs.Prelude.{◌==◌, ◌||◌, not, remove, option_map, unwrap_or, slice_get}
use Rattle.std.proofs.Math.Bool.{or-false}
use Rattle.std.proofs.lemmas.Bool.{ne_eqb}
use Rattle.std.proofs.lemmas.Option.{slice_get-get_or}
use Rattle.qil_stops.specs.declared.stop.NumberedStop.{NumberedStop}
use Rattle.qil_stops.specs.Listed.{Listed, IsRising, AreReadable, IsReadable, has_number, is_listed, without}

abbrev number_of : NumberedStop → ℕ
number_of stop = stop.number

-- ---- one more

pub rising-push : (low given : ℕ) (stops : List NumberedStop) (stop : NumberedStop) → IsRising low stops given → given < stop.number → IsRising low (stops ++ stop ∷ []) stop.number
rising-push low given [] stop r lt = (omega (arith, r, lt), omega arith)
rising-push low given (s ∷ stops) stop r lt = (r.0, rising-push s.number given stops stop r.1 lt)

pub readable-push : (stops : List NumberedStop) (stop : NumberedStop) → AreReadable stops → IsReadable stop.kind → AreReadable (stops ++ stop ∷ [])
readable-push [] stop all one = (one, tt)
readable-push (s ∷ stops) stop all one = (all.0, readable-push stops stop all.1 one)

pub readable-at : (stops : List NumberedStop) (i : ℕ) (d : NumberedStop) → AreReadable stops → i < length stops → IsReadable (get_or stops i d).kind
readable-at [] i d all lt = absurd (omega (arith, lt))
readable-at (s ∷ stops) zero d all lt = all.0
readable-at (s ∷ stops) (suc i) d all lt = readable-at stops i d all.1 (omega (arith, lt))

-- ---- one fewer

rising-below : (low high given : ℕ) (stops : List NumberedStop) → low < high → IsRising high stops given → IsRising low stops given
rising-below low high given [] lt r = omega (arith, r, lt)
rising-below low high given (s ∷ stops) lt r = (omega (arith, r.0, lt), r.1)

pub rising-remove : (low given : ℕ) (stops : List NumberedStop) (i : ℕ) → IsRising low stops given → IsRising low (remove stops i) given
rising-remove low given [] zero r = r
rising-remove low given [] (suc i) r = r
rising-remove low given (s ∷ stops) zero r = rising-below low s.number given stops r.0 r.1
rising-remove low given (s ∷ stops) (suc i) r = (r.0, rising-remove s.number given stops i r.1)

pub readable-remove : (stops : List NumberedStop) (i : ℕ) → AreReadable stops → AreReadable (remove stops i)
readable-remove [] zero all = all
readable-remove [] (suc i) all = all
readable-remove (s ∷ stops) zero all = all.1
readable-remove (s ∷ stops) (suc i) all = (all.0, readable-remove stops i all.1)

pub length-remove : (stops : List NumberedStop) (i : ℕ) → length (remove stops i) ≤ length stops
length-remove [] zero = omega arith
length-remove [] (suc i) = omega arith
length-remove (s ∷ stops) zero = omega arith
length-remove (s ∷ stops) (suc i) = let deep = length-remove stops i in omega (arith, deep)

-- ---- the one of a number

keeps : (n : ℕ) (s : NumberedStop) (stops : List NumberedStop) → s.number ≢ n → without n (s ∷ stops) ≡ s ∷ without n stops
keeps n s stops other = ap (λ b. cond (not b) (s ∷ without n stops) (without n stops)) (ne_eqb s.number n other)

-- above a number none is lost
all-kept : (n low given : ℕ) (stops : List NumberedStop) → n ≤ low → IsRising low stops given → without n stops ≡ stops
all-kept n low given [] le r = refl
all-kept n low given (s ∷ stops) le r =
    let above : low < s.number = r.0 in
    keeps n s stops (λ e. omega (arith, above, le, e)) ∙ ap (λ (l : List NumberedStop). s ∷ l) (all-kept n s.number given stops (omega (arith, above, le)) r.1)

-- the number that is at a place is above those before it
above_low : (low given n : ℕ) (stops : List NumberedStop) (i : ℕ) → IsRising low stops given → option_map number_of (slice_get stops i) ≡ Some n → low < n
above_low low given n [] i r at = absurd cc
above_low low given n (s ∷ stops) zero r at = let same : s.number ≡ n = ap (λ o. unwrap_or o n) at in let above : low < s.number = r.0 in omega (arith, above, same)
above_low low given n (s ∷ stops) (suc i) r at = let deep = above_low s.number given n stops i r.1 at in let above : low < s.number = r.0 in omega (arith, deep, above)

-- the stop at the place of a number is the one that is lost
pub without-at : (low given n : ℕ) (stops : List NumberedStop) (i : ℕ) → IsRising low stops given → option_map number_of (slice_get stops i) ≡ Some n → remove stops i ≡ without n stops
without-at low given n [] i r at = absurd cc
without-at low given n (s ∷ stops) zero r at =
    let same : s.number ≡ n = ap (λ o. unwrap_or o n) at in
    sym (ap (λ b. cond (not b) (s ∷ without n stops) (without n stops)) (eq-eqb s.number n same) ∙ all-kept n s.number given stops (omega (arith, same)) r.1)
without-at low given n (s ∷ stops) (suc i) r at =
    let above = above_low s.number given n stops i r.1 at in
    ap (λ (l : List NumberedStop). s ∷ l) (without-at s.number given n stops i r.1 at) ∙ sym (keeps n s stops (λ e. omega (arith, above, e)))

-- ---- where a number is looked for

or-cases : (a b : Bool) → (a || b) ≡ false → (a ≡ false) × (b ≡ false)
or-cases true b e = absurd cc
or-cases false b e = (refl, e)

pub listed-more : (n : ℕ) (stops : List NumberedStop) (i : ℕ) (d : NumberedStop) (b : Bool) → i < length stops → is_listed n (take i stops) ≡ false → has_number n (get_or stops i d) ≡ b → is_listed n (take (i + 1) stops) ≡ b
listed-more n [] i d b lt none here = absurd (omega (arith, lt))
listed-more n (s ∷ stops) zero d b lt none here = or-false (s.number == n) ∙ here
listed-more n (s ∷ stops) (suc i) d b lt none here =
    let w = or-cases (s.number == n) (is_listed n (take i stops)) none in
    let one : suc i + 1 ≡ suc (i + 1) = omega arith in
    ap (λ k. is_listed n (take k (s ∷ stops))) one ∙ (ap (λ x. x || is_listed n (take (i + 1) stops)) w.0 ∙ listed-more n stops i d b (omega (arith, lt)) w.1 here)

or-some : (a b c : Bool) → (a || b) ≡ true → (b ≡ true → c ≡ true) → (a || c) ≡ true
or-some true b c e f = refl
or-some false b c e f = f e

listed-some : (n : ℕ) (stops : List NumberedStop) (i : ℕ) → is_listed n (take i stops) ≡ true → is_listed n stops ≡ true
listed-some n [] zero e = e
listed-some n [] (suc i) e = e
listed-some n (s ∷ stops) zero e = absurd cc
listed-some n (s ∷ stops) (suc i) e = or-some (s.number == n) (is_listed n (take i stops)) (is_listed n stops) e (listed-some n stops i)

pub listed-here : (n : ℕ) (stops : List NumberedStop) (i : ℕ) (d : NumberedStop) → i < length stops → is_listed n (take i stops) ≡ false → has_number n (get_or stops i d) ≡ true → is_listed n stops ≡ true
listed-here n stops i d lt none here = listed-some n stops (i + 1) (listed-more n stops i d true lt none here)

pub listed-none : (n : ℕ) (stops : List NumberedStop) (i : ℕ) → i ≡ length stops → is_listed n (take i stops) ≡ false → is_listed n stops ≡ false
listed-none n [] zero e none = refl
listed-none n [] (suc i) e none = refl
listed-none n (s ∷ stops) zero e none = absurd (omega (arith, e))
listed-none n (s ∷ stops) (suc i) e none =
    let w = or-cases (s.number == n) (is_listed n (take i stops)) none in
    ap (λ x. x || is_listed n stops) w.0 ∙ listed-none n stops i (omega (arith, e)) w.1

pub number-at : (n : ℕ) (stops : List NumberedStop) (i : ℕ) (d : NumberedStop) → i < length stops → (get_or stops i d).number ≡ n → option_map number_of (slice_get stops i) ≡ Some n
number-at n stops i d lt e = ap (option_map number_of) (slice_get-get_or stops i d lt) ∙ ap Some e

-- all that is seen after a deletion
pub listed-without : (given : ℕ) (kept new : List NumberedStop) (n : ℕ) (old : Listed) → new ≡ without n kept → record { given = given; kept = kept } ≡ old → record { given = given; kept = new } ≡ record old { kept = without n old.kept }
listed-without given kept new n old same view =
    ap (λ (l : List NumberedStop). record { given = given; kept = l }) same ∙ ap (λ (stops : Listed). record stops { kept = without n stops.kept }) view
