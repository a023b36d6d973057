-- Stops and what they represent: the first that does is the same in both lists.
use Rattle.std.proofs.Common.{◌≡◌, refl, sym, ap, ◌∙◌, ℕ, zero, suc, ◌+◌, ◌<◌, Bool, true, false, cond, List, [], ◌∷◌, length, drop, get_or, Option, Some, None, arith}
use Rattle.std.proofs.lemmas.Bool.Decides.{Decides-eqb}
use Rattle.std.specs.Prelude.{◌==◌, find, option_map}
use Rattle.std.specs.List.{filter_map}
use Rattle.qil_tree.specs.declared.tree.Program.{Program}
use Rattle.qil_semantics.specs.State.{State}
use Rattle.qil_semantics.specs.Stops as meaning
use Rattle.qil_semantics.specs.Stops.{Numbered, AreListed, differs, is_held, first_watch, first_break}
use Rattle.qil_stops.specs.declared.stop.NumberedStop.{NumberedStop}
use Rattle.qil_stops.specs.Listed.{IsRising}
use Rattle.qil_stops.specs.Named.{named, named_kind, named_stops, passes}

-- ---- by number

listed-below : (low high : ℕ) (stops : List Numbered) → low < high → AreListed high stops → AreListed low stops
listed-below low high [] lt l = tt
listed-below low high (one ∷ others) lt l = (omega (arith, l.0, lt), l.1)

listed_cases : {A : Type 0} (p : Program A) (low : ℕ) (stop : NumberedStop) (stops : List NumberedStop) (o : Option meaning.Stop) → named_kind p stop.kind ≡ o → low < stop.number → AreListed stop.number (filter_map (named p) stops)
    → AreListed low (filter_map (named p) (stop ∷ stops))
listed_cases p low stop stops None e lt l = rw e (listed-below low stop.number (filter_map (named p) stops) lt l)
listed_cases p low stop stops (Some meant) e lt l = rw e (lt, l)

listed_by : {A : Type 0} (p : Program A) (low given : ℕ) (stops : List NumberedStop) → IsRising low stops given → AreListed low (filter_map (named p) stops)
listed_by p low given [] r = tt
listed_by p low given (stop ∷ stops) r = listed_cases p low stop stops (named_kind p stop.kind) refl r.0 (listed_by p stop.number given stops r.1)

pub named-listed : {A : Type 0} (p : Program A) (low given : ℕ) (stops : List NumberedStop) → IsRising low stops given → AreListed low (named_stops p stops)
unfolding named_stops
named-listed p low given stops r = listed_by p low given stops r

-- ---- the first that does

-- the test of a stop by what it represents
abbrev pub by_name : {A : Type 0} → Program A → (meaning.Stop → Bool) → NumberedStop → Bool
by_name p q stop = passes q (named_kind p stop.kind)

abbrev pub first_by : {A : Type 0} → Program A → (meaning.Stop → Bool) → List NumberedStop → Option ℕ
first_by p q stops = option_map (λ stop. stop.number) (find (by_name p q) stops)

abbrev first_named : {A : Type 0} → Program A → (meaning.Stop → Bool) → List NumberedStop → Option ℕ
first_named p q stops = option_map (λ one. one.number) (find (λ one. q one.stop) (filter_map (named p) stops))

some_cases : {A : Type 0} (p : Program A) (q : meaning.Stop → Bool) (stop : NumberedStop) (stops : List NumberedStop) (meant : meaning.Stop) (b : Bool) → q meant ≡ b → first_named p q stops ≡ first_by p q stops
    → option_map (λ one. one.number) (cond (q meant) (Some (record { number = stop.number; stop = meant })) (find (λ one. q one.stop) (filter_map (named p) stops)))
    ≡ option_map (λ stop. stop.number) (cond (q meant) (Some stop) (find (by_name p q) stops))
some_cases p q stop stops meant true e deep = rw e refl
some_cases p q stop stops meant false e deep = rw e deep

first_cases : {A : Type 0} (p : Program A) (q : meaning.Stop → Bool) (stop : NumberedStop) (stops : List NumberedStop) (o : Option meaning.Stop) → named_kind p stop.kind ≡ o → first_named p q stops ≡ first_by p q stops
    → first_named p q (stop ∷ stops) ≡ first_by p q (stop ∷ stops)
first_cases p q stop stops None e deep = rw e deep
first_cases p q stop stops (Some meant) e deep = rw e (some_cases p q stop stops meant (q meant) refl deep)

first_same : {A : Type 0} (p : Program A) (q : meaning.Stop → Bool) (stops : List NumberedStop) → first_named p q stops ≡ first_by p q stops
first_same p q [] = refl
first_same p q (stop ∷ stops) = first_cases p q stop stops (named_kind p stop.kind) refl (first_same p q stops)

pub first_watch-by : {A : Type 0} (p : Program A) (old new : State) (stops : List NumberedStop) → first_watch old new (named_stops p stops) ≡ first_by p (differs old new) stops
unfolding first_watch named_stops
first_watch-by p old new stops = first_same p (differs old new) stops

pub first_break-by : {A : Type 0} (p : Program A) (s : State) (stops : List NumberedStop) → first_break s (named_stops p stops) ≡ first_by p (is_held s) stops
unfolding first_break named_stops
first_break-by p s stops = first_same p (is_held s) stops

-- ---- in a loop

find_past : (t : NumberedStop → Bool) (xs : List NumberedStop) (i : ℕ) (d : NumberedStop) → i < length xs → t (get_or xs i d) ≡ false → find t (drop i xs) ≡ find t (drop (i + 1) xs)
find_past t [] i d lt miss = absurd (omega (arith, lt))
find_past t (x ∷ xs) zero d lt miss = ap (λ b. cond b (Some x) (find t xs)) miss
find_past t (x ∷ xs) (suc i) d lt miss =
    let more : suc i + 1 ≡ suc (i + 1) = omega arith in
    find_past t xs i d (omega (arith, lt)) miss ∙ ap (λ n. find t (drop n (x ∷ xs))) (sym more)

find_here : (t : NumberedStop → Bool) (xs : List NumberedStop) (i : ℕ) (d : NumberedStop) → i < length xs → t (get_or xs i d) ≡ true → find t (drop i xs) ≡ Some (get_or xs i d)
find_here t [] i d lt hit = absurd (omega (arith, lt))
find_here t (x ∷ xs) zero d lt hit = ap (λ b. cond b (Some x) (find t xs)) hit
find_here t (x ∷ xs) (suc i) d lt hit = find_here t xs i d (omega (arith, lt)) hit

drop_all : (xs : List NumberedStop) → drop (length xs) xs ≡ []
drop_all [] = refl
drop_all (x ∷ xs) = drop_all xs

pub first-past : {A : Type 0} (p : Program A) (q : meaning.Stop → Bool) (stops : List NumberedStop) (i : ℕ) (d : NumberedStop) → i < length stops → by_name p q (get_or stops i d) ≡ false → first_by p q (drop i stops) ≡ first_by p q (drop (i + 1) stops)
first-past p q stops i d lt miss = ap (option_map (λ stop. stop.number)) (find_past (by_name p q) stops i d lt miss)

pub first-here : {A : Type 0} (p : Program A) (q : meaning.Stop → Bool) (stops : List NumberedStop) (i : ℕ) (d : NumberedStop) → i < length stops → by_name p q (get_or stops i d) ≡ true → first_by p q (drop i stops) ≡ Some (get_or stops i d).number
first-here p q stops i d lt hit = ap (option_map (λ stop. stop.number)) (find_here (by_name p q) stops i d lt hit)

pub first-none : {A : Type 0} (p : Program A) (q : meaning.Stop → Bool) (stops : List NumberedStop) (i : ℕ) → i ≡ length stops → first_by p q (drop i stops) ≡ None
first-none p q stops i e = rw (e, drop_all stops) refl

-- no stops represent none
pub named-none : {A : Type 0} (p : Program A) (stops : List NumberedStop) → length stops ≡ 0 → [] ≡ named_stops p stops
unfolding named_stops
named-none p [] e = refl
named-none p (stop ∷ stops) e = absurd (omega (arith, e))

pub no_length : (stops : List NumberedStop) (b : Bool) → b ≡ (length stops == 0) → b ≡ true → length stops ≡ 0
no_length stops b is test = (Decides-eqb (length stops) 0).0 (sym is ∙ test)
