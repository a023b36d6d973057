-- One more at one place, and how many places were met.
use Rattle.std.proofs.Common.{◌≡◌, refl, sym, ap, ◌∙◌, ℕ, zero, suc, ◌+◌, ◌<◌, ◌≤◌, ◌^◌, ◌==◌, ◌&&◌, Bool, true, false, List, [], ◌∷◌, length, set, Option, Some, None, arith}
use Rattle.std.specs.Prelude.{if◌then◌else◌, map, nat_lt, not, option_map, slice_get}
use Rattle.std.specs.List.{filter}
use Rattle.std.proofs.lemmas.Bool.{true≢false}
use Rattle.std.proofs.lemmas.Bool.Decides.{nat_tests, Decides-eqb}
use Rattle.std.proofs.lemmas.Option.{slice_get-map, slice_get_within}
use mir.Val.{bool_byte}
use Rattle.qil_counts.specs.declared.count.CodePlace.{CodePlace}
use Rattle.qil_counts.specs.declared.count.Count.{Count}
use Rattle.qil_counts.specs.Counts.{is_met, is_there, one_more, same_place}
use Rattle.qil_counts.specs.Rows.{AreNumbered, IsFoundBy, number_at}

-- ---- the place of a counter

both_true : (a b : Bool) → (a && b) ≡ true → (a ≡ true) × (b ≡ true)
both_true true b e = (refl, e)
both_true false b e = absurd cc

same_is : (one other : CodePlace) → same_place one other ≡ true → one ≡ other
same_is one other e =
    let first = both_true (one.func.index == other.func.index) _ e in
    let second = both_true (one.block.index == other.block.index) _ first.1 in
    let func : one.func.index ≡ other.func.index = (Decides-eqb one.func.index other.func.index).0 first.0 in
    let block : one.block.index ≡ other.block.index = (Decides-eqb one.block.index other.block.index).0 second.0 in
    let index : one.index ≡ other.index = (Decides-eqb one.index other.index).0 second.1 in
    λ i. record { func = record { index = func i }; block = record { index = block i }; index = index i }

pub found_by : (blocks blocks' firsts firsts' : List ℕ) (counts : List Count) (place : CodePlace) (number : Option ℕ) → length counts < 2 ^ 64 → AreNumbered blocks firsts counts → blocks' ≡ blocks → firsts' ≡ firsts
    → ((n : ℕ) → n < 2 ^ 64 → number_at blocks' firsts' place ≡ Some n → number ≡ Some n) → IsFoundBy number counts place
found_by blocks blocks' firsts firsts' counts place number bound are eb ef says i one there same =
    let inside = slice_get_within counts i one there in
    says i (omega (arith, bound, inside)) ((λ k. number_at (eb k) (ef k) (same_is place one.place same k)) ∙ are i one there)

-- one more at a place changes no place
place_kept : (x : Count) (b : Bool) → (if b then record x { count = x.count + 1 } else x).place ≡ x.place
place_kept x true = refl
place_kept x false = refl

kept_at : (blocks firsts : List ℕ) (place : Option CodePlace) (i : ℕ) (one : Count) (o : Option Count) → ((x : Count) → o ≡ Some x → number_at blocks firsts x.place ≡ Some i) → option_map (one_more place) o ≡ Some one
    → number_at blocks firsts one.place ≡ Some i
kept_at blocks firsts place i one None are h = absurd cc
kept_at blocks firsts place i one (Some x) are h =
    let is : one_more place x ≡ one = cc in
    ap (λ (y : Count). number_at blocks firsts y.place) (sym is) ∙ ap (number_at blocks firsts) (place_kept x (is_there place x.place)) ∙ are x refl

pub numbered_kept : (blocks firsts : List ℕ) (counts new : List Count) (place : Option CodePlace) → AreNumbered blocks firsts counts → new ≡ map (one_more place) counts → AreNumbered blocks firsts new
numbered_kept blocks firsts counts new place are more i one there =
    kept_at blocks firsts place i one (slice_get counts i) (λ x at. are i x at) (sym (slice_get-map (one_more place) counts i) ∙ ap (λ l. slice_get l i) (sym more) ∙ there)

-- ---- one more

not_true : (b : Bool) → (b ≡ true → ⊥) → b ≡ false
not_true true never = absurd (never refl)
not_true false never = refl

one_not : (place : CodePlace) (x : Count) → same_place place x.place ≡ false → one_more (Some place) x ≡ x
one_not place x e = ap (λ b. if b then record x { count = x.count + 1 } else x) e

pub none_more : (place : CodePlace) (counts : List Count) → ((i : ℕ) (x : Count) → slice_get counts i ≡ Some x → same_place place x.place ≡ true → ⊥) → map (one_more (Some place)) counts ≡ counts
none_more place [] never = refl
none_more place (x ∷ xs) never =
    let here = one_not place x (not_true (same_place place x.place) (never 0 x refl)) in
    let rest = none_more place xs (λ i y. never (suc i) y) in
    λ k. here k ∷ rest k

pub nowhere_more : (counts : List Count) → map (one_more None) counts ≡ counts
nowhere_more [] = refl
nowhere_more (x ∷ xs) = ap (λ l. x ∷ l) (nowhere_more xs)

pub only_more : (place : CodePlace) (counts : List Count) (n : ℕ) (one : Count) → slice_get counts n ≡ Some one → same_place place one.place ≡ true
    → ((i : ℕ) (x : Count) → slice_get counts i ≡ Some x → same_place place x.place ≡ true → i ≡ n) → set counts n (record one { count = one.count + 1 }) ≡ map (one_more (Some place)) counts
only_more place [] n one there same only = absurd cc
only_more place (x ∷ xs) zero one there same only =
    let is : x ≡ one = cc in
    let more : one_more (Some place) x ≡ record one { count = one.count + 1 } =
    ap (one_more (Some place)) is ∙ ap (λ b. if b then record one { count = one.count + 1 } else one) same in
    let rest : map (one_more (Some place)) xs ≡ xs = none_more place xs (λ i y at s. let zero_is : suc i ≡ 0 = only (suc i) y at s in absurd (omega (arith, zero_is))) in
    λ k. sym more k ∷ sym rest k
only_more place (x ∷ xs) (suc n) one there same only =
    let here : one_more (Some place) x ≡ x = one_not place x (not_true (same_place place x.place) (λ s. let zero_is : 0 ≡ suc n = only 0 x refl s in absurd (omega (arith, zero_is)))) in
    let rest = only_more place xs n one there same (λ i y at s. let e : suc i ≡ suc n = only (suc i) y at s in omega (arith, e)) in
    λ k. sym here k ∷ rest k

-- no counter has the number, or one of another place
pub past_none : (counts : List Count) (place : CodePlace) (n : ℕ) (number : Option ℕ) → number ≡ Some n → length counts ≤ n → IsFoundBy number counts place → map (one_more (Some place)) counts ≡ counts
past_none counts place n number is le found =
    none_more place counts (λ i x at same. let e : Some n ≡ Some i = sym is ∙ found i x at same in let here : n ≡ i = cc in let inside = slice_get_within counts i x at in absurd (omega (arith, here, inside, le)))

pub other_none : (counts : List Count) (place : CodePlace) (n : ℕ) (number : Option ℕ) (one : Count) → number ≡ Some n → slice_get counts n ≡ Some one → same_place place one.place ≡ false → IsFoundBy number counts place
    → map (one_more (Some place)) counts ≡ counts
other_none counts place n number one is there other found =
    none_more place counts (λ i x at same. let e : Some n ≡ Some i = sym is ∙ found i x at same in let here : n ≡ i = cc in
    let both : Some one ≡ Some x = sym there ∙ ap (slice_get counts) here ∙ at in
    let alike : one ≡ x = cc in
    true≢false (sym same ∙ ap (λ (y : Count). same_place place y.place) (sym alike) ∙ other))

-- what a found number says of the others
pub found_only : (counts : List Count) (place : CodePlace) (n : ℕ) → IsFoundBy (Some n) counts place → (i : ℕ) (x : Count) → slice_get counts i ≡ Some x → same_place place x.place ≡ true → i ≡ n
found_only counts place n found i x at same = let e : Some n ≡ Some i = found i x at same in cc

-- ---- how many were met

pub more_met : (c : ℕ) → nat_lt 0 (c + 1) ≡ true
more_met c = grind (arith, nat_tests)

pub first_byte : (b : Bool) → bool_byte b ≡ (if b then 1 else 0)
first_byte true = refl
first_byte false = refl

met_by : (one new : Count) (xs : List Count) (z : Bool) → (one.count == 0) ≡ z → is_met one ≡ not z → is_met new ≡ true → length (filter is_met (new ∷ xs)) ≡ length (filter is_met (one ∷ xs)) + (if one.count == 0 then 1 else 0)
met_by one new xs true e m met = rw (met, e, m) (omega arith)
met_by one new xs false e m met = rw (met, e, m) (omega arith)

met_test : (c : ℕ) → nat_lt 0 c ≡ not (c == 0)
met_test zero = refl
met_test (suc c) = grind (arith, nat_tests)

shifted : (one x : Count) (a b d : ℕ) (m : Bool) → is_met x ≡ m → a ≡ b + d → length (filter is_met (x ∷ [])) + a ≡ (length (filter is_met (x ∷ [])) + b) + d
shifted one x a b d m e same = omega (arith, same)

met_cons : (x : Count) (xs : List Count) → length (filter is_met (x ∷ xs)) ≡ length (filter is_met (x ∷ [])) + length (filter is_met xs)
met_cons x xs = by (is_met x) refl
  where
    by : (m : Bool) → is_met x ≡ m → length (filter is_met (x ∷ xs)) ≡ length (filter is_met (x ∷ [])) + length (filter is_met xs)
    by true e = rw e (omega arith)
    by false e = rw e (omega arith)

pub met_more : (counts : List Count) (n : ℕ) (one new : Count) → slice_get counts n ≡ Some one → is_met new ≡ true → length (filter is_met (set counts n new)) ≡ length (filter is_met counts) + (if one.count == 0 then 1 else 0)
met_more [] n one new there met = absurd cc
met_more (x ∷ xs) zero one new there met =
    let is : x ≡ one = cc in
    met_by one new xs (one.count == 0) refl (met_test one.count) met ∙ ap (λ (y : Count). length (filter is_met (y ∷ xs)) + (if one.count == 0 then 1 else 0)) (sym is)
met_more (x ∷ xs) (suc n) one new there met =
    let deep = met_more xs n one new there met in
    let front = met_cons x (set xs n new) in
    let back = met_cons x xs in
    omega (arith, deep, front, back)
