-- The mappings of a source, in order.
use Rattle.std.proofs.Common.{◌≡◌, ℕ, zero, suc, ◌+◌, ◌-◌, ◌<◌, ◌≤◌, List, [], ◌∷◌, length, take, drop, Option, Some, None, true, false, ltb, sym, ap, ◌∙◌, subst, arith, inl, inr}
use Rattle.std.specs.Prelude.{slice_index_or, slice_get, IfSome, IfNone}
use Rattle.std.specs.List.{AllWithin}
use Rattle.std.proofs.lemmas.Bool.{cases_lt, ltb-true, ltb-false}
use Rattle.std.proofs.lemmas.List.{take_rest}
use Rattle.std.specs.List.Sorted.{IsPartitionPoint}
use Rattle.qrev_map.specs.Mappings.{Rise, AreBefore, IsFrom, IsFirstFrom, IsNoLater}
use Rattle.qrev_map.specs.declared.file.Mapping.{Mapping}

-- mappings of one line of the source, n places from each other
pub ties_far : (mappings : List Mapping) (d : Mapping) (k n : ℕ) → Rise mappings → k + n < length mappings → (slice_index_or mappings k d).line ≡ (slice_index_or mappings (k + n) d).line
    → (slice_index_or mappings k d).text_line ≤ (slice_index_or mappings (k + n) d).text_line
ties_far mappings d k zero rise lt same = let here : k + 0 ≡ k = omega arith in rw here (omega arith)
ties_far mappings d k (suc n) rise lt same =
    let next : k + suc n ≡ k + n + 1 = omega arith in
    let up = rise.lines k (k + n) d (omega arith) (omega (arith, lt)) in
    let over = rise.lines (k + n) (k + suc n) d (omega arith) lt in
    let tie : (slice_index_or mappings k d).line ≡ (slice_index_or mappings (k + n) d).line = omega (arith, up, over, same) in
    let earlier = ties_far mappings d k n rise (omega (arith, lt)) tie in
    let last : (slice_index_or mappings (k + n) d).text_line ≤ (slice_index_or mappings (k + suc n) d).text_line =
    subst (λ m. (slice_index_or mappings (k + n) d).text_line ≤ (slice_index_or mappings m d).text_line) (sym next)
    (rise.ties (k + n) d (omega (arith, lt)) (subst (λ m. (slice_index_or mappings (k + n) d).line ≡ (slice_index_or mappings m d).line) next (omega (arith, tie, same)))) in
    omega (arith, earlier, last)

-- a mapping comes no later than those after it
pub no_later : (mappings : List Mapping) (d : Mapping) (i j : ℕ) → Rise mappings → i ≤ j → j < length mappings → IsNoLater (slice_index_or mappings i d) (slice_index_or mappings j d)
no_later mappings d i j rise le lt =
    let at : i + (j - i) ≡ j = omega (arith, le) in (
      rise.lines i j d le lt,
      λ same. subst (λ m. (slice_index_or mappings i d).text_line ≤ (slice_index_or mappings m d).text_line) at
          (ties_far mappings d i (j - i) rise (omega (arith, le, lt)) (subst (λ m. (slice_index_or mappings i d).line ≡ (slice_index_or mappings m d).line) (sym at) same)),
    )

-- the mapping at the place where those begin that aren't before a line
pub first_is : (line : ℕ) (mappings : List Mapping) (first : ℕ) (mapping : Mapping) → Rise mappings → AllWithin (λ m. m.line < line) mappings 0 first → AllWithin (λ m. line ≤ m.line) mappings first (length mappings)
    → first < length mappings → ((d : Mapping) → slice_index_or mappings first d ≡ mapping) → IsFirstFrom line mappings mapping
first_is line mappings first mapping rise before from lt is = record {
  there = (first, lt, is mapping);
  not_before = subst (λ m. line ≤ m.line) (is mapping) (from first mapping (omega arith) lt);
  first = λ k d low high least. elim (cases_lt k first) [
    | inl earlier ↦ absurd (omega (arith, before k d low earlier, least))
    | inr later ↦ subst (λ m. IsNoLater m (slice_index_or mappings k d)) (is d) (no_later mappings d first k rise later high)
  ];
}

drop_is : (first : ℕ) (mappings : List Mapping) (mapping : Mapping) → slice_get (drop first mappings) 0 ≡ Some mapping → (first < length mappings) × ((d : Mapping) → slice_index_or mappings first d ≡ mapping)
drop_is zero [] mapping e = let never : None ≡ Some mapping = e in cc
drop_is zero (m ∷ ms) mapping e = let same : m ≡ mapping = cc in (omega arith, λ d. same)
drop_is (suc first) [] mapping e = let never : None ≡ Some mapping = e in cc
drop_is (suc first) (m ∷ ms) mapping e = let inner = drop_is first ms mapping e in (omega (arith, inner.0), inner.1)

drop_none : (first : ℕ) (mappings : List Mapping) → slice_get (drop first mappings) 0 ≡ None → length mappings ≤ first
drop_none zero [] e = omega arith
drop_none zero (m ∷ ms) e = let never : Some m ≡ None = e in cc
drop_none (suc first) [] e = omega arith
drop_none (suc first) (m ∷ ms) e = omega (arith, drop_none first ms e)

pub first_found : (line : ℕ) (mappings from : List Mapping) (found : Option Mapping) → Rise mappings → IsFrom line mappings from → found ≡ slice_get from 0 → IfSome found (IsFirstFrom line mappings)
first_found line mappings from None rise f e = tt
first_found line mappings from (Some mapping) rise f e =
    let here = drop_is f.first mappings mapping (sym (e ∙ ap (λ v. slice_get v 0) f.whole)) in
    first_is line mappings f.first mapping rise f.are_before f.are_not here.0 here.1

pub none_found : (line : ℕ) (mappings from : List Mapping) (found : Option Mapping) → IsFrom line mappings from → found ≡ slice_get from 0 → IfNone found (AreBefore line mappings)
none_found line mappings from None f e =
    let end = drop_none f.first mappings (sym (e ∙ ap (λ v. slice_get v 0) f.whole)) in
    λ k d low high. f.are_before k d low (omega (arith, high, end))
none_found line mappings from (Some mapping) f e = tt

-- those from the place on that a search by halves gives
pub from_point : (line : ℕ) (mappings : List Mapping) (first : ℕ) → first ≤ length mappings → IsPartitionPoint (λ m. ltb m.line line ≡ true) (λ m. ltb m.line line ≡ false) mappings first
    → IsFrom line mappings (take (length mappings - first) (drop first mappings))
from_point line mappings first within point = record {
  first = first;
  whole = take_rest mappings first;
  within = within;
  are_before = λ k d low high. ltb-true (slice_index_or mappings k d).line line (point.0 k d low high);
  are_not = λ k d low high. ltb-false (slice_index_or mappings k d).line line (point.1 k d low high);
}
