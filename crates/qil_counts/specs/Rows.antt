-- How the counter of a place is found: by the number of the first counter of its block, and that by the number of the first block of
-- its function.
use Rattle.std.specs.Prelude.{◌≡◌, ℕ, ◌+◌, ◌<◌, ◌^◌, true, List, map, Option, Some, option_map, slice_get}
use Rattle.std.specs.List.{range_with_len}
use Rattle.std.specs.Option.{option_and_then}
use Rattle.qil_counts.specs.declared.count.CodePlace.{CodePlace}
use Rattle.qil_counts.specs.declared.count.Count.{Count}
use Rattle.qil_counts.specs.Counts.{place_at, same_place}

-- the first n places of a block
abbrev pub places_at : ℕ → ℕ → ℕ → List CodePlace
places_at f b n = map (place_at f b) (range_with_len 0 n)

abbrev pub number_in_block : ℕ → Option ℕ → Option ℕ
number_in_block k first = option_map (λ n. n + k) first

abbrev pub number_at : List ℕ → List ℕ → CodePlace → Option ℕ
number_at blocks firsts place =
    option_and_then (λ begin. number_in_block place.index (slice_get firsts (begin + place.block.index))) (slice_get blocks place.func.index)

-- each counter is found by its place
abbrev pub AreNumbered : List ℕ → List ℕ → List Count → Type 0
AreNumbered blocks firsts counts = (i : ℕ) (one : Count) → slice_get counts i ≡ Some one → number_at blocks firsts one.place ≡ Some i

-- the counter of a place has this number, if there is one
abbrev pub IsFoundBy : Option ℕ → List Count → CodePlace → Type 0
IsFoundBy number counts place = (i : ℕ) (one : Count) → slice_get counts i ≡ Some one → same_place place one.place ≡ true → number ≡ Some i

-- one more has room in each
abbrev pub AreFew : List Count → Type 0
AreFew counts = (i : ℕ) (one : Count) → slice_get counts i ≡ Some one → one.count < 2 ^ 63
