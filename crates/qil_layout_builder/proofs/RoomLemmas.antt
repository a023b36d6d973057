-- The room that is left after a list, item by item.
use Rattle.std.proofs.Common.{◌≡◌, ap, ℕ, ◌+◌, ◌<◌, ◌≤◌, List, drop, get_or, length, arith}
use Rattle.std.specs.List.{sum_by}
use Rattle.std.proofs.lemmas.List.{drop_all}
use Rattle.std.proofs.lemmas.List.Sums.{sum_by-drop_more}

module _ {X : Type 0} (size : X → ℕ) (xs : List X) (room : ℕ) where
  -- what is left, and what is still to come, together
  abbrev pub IsOpen : ℕ → ℕ → Type 0
  IsOpen i left = left + sum_by size xs ≡ room + sum_by size (drop i xs)

  pub one_more : (i left more n : ℕ) (x : X) → IsOpen i left → i < length xs → x ≡ get_or xs i x → n ≡ size x → more + n ≡ left → IsOpen (i + 1) more
  one_more i left more n x left_open l there is e =
      let next = sum_by-drop_more size xs i x l in
      let same : size x ≡ size (get_or xs i x) = ap size there in
      omega (arith, left_open, next, same, is, e)

  pub too_little : (i left n : ℕ) (x : X) → IsOpen i left → i < length xs → x ≡ get_or xs i x → n ≡ size x → left < n → room < sum_by size xs
  too_little i left n x left_open l there is e =
      let next = sum_by-drop_more size xs i x l in
      let same : size x ≡ size (get_or xs i x) = ap size there in
      omega (arith, left_open, next, same, is, e)

  pub all_left : (i left : ℕ) → IsOpen i left → length xs ≤ i → left + sum_by size xs ≡ room
  all_left i left left_open l =
      let none : sum_by size (drop i xs) ≡ 0 = ap (sum_by size) (drop_all i xs l) in
      omega (arith, left_open, none)
