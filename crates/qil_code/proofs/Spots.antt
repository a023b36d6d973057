-- Places in lists that are put together: of one element, and of two, the one before the other.
use Rattle.std.proofs.Common.{◌≡◌, refl, ℕ, zero, suc, ◌<◌, List, [], ◌∷◌, ◌++◌, Some, arith}
use Rattle.std.specs.Prelude.{slice_get}

abbrev pub One : {X : Type 0} → List X → X → Type 0
One xs x = (n : ℕ) × (slice_get xs n ≡ Some x)

pub record Two {X : Type 0} (xs : List X) (x y : X) : Type 0 where
  pub m : ℕ
  pub n : ℕ
  pub before : m < n
  pub first : slice_get xs m ≡ Some x
  pub second : slice_get xs n ≡ Some y

pub one_more : {X : Type 0} (r : X) (xs : List X) (x : X) → One xs x → One (r ∷ xs) x
one_more r xs x o = (suc o.0, o.1)

pub two_more : {X : Type 0} (r : X) (xs : List X) (x y : X) → Two xs x y → Two (r ∷ xs) x y
two_more r xs x y w = let l = w.before in record { m = suc w.m; n = suc w.n; before = omega (arith, l); first = w.first; second = w.second }

-- after other elements
pub one_behind : {X : Type 0} (pre xs : List X) (x : X) → One xs x → One (pre ++ xs) x
one_behind [] xs x o = o
one_behind (r ∷ pre) xs x o = one_more r (pre ++ xs) x (one_behind pre xs x o)

pub two_behind : {X : Type 0} (pre xs : List X) (x y : X) → Two xs x y → Two (pre ++ xs) x y
two_behind [] xs x y w = w
two_behind (r ∷ pre) xs x y w = two_more r (pre ++ xs) x y (two_behind pre xs x y w)

-- before other elements
pub one_before : {X : Type 0} (xs post : List X) (x : X) → One xs x → One (xs ++ post) x
one_before [] post x (n, e) = absurd cc
one_before (r ∷ xs) post x (zero, e) = (0, e)
one_before (r ∷ xs) post x (suc n, e) = one_more r (xs ++ post) x (one_before xs post x (n, e))

-- the first element, and one after it
pub two_head : {X : Type 0} (x : X) (xs : List X) (y : X) → One xs y → Two (x ∷ xs) x y
two_head x xs y (n, e) = record { m = 0; n = suc n; before = omega arith; first = refl; second = e }
