-- All objects as the code keeps them: by number, those that are there from the start on before those of the stack.
use Rattle.std.specs.Prelude.{◌≡◌, ℕ, suc, ◌+◌, ◌^◌, ◌<◌, ◌≤◌, Bool, true, false, ◌&&◌, ◌==◌, if◌then◌else◌, List, [], ◌∷◌, ◌++◌, length, take, drop, find, get_or, slice_get, AllPairs, ⊤, Option, Some, None, is_none}
use Rattle.std.specs.List.{AllByRecursion}
use Rattle.qil_shadow.specs.declared.object.Object.{Object}
use Rattle.qil_shadow.specs.Numbered.{has_bytes}

-- all objects that there were; how many are there from the start on; and the addresses of the data, which are the first
pub record ObjectTable : Type 0 where
  pub objects : List Object
  pub fixed : ℕ
  pub starts : List ℕ

abbrev pub no_objects : ObjectTable
no_objects = record { objects = []; fixed = 0; starts = [] }

abbrev pub of_stack : ObjectTable → List Object
of_stack t = drop t.fixed t.objects

-- ---- what is so of an object by number, as it is in specs/Objects by name

abbrev pub is_living : Object → Bool
is_living o = is_none o.ended

abbrev pub has_one : ℕ → Object → Bool
has_one a o = has_bytes o a 1

abbrev pub has_byte : ℕ → Object → Bool
has_byte a o = is_living o && has_bytes o a 1

abbrev pub object_at : List Object → ℕ → Option Object
object_at os a = find (has_byte a) os

abbrev pub ends_with : ℕ → ℕ → Object → Object
ends_with depth position o = if is_living o && o.depth == depth then record o { ended = Some position } else o

-- ---- one more

abbrev pub with_object : ObjectTable → Object → ObjectTable
with_object t o = record t { objects = t.objects ++ o ∷ [] }

abbrev pub with_fixed : ObjectTable → Object → ObjectTable
with_fixed t o = record t { objects = t.objects ++ o ∷ []; fixed = t.fixed + 1 }

abbrev pub with_data : ObjectTable → Object → ObjectTable
with_data t o = record { objects = t.objects ++ o ∷ []; fixed = t.fixed + 1; starts = t.starts ++ o.address ∷ [] }

-- one that never ends, since it was made in no call
abbrev pub IsFixed : Object → Type 0
IsFixed o = (o.ended ≡ None) × (o.depth ≡ 0)

-- one that ends below 2^64
abbrev pub IsLow : Object → Type 0
IsLow o = o.address + o.size < 2 ^ 64

-- ---- the order of those of the stack

-- of two that are living the first lies below, and was made in no deeper call
abbrev pub IsBelow : Object → Object → Type 0
IsBelow o x = is_living o ≡ true → is_living x ≡ true → (o.address + o.size ≤ x.address) × (o.depth ≤ x.depth)

-- one that is living was made while no more than so many calls were not over
abbrev pub IsWithin : ℕ → Object → Type 0
IsWithin depth o = is_living o ≡ true → o.depth ≤ depth

-- each lies below those after it
abbrev pub IsStacked : List Object → Type 0
IsStacked [] = ⊤
IsStacked (o ∷ os) = AllByRecursion (IsBelow o) os × IsStacked os

-- the numbers of those that are living, from a number on
abbrev pub living_from : ℕ → List Object → List ℕ
living_from n [] = []
living_from n (o ∷ os) = if is_living o then n ∷ living_from (suc n) os else living_from (suc n) os

-- ---- the data

abbrev pub IsAscending : List ℕ → Type 0
IsAscending xs = AllPairs (λ x y. x < y) xs

-- the number at a place is this one, and at no other place
abbrev pub IsOnlyAt : ℕ → ℕ → List ℕ → Type 0
IsOnlyAt x i xs = (slice_get xs i ≡ Some x) × ((k : ℕ) → slice_get xs k ≡ Some x → k ≡ i)

-- ---- as it is kept

-- the numbers of the living ones of the stack stand in their order; the flag tells that no two of the data begin at one address
pub record IsTable (all : List Object) (fixed : ℕ) (living starts : List ℕ) (are_apart : Bool) : Type 0 where
  pub within : fixed ≤ length all
  pub stay : AllByRecursion IsFixed (take fixed all)
  pub numbers : living ≡ living_from fixed (drop fixed all)
  pub stacked : IsStacked (drop fixed all)
  pub apart : are_apart ≡ true → IsAscending starts
  pub low : AllByRecursion IsLow all

-- ---- what was found

-- the object of a number doesn't have the byte at an address
abbrev pub Lacks : ℕ → List Object → ℕ → Type 0
Lacks a all i = (o : Object) → slice_get all i ≡ Some o → has_bytes o a 1 ≡ false

-- among the objects of some numbers the byte was looked for
abbrev pub HasFound : List Object → List ℕ → ℕ → Option Object → Type 0
HasFound all numbers a None = AllByRecursion (Lacks a all) numbers
HasFound all numbers a (Some o) = (k : ℕ) × (k < length numbers) × (slice_get all (get_or numbers k 0) ≡ Some o) × (has_bytes o a 1 ≡ true)
