-- Objects: what addresses are made from.
use Rattle.std.specs.Prelude.{ℕ, ◌+◌, Bool, true, false, ◌==◌, ◌&&◌, nat_le, if◌then◌else◌, List, [], ◌∷◌, ◌++◌, map, find, codes, Option, Some, None, is_none, unwrap_or}
use Rattle.qil_tree.specs.declared.tree.Data.{Data}
use Rattle.qil_tree.specs.declared.tree.Func.{Func}
use Rattle.qil_tree.specs.declared.tree.Program.{Program}
use Rattle.qil_symbols.specs.Numbers.{place_of}
use Rattle.qil_memory.specs.qil_layout.Layout.{size_of, data_base, start_of, end_of}
use Rattle.qil_semantics.specs.State.{Name}
use Rattle.qil_shadow.specs.declared.origin.ObjectId.{ObjectId}

-- a data object; a function, or one that every program has; what a temporary of a function was given by an `alloc`
pub data ObjectKind : Type 0 where
  of_data : Name → ObjectKind
  of_function : Name → ObjectKind
  of_slot : Name → Name → ObjectKind

-- Where an object lies, and how many bytes it has. One of the stack was made by a move, while so many calls were not over, and
-- ends with the innermost of these: the identity is its number among all, so the same bytes given again are another object.
pub record Object : Type 0 where
  pub kind : ObjectKind
  pub address : ℕ
  pub size : ℕ
  pub made : ℕ
  pub depth : ℕ
  pub ended : Option ℕ

-- ---- at the start

abbrev pub fixed : ObjectKind → ℕ → ℕ → Object
fixed kind at n = record { kind = kind; address = at; size = n; made = 0; depth = 0; ended = None }

abbrev pub data_objects : {A : Type 0} → ℕ → List (Data A) → List Object
data_objects at [] = []
data_objects at (d ∷ ds) = fixed (of_data d.name) (start_of at d) (size_of d) ∷ data_objects (end_of at d) ds

-- a function has no bytes
abbrev pub function_objects : {A : Type 0} → ℕ → List (Func A) → List Object
function_objects at [] = []
function_objects at (f ∷ fs) = fixed (of_function f.name) at 0 ∷ function_objects (at + 16) fs

abbrev pub built_in_objects : List Object
built_in_objects = fixed (of_function (codes "putchar")) 1024 0 ∷ fixed (of_function (codes "puts")) 1040 0 ∷ fixed (of_function (codes "exit")) 1056 0 ∷ []

-- the data, the functions, and those that every program has
abbrev pub objects_of : {A : Type 0} → Program A → List Object
objects_of p = data_objects data_base p.datas ++ (function_objects 4096 p.funcs ++ built_in_objects)

abbrev pub object_names : {A : Type 0} → Program A → List Name
object_names p = map (λ d. d.name) p.datas ++ (map (λ f. f.name) p.funcs ++ (codes "putchar" ∷ codes "puts" ∷ codes "exit" ∷ []))

-- the object of a name
abbrev pub object_named : {A : Type 0} → Program A → Name → ObjectId
object_named p g = record { index = unwrap_or (place_of (object_names p) g) 0 }

-- ---- bytes

abbrev pub is_living : Object → Bool
is_living o = is_none o.ended

-- n bytes from an address on are all in the object
abbrev pub contains : Object → ℕ → ℕ → Bool
contains o a n = nat_le o.address a && nat_le (a + n) (o.address + o.size)

abbrev pub has_byte : ℕ → Object → Bool
has_byte a o = is_living o && contains o a 1

-- the living object in which a byte lies; living objects share no byte
abbrev pub object_at : List Object → ℕ → Option Object
object_at os a = find (has_byte a) os

abbrev pub is_function_kind : ObjectKind → Bool
is_function_kind (of_data g) = false
is_function_kind (of_function g) = true
is_function_kind (of_slot g x) = false

-- ---- the end of a call

-- what was made while so many calls were not over ends by a move
abbrev pub ends_with : ℕ → ℕ → Object → Object
ends_with depth position o = if is_living o && o.depth == depth then record o { ended = Some position } else o
