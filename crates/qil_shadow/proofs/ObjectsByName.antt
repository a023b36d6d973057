-- What is so of objects by number is so of those by name that they stand for.
use Rattle.std.proofs.Common.{◌≡◌, ℕ, Bool, true, false, ◌&&◌, cond, List, [], ◌∷◌, map, Option, Some, refl}
use Rattle.std.specs.Prelude.{option_map, if◌then◌else◌, ◌==◌}
use Rattle.qil_tree.specs.declared.tree.Program.{Program}
use Rattle.qil_shadow.specs.declared.object.Object.{Object}
use Rattle.qil_shadow.specs.Objects as by_names
use Rattle.qil_shadow.specs.Numbered.{object_named}
use Rattle.qil_shadow.specs.Table.{is_living, has_byte, object_at, ends_with}

found_by : {A : Type 0} (p : Program A) (b : Bool) (o : Object) (named : Option by_names.Object) (numbered : Option Object) → named ≡ option_map (object_named p) numbered
    → cond b (Some (object_named p o)) named ≡ option_map (object_named p) (cond b (Some o) numbered)
found_by p true o named numbered e = refl
found_by p false o named numbered e = e

pub object_at_named : {A : Type 0} (p : Program A) (os : List Object) (a : ℕ) → by_names.object_at (map (object_named p) os) a ≡ option_map (object_named p) (object_at os a)
object_at_named p [] a = refl
object_at_named p (o ∷ os) a = found_by p (has_byte a o) o (by_names.object_at (map (object_named p) os) a) (object_at os a) (object_at_named p os a)

ends_by : {A : Type 0} (p : Program A) (b : Bool) (position : ℕ) (o : Object)
    → (if b then record (object_named p o) { ended = Some position } else object_named p o) ≡ object_named p (if b then record o { ended = Some position } else o)
ends_by p true position o = refl
ends_by p false position o = refl

pub ends_with_named : {A : Type 0} (p : Program A) (depth position : ℕ) (os : List Object)
    → map (by_names.ends_with depth position) (map (object_named p) os) ≡ map (object_named p) (map (ends_with depth position) os)
ends_with_named p depth position [] = refl
ends_with_named p depth position (o ∷ os) =
    let others = ends_with_named p depth position os in
    let one = ends_by p (is_living o && o.depth == depth) position o in
    λ i. one i ∷ others i
