-- What follows of the definitions.
use Rattle.std.proofs.Common.{◌≡◌, Bool, true, false, ◌||◌, List, Some, None, slice_get, if◌then◌else◌, not, refl, sym, ◌∙◌, ap}
use Rattle.std.proofs.lemmas.Bool.{eq-eqb}
use Rattle.qil_tree.specs.declared.ops.Class.TheVariants as classes
use Rattle.qil_shadow.specs.declared.origin.ObjectId.{ObjectId}
use Rattle.qil_shadow.specs.declared.origin.Origin.{Origin}
use Rattle.qil_shadow.specs.declared.origin.Origin.TheVariants as origins
use Rattle.qil_shadow.specs.Origins.{plain}
use Rattle.qil_shadow.specs.Bytes.{joined, stored_origins}
use Rattle.qil_shadow.specs.Objects.{Object, is_living, is_function_kind, contains, object_at}
use Rattle.qil_shadow.specs.Accesses.{Access}
use Rattle.qil_shadow.specs.Suspicions.{Doubt, doubted, through_object, is_all_in}

none_left : (is_alive is_code is_in : Bool) (one other : Doubt) → (if not is_alive then Some one else (if is_code || not is_in then Some other else None)) ≡ None
    → (is_alive ≡ true) × (is_in ≡ true)
none_left false c i one other e = absurd (cc)
none_left true true i one other e = absurd (cc)
none_left true false false one other e = absurd (cc)
none_left true false true one other e = (refl, refl)

pub undoubted : (os : List Object) (a : Access) (o : ObjectId) (x : Object) → slice_get os o.index ≡ Some x → doubted os a (origins.Address o) ≡ None
    → (is_living x ≡ true) × (contains x a.address a.count ≡ true)
undoubted os a o x is e =
    let of_it : through_object a (Some x) ≡ None = ap (through_object a) (sym is) ∙ e in
    none_left (is_living x) (is_function_kind x.kind) (contains x a.address a.count) _ _ of_it

none_stray : (is_in : Bool) (one : Doubt) → (if is_in then None else Some one) ≡ None → is_in ≡ true
none_stray true one e = refl
none_stray false one e = absurd (cc)

pub undoubted_mixed : (os : List Object) (a : Access) → doubted os a origins.Mixed ≡ None → is_all_in a (object_at os a.address) ≡ true
undoubted_mixed os a e = none_stray (is_all_in a (object_at os a.address)) _ e

pub long_through : (m : Origin) → joined classes.L (stored_origins 8 m) ≡ plain m
long_through origins.Number = refl
long_through (origins.Address o) = rw (eq-eqb o.index o.index refl) refl
long_through (origins.Part o k) = refl
long_through origins.Cut = refl
long_through origins.Mixed = refl

pub low_through : (o : ObjectId) → joined classes.W (stored_origins 4 (origins.Part o 0)) ≡ origins.Part o 0
low_through o = rw (eq-eqb o.index o.index refl) refl
