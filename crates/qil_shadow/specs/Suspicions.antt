-- Suspicions: which accesses are one, of which kind, and what is reported of it; and those of a run.
use Rattle.std.specs.Prelude.{ℕ, zero, suc, ◌+◌, ◌-◌, max, Bool, false, not, ◌||◌, if◌then◌else◌, List, [], ◌∷◌, ◌++◌, flat_map, Option, Some, None, slice_get}
use Rattle.qil_tree.specs.declared.tree.Program.{Program}
use Rattle.qil_semantics.specs.State.{Frame, State}
use Rattle.qil_semantics.specs.Stops.{Place, place_of}
use Rattle.qil_semantics.specs.Targets.{after}
use Rattle.qil_shadow.specs.declared.origin.Origin.{Origin}
use Rattle.qil_shadow.specs.declared.origin.Origin.TheVariants.{Number, Address, Part, Cut, Mixed}
use Rattle.qil_shadow.specs.declared.access.Kind.{Kind}
use Rattle.qil_shadow.specs.declared.access.Kind.TheVariants as kinds
use Rattle.qil_shadow.specs.Objects.{Object, ObjectKind, is_living, is_function_kind, contains, object_at}
use Rattle.qil_shadow.specs.Shadow.{Shadow}
use Rattle.qil_shadow.specs.Shadowed.{shadowed}
use Rattle.qil_shadow.specs.Accesses.{Access, are_live, accesses_of}

-- ---- what is suspicious of an access, and the object that was meant

pub record Doubt : Type 0 where
  pub kind : Kind
  pub object : Option Object

abbrev pub doubt : Kind → Option Object → Option Doubt
doubt kind o = Some (record { kind = kind; object = o })

-- one through the address of an object: its call is over, or it isn't wholly in there
abbrev pub through_object : Access → Option Object → Option Doubt
through_object a (Some o) =
    if not (is_living o) then doubt kinds.Stale (Some o) else
    (if is_function_kind o.kind || not (contains o a.address a.count) then doubt kinds.Bounds (Some o) else None)
through_object a None = None

abbrev pub is_all_in : Access → Option Object → Bool
is_all_in a (Some o) = contains o a.address a.count
is_all_in a None = false

abbrev pub doubted : List Object → Access → Origin → Option Doubt
doubted os a Number = None
doubted os a (Address o) = through_object a (slice_get os o.index)
doubted os a (Part o k) = doubt kinds.Cut None
doubted os a Cut = doubt kinds.Cut None
doubted os a Mixed = if is_all_in a (object_at os a.address) then None else doubt kinds.Stray None

-- ---- what was hit

-- so far into an object; live bytes of none; dead bytes
pub data Hit : Type 0 where
  into : ObjectKind → ℕ → Hit
  between : Hit
  dead : Hit

abbrev pub hit_in : ℕ → Option Object → Bool → Hit
hit_in a (Some o) is_live = into o.kind (a - o.address)
hit_in a None is_live = if is_live then between else dead

abbrev pub hit_at : {A : Type 0} → Program A → State → List Object → ℕ → Hit
hit_at p s os a = hit_in a (object_at os a) (are_live p s a 1)

-- of an access that is out of its object, the first byte that is
abbrev pub first_outside : Access → Object → ℕ
first_outside a o = if contains o a.address 1 then max a.address (o.address + o.size) else a.address

-- of which address it is told what lies there
abbrev pub told_address : Access → Kind → Option Object → ℕ
told_address a kinds.Bounds (Some o) = first_outside a o
told_address a kind o = a.address

-- ---- suspicions

-- by which move, at which place, what was done through which address, which object was meant, as it was then, and what was hit
pub record Suspicion : Type 0 where
  pub position : ℕ
  pub place : Place
  pub kind : Kind
  pub access : Access
  pub object : Option Object
  pub hit : Hit

abbrev pub suspicion : {A : Type 0} → Program A → State → Shadow → Frame → Access → Option Doubt → List Suspicion
suspicion p s sh f a None = []
suspicion p s sh f a (Some d) =
    record { position = sh.position; place = place_of f; kind = d.kind; access = a; object = d.object; hit = hit_at p s sh.objects (told_address a d.kind d.object) } ∷ []

abbrev pub suspicions_in : {A : Type 0} → Program A → State → Shadow → List Frame → List Suspicion
suspicions_in p s sh [] = []
suspicions_in p s sh (f ∷ fs) = flat_map (λ a. suspicion p s sh f a (doubted sh.objects a a.origin)) (accesses_of p s sh)

-- those of the next step of a running state
unfoldable pub suspicions_of : {A : Type 0} → Program A → State → Shadow → List Suspicion
suspicions_of p s sh = suspicions_in p s sh s.frames

-- ---- of a run

-- the shadow after so many steps
abbrev pub shadow_after : {A : Type 0} → Program A → State → Shadow → ℕ → Shadow
shadow_after p s sh zero = sh
shadow_after p s sh (suc n) = shadowed p (after p s n) (shadow_after p s sh n)

-- the suspicions of so many steps, in their order
abbrev pub suspicions : {A : Type 0} → Program A → State → Shadow → ℕ → List Suspicion
suspicions p s sh zero = []
suspicions p s sh (suc n) = suspicions p s sh n ++ suspicions_of p (after p s n) (shadow_after p s sh n)
