-- What is suspicious of an access, by the objects as they are kept by number; and what it stands for by names.
use Rattle.std.specs.Prelude.{◌≡◌, ℕ, ◌+◌, ◌-◌, ◌^◌, min, Bool, false, not, ◌&&◌, ◌||◌, nat_le, if◌then◌else◌, List, [], ◌∷◌, ◌++◌, map, Option, Some, None, option_map, slice_get}
use Rattle.qil_tree.specs.declared.tree.Block.{Block}
use Rattle.qil_tree.specs.declared.tree.Program.{Program}
use Rattle.qil_memory.specs.qil_layout.Layout.{data_base}
use Rattle.qil_memory.specs.Buffers.{stack_base}
use Rattle.qil_semantics.specs.State.{Name, Frame, State}
use Rattle.qil_semantics.specs.Stops as stops
use Rattle.qil_code.specs.Numbered.{func_at, block_at}
use Rattle.qil_shadow.specs.declared.origin.Origin.{Origin}
use Rattle.qil_shadow.specs.declared.origin.Origin.TheVariants as origins
use Rattle.qil_shadow.specs.declared.access.Kind.{Kind}
use Rattle.qil_shadow.specs.declared.access.Kind.TheVariants as kinds
use Rattle.qil_shadow.specs.declared.object.Object.{Object}
use Rattle.qil_shadow.specs.declared.suspicion.Access.{Access}
use Rattle.qil_shadow.specs.declared.suspicion.Doubt.{Doubt}
use Rattle.qil_shadow.specs.declared.suspicion.Place.{Place}
use Rattle.qil_shadow.specs.declared.suspicion.Suspicion.{Suspicion}
use Rattle.qil_shadow.specs.declared.suspicion.Hit.{Hit}
use Rattle.qil_shadow.specs.declared.suspicion.Hit.TheVariants.{Into, Between, Dead}
use Rattle.qil_shadow.specs.Shadow.{Shadow}
use Rattle.qil_shadow.specs.Accesses as accesses
use Rattle.qil_shadow.specs.Suspicions as by_names
use Rattle.qil_shadow.specs.Numbered.{function_name, kind_named, object_named, has_bytes, is_function}
use Rattle.qil_shadow.specs.Table.{is_living, object_at}

-- ---- what is suspicious

abbrev pub doubt : Kind → Option Object → Option Doubt
doubt kind o = Some (record { kind = kind; object = o })

-- of an access through the address of an object
abbrev pub doubt_through : Access → Object → Option Doubt
doubt_through a o =
    if not (is_living o) then doubt kinds.Stale (Some o) else
    (if is_function o.kind || not (has_bytes o a.address a.count) then doubt kinds.Bounds (Some o) else None)

abbrev pub through_found : Access → Option Object → Option Doubt
through_found a (Some o) = doubt_through a o
through_found a None = None

abbrev pub is_all_in : Access → Option Object → Bool
is_all_in a (Some o) = has_bytes o a.address a.count
is_all_in a None = false

abbrev pub doubt_mixed : Access → Option Object → Option Doubt
doubt_mixed a o = if is_all_in a o then None else doubt kinds.Stray None

abbrev pub doubt_by : List Object → Access → Origin → Option Doubt
doubt_by os a origins.Number = None
doubt_by os a (origins.Address o) = through_found a (slice_get os o.index)
doubt_by os a (origins.Part o k) = doubt kinds.Cut None
doubt_by os a origins.Cut = doubt kinds.Cut None
doubt_by os a origins.Mixed = doubt_mixed a (object_at os a.address)

-- ---- what was hit

-- n bytes from an address on are live: all on the stack below its top, or all of the data, which end here
abbrev pub live_between : ℕ → ℕ → ℕ → ℕ → Bool
live_between data_end top a n = if nat_le stack_base a then nat_le (a + n) top else nat_le data_base a && nat_le (a + n) data_end

abbrev pub hit_by : ℕ → Option Object → Bool → Hit
hit_by a (Some o) is_live = Into o.kind (a - o.address)
hit_by a None is_live = if is_live then Between else Dead

-- of an access that is out of its object, the first byte that is; no address is behind this
abbrev pub outside_by : Access → Object → ℕ
outside_by a o = if has_bytes o a.address 1 then min (o.address + o.size) (2 ^ 64 - 1) else a.address

abbrev pub told_by : Access → Kind → Option Object → ℕ
told_by a kinds.Bounds (Some o) = outside_by a o
told_by a kind o = a.address

-- ---- what is noted

abbrev pub noted_by : List Object → ℕ → ℕ → ℕ → Place → Access → Doubt → ℕ → Suspicion
noted_by os data_end top position place a d told =
    record { position = position; place = place; access = a; doubt = d; hit = hit_by told (object_at os told) (live_between data_end top told 1) }

abbrev pub suspicion_by : List Object → ℕ → ℕ → ℕ → Place → Access → Option Doubt → List Suspicion
suspicion_by os data_end top position place a None = []
suspicion_by os data_end top position place a (Some d) = noted_by os data_end top position place a d (told_by a d.kind d.object) ∷ []

-- ---- by names

abbrev pub access_named : Access → accesses.Access
access_named a = record { action = a.action; origin = a.origin; address = a.address; count = a.count }

abbrev pub doubt_named : {A : Type 0} → Program A → Doubt → by_names.Doubt
doubt_named p d = record { kind = d.kind; object = option_map (object_named p) d.object }

abbrev pub hit_named : {A : Type 0} → Program A → Hit → by_names.Hit
hit_named p (Into k n) = by_names.into (kind_named p k) n
hit_named p Between = by_names.between
hit_named p Dead = by_names.dead

abbrev pub label_name : {A : Type 0} → Option (Block A) → Name
label_name None = []
label_name (Some b) = b.label

abbrev pub place_named : {A : Type 0} → Program A → Place → stops.Place
place_named p place = record { func = function_name (func_at p place.func.index); label = label_name (block_at p place.func.index place.block.index); index = place.index }

abbrev pub suspicion_named : {A : Type 0} → Program A → Suspicion → by_names.Suspicion
suspicion_named p s = record {
  position = s.position;
  place = place_named p s.place;
  kind = s.doubt.kind;
  access = access_named s.access;
  object = option_map (object_named p) s.doubt.object;
  hit = hit_named p s.hit;
}

-- a shadow by number stands for the one by names of a state whose innermost frame is at a place
pub record StandsFor {A : Type 0} (p : Program A) (s : State) (sh : Shadow) (f : Frame) (os : List Object) (top position : ℕ) (place : Place) : Type 0 where
  pub objects_are : sh.objects ≡ map (object_named p) os
  pub position_is : sh.position ≡ position
  pub place_is : stops.place_of f ≡ place_named p place
  pub top_is : top ≡ s.top

-- what is suspicious of an access is found, behind what was found before
abbrev pub Reports : {A : Type 0} → Program A → State → Shadow → Frame → accesses.Access → List Suspicion → List Suspicion → Type 0
Reports p s sh f a was now = map (suspicion_named p) now ≡ map (suspicion_named p) was ++ by_names.suspicion p s sh f a (by_names.doubted sh.objects a a.origin)
