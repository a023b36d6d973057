-- What is suspicious by number is what is suspicious by names.
use Rattle.std.proofs.Common.{◌≡◌, ◌∙◌, ℕ, zero, suc, ◌+◌, ◌-◌, ◌^◌, ◌<◌, ◌≤◌, min, max, leb, Bool, true, false, ◌&&◌, ◌||◌, List, [], ◌∷◌, ◌++◌, map, Option, Some, None, slice_get, refl, sym, ap, subst, arith}
use Rattle.std.proofs.lemmas.Bool.Decides.{nat_tests}
use Rattle.std.specs.Prelude.{option_map, not, All, unwrap_or, length, if◌then◌else◌}
use Rattle.std.specs.List.{AllByRecursion}
use Rattle.std.proofs.Math.Bool.{or-false}
use Rattle.std.proofs.lemmas.List.{map-append}
use Rattle.qil_layout.proofs.BytesLemmas.{few_bytes}
use Rattle.std.proofs.lemmas.List.Elements.{recursion_from_All}
use Rattle.qil_tree.specs.declared.tree.Program.{Program}
use Rattle.qil_memory.specs.qil_layout.Layout.{data_base, bytes_of}
use Rattle.qil_memory.specs.Buffers.{stack_base}
use Rattle.qil_semantics.specs.State.{Frame, State}
use Rattle.qil_semantics.specs.Stops.{place_of}
use Rattle.qil_shadow.specs.declared.origin.Origin.{Origin}
use Rattle.qil_shadow.specs.declared.origin.Origin.TheVariants as origins
use Rattle.qil_shadow.specs.declared.access.Kind.{Kind}
use Rattle.qil_shadow.specs.declared.access.Kind.TheVariants as kinds
use Rattle.qil_shadow.specs.declared.object.ObjectKind.{ObjectKind}
use Rattle.qil_shadow.specs.declared.object.ObjectKind.TheVariants as object_kinds
use Rattle.qil_shadow.specs.declared.object.Object.{Object}
use Rattle.qil_shadow.specs.declared.suspicion.Access.{Access}
use Rattle.qil_shadow.specs.declared.suspicion.Doubt.{Doubt}
use Rattle.qil_shadow.specs.declared.suspicion.Place.{Place}
use Rattle.qil_shadow.specs.declared.suspicion.Suspicion.{Suspicion}
use Rattle.qil_shadow.specs.Starting.{IsOf}
use Rattle.qil_shadow.specs.Objects as by_names
use Rattle.qil_shadow.specs.Accesses.{are_live}
use Rattle.qil_shadow.specs.Suspicions as suspicions
use Rattle.qil_shadow.specs.Shadow.{Shadow}
use Rattle.qil_shadow.specs.Numbered.{kind_named, object_named, has_bytes, is_function}
use Rattle.qil_shadow.specs.Table.{is_living, object_at, IsLow}
use Rattle.qil_shadow.specs.Doubts.{doubt, outside_by, doubt_through, through_found, is_all_in, doubt_by, live_between, hit_by, told_by, suspicion_by, access_named, doubt_named, hit_named, place_named, suspicion_named, StandsFor}
use Rattle.qil_shadow.proofs.ObjectsByName.{object_at_named}

get_named : {A : Type 0} (p : Program A) (os : List Object) (i : ℕ) → slice_get (map (object_named p) os) i ≡ option_map (object_named p) (slice_get os i)
get_named p [] i = refl
get_named p (o ∷ os) zero = refl
get_named p (o ∷ os) (suc i) = get_named p os i

function_named : {A : Type 0} (p : Program A) (k : ObjectKind) → by_names.is_function_kind (kind_named p k) ≡ is_function k
function_named p (object_kinds.Data n) = refl
function_named p (object_kinds.Func f) = refl
function_named p (object_kinds.BuiltIn b) = refl
function_named p (object_kinds.Slot f s) = refl

-- by whether it is living, a function, and all in there
by_tests : {A : Type 0} (p : Program A) (living code inside : Bool) (one other : Doubt)
    → option_map (doubt_named p) (if not living then Some one else (if code || not inside then Some other else None))
    ≡ (if not living then Some (doubt_named p one) else (if code || not inside then Some (doubt_named p other) else None))
by_tests p false code inside one other = refl
by_tests p true true inside one other = refl
by_tests p true false true one other = refl
by_tests p true false false one other = refl

through_named : {A : Type 0} (p : Program A) (a : Access) (o : Object) → option_map (doubt_named p) (doubt_through a o) ≡ suspicions.through_object (access_named a) (Some (object_named p o))
through_named p a o =
    by_tests p (is_living o) (is_function o.kind) (has_bytes o a.address a.count) (record { kind = kinds.Stale; object = Some o }) (record { kind = kinds.Bounds; object = Some o })
    ∙ ap (λ code. if not (is_living o) then Some (doubt_named p (record { kind = kinds.Stale; object = Some o })) else
    (if code || not (has_bytes o a.address a.count) then Some (doubt_named p (record { kind = kinds.Bounds; object = Some o })) else None)) (sym (function_named p o.kind))

found_named : {A : Type 0} (p : Program A) (a : Access) (o : Option Object) → option_map (doubt_named p) (through_found a o) ≡ suspicions.through_object (access_named a) (option_map (object_named p) o)
found_named p a (Some o) = through_named p a o
found_named p a None = refl

mixed_by : {A : Type 0} (p : Program A) (inside : Bool) (one : Doubt) → option_map (doubt_named p) (if inside then None else Some one) ≡ (if inside then None else Some (doubt_named p one))
mixed_by p true one = refl
mixed_by p false one = refl

all_in_named : {A : Type 0} (p : Program A) (a : Access) (o : Option Object) → suspicions.is_all_in (access_named a) (option_map (object_named p) o) ≡ is_all_in a o
all_in_named p a (Some o) = refl
all_in_named p a None = refl

pub doubt_by_name : {A : Type 0} (p : Program A) (os : List Object) (a : Access) (m : Origin) → option_map (doubt_named p) (doubt_by os a m) ≡ suspicions.doubted (map (object_named p) os) (access_named a) m
doubt_by_name p os a origins.Number = refl
doubt_by_name p os a (origins.Address o) = found_named p a (slice_get os o.index) ∙ ap (suspicions.through_object (access_named a)) (sym (get_named p os o.index))
doubt_by_name p os a (origins.Part o k) = refl
doubt_by_name p os a origins.Cut = refl
doubt_by_name p os a origins.Mixed =
    mixed_by p (is_all_in a (object_at os a.address)) (record { kind = kinds.Stray; object = None })
    ∙ ap (λ inside. if inside then None else Some (doubt_named p (record { kind = kinds.Stray; object = None })))
    (sym (all_in_named p a (object_at os a.address)) ∙ ap (suspicions.is_all_in (access_named a)) (sym (object_at_named p os a.address)))

hit_none : {A : Type 0} (p : Program A) (live : Bool) (a : ℕ) → hit_named p (hit_by a None live) ≡ suspicions.hit_in a None live
hit_none p true a = refl
hit_none p false a = refl

pub hit_by_name : {A : Type 0} (p : Program A) (a : ℕ) (o : Option Object) (live : Bool) → hit_named p (hit_by a o live) ≡ suspicions.hit_in a (option_map (object_named p) o) live
hit_by_name p a (Some o) live = refl
hit_by_name p a None live = hit_none p live a

-- by whether the object has the first byte
outside_test : (inside : Bool) (at end : ℕ) → (inside ≡ true → at ≤ end) → end < 2 ^ 64 → (if inside then min end (2 ^ 64 - 1) else at) ≡ (if inside then max at end else at)
outside_test true at end low fits = let below = low refl in omega (arith, below, fits)
outside_test false at end low fits = refl

second_test : (b c : Bool) → (b && c) ≡ true → c ≡ true
second_test true c e = e
second_test false c e = absurd (cc)

outside_named : (a : Access) (o : Object) → o.address + o.size < 2 ^ 64 → outside_by a o ≡ (if has_bytes o a.address 1 then max a.address (o.address + o.size) else a.address)
outside_named a o fits =
    outside_test (has_bytes o a.address 1) a.address (o.address + o.size)
    (λ has. let high : leb (a.address + 1) (o.address + o.size) ≡ true = second_test (leb o.address a.address) (leb (a.address + 1) (o.address + o.size)) has in
    let below : a.address + 1 ≤ o.address + o.size = grind (arith, nat_tests) in omega (arith, below)) fits

-- where the object that was meant ends below 2^64
pub told_by_name : {A : Type 0} (p : Program A) (a : Access) (k : Kind) (o : Option Object) → ((x : Object) → o ≡ Some x → x.address + x.size < 2 ^ 64)
    → told_by a k o ≡ suspicions.told_address (access_named a) k (option_map (object_named p) o)
told_by_name p a kinds.Bounds (Some o) fits = outside_named a o (fits o refl)
told_by_name p a kinds.Bounds None fits = refl
told_by_name p a kinds.Stale o fits = refl
told_by_name p a kinds.Cut o fits = refl
told_by_name p a kinds.Stray o fits = refl

-- ---- what is noted

-- so many bytes are live by the end of the data and the top
live_in : (a n top data_end : ℕ) (above_base in_data : Bool) → leb stack_base a ≡ above_base → leb data_base a ≡ in_data → data_end < stack_base
    → ((in_data && leb (a + n) data_end) || (above_base && leb (a + n) top)) ≡ (if above_base then leb (a + n) top else in_data && leb (a + n) data_end)
live_in a n top data_end true true above from low = let past : leb (a + n) data_end ≡ false = grind (arith, nat_tests) in rw past refl
live_in a n top data_end true false above from low = refl
live_in a n top data_end false true above from low = or-false (leb (a + n) data_end)
live_in a n top data_end false false above from low = refl

pub live_by_name : {A : Type 0} (p : Program A) (s : State) (a n top data_end : ℕ) → data_end ≡ data_base + length (bytes_of p) → length (bytes_of p) ≤ 2 ^ 20 → top ≡ s.top
    → are_live p s a n ≡ live_between data_end top a n
live_by_name p s a n top data_end ends few same =
    (λ i. (leb data_base a && leb (a + n) (sym ends i)) || (leb stack_base a && leb (a + n) (sym same i)))
    ∙ live_in a n top data_end (leb stack_base a) (leb data_base a) refl refl (omega (arith, ends, few))

-- an access is noted as the definition has it: of an object that ends below 2^64
one_named : {A : Type 0} (p : Program A) (s : State) (sh : Shadow) (f : Frame) (os : List Object) (data_end top position : ℕ) (place : Place) (a : Access) (d : Option Doubt)
    → ((e : Doubt) (x : Object) → d ≡ Some e → e.object ≡ Some x → x.address + x.size < 2 ^ 64)
    → sh.objects ≡ map (object_named p) os → sh.position ≡ position → place_of f ≡ place_named p place → ((b : ℕ) → are_live p s b 1 ≡ live_between data_end top b 1)
    → map (suspicion_named p) (suspicion_by os data_end top position place a d) ≡ suspicions.suspicion p s sh f (access_named a) (option_map (doubt_named p) d)
one_named p s sh f os data_end top position place a None low objects at here live = refl
one_named {A} p s sh f os data_end top position place a (Some d) low objects at here live =
    let told : told_by a d.kind d.object ≡ suspicions.told_address (access_named a) d.kind (option_map (object_named p) d.object) = told_by_name p a d.kind d.object (λ x meant. low d x refl meant) in
    let there = suspicions.told_address (access_named a) d.kind (option_map (object_named p) d.object) in
    let hit : hit_named p (hit_by (told_by a d.kind d.object) (object_at os (told_by a d.kind d.object)) (live_between data_end top (told_by a d.kind d.object) 1)) ≡ suspicions.hit_at p s sh.objects there =
    ap (λ b. hit_named p (hit_by b (object_at os b) (live_between data_end top b 1))) told
    ∙ hit_by_name p there (object_at os there) (live_between data_end top there 1)
    ∙ (λ i. suspicions.hit_in there (sym (object_at_named p os there) i) (sym (live there) i))
    ∙ (λ i. suspicions.hit_in there (by_names.object_at (sym objects i) there) (are_live p s there 1)) in
    λ i. record { position = sym at i; place = sym here i; kind = d.kind; access = access_named a; object = option_map (object_named p) d.object; hit = hit i } ∷ []

-- the object that was meant is one of all
some_low : (os : List Object) (i : ℕ) (o x : Object) → All IsLow os → slice_get os i ≡ Some o → Some o ≡ Some x → IsLow x
some_low os i o x low at same = subst IsLow (ap (λ (q : Option Object). unwrap_or q o) same) (each_low os i o (recursion_from_All IsLow os low) at)
  where
    each_low : (os : List Object) (i : ℕ) (o : Object) → AllByRecursion IsLow os → slice_get os i ≡ Some o → IsLow o
    each_low [] i o low at = absurd cc
    each_low (y ∷ os) zero o low at = subst IsLow (ap (λ (q : Option Object). unwrap_or q y) at) low.0
    each_low (y ∷ os) (suc i) o low at = each_low os i o low.1 at

through_low : (os : List Object) (i : ℕ) (a : Access) (living code inside : Bool) (o x : Object) (e : Doubt) → All IsLow os → slice_get os i ≡ Some o
    → (if not living then doubt kinds.Stale (Some o) else (if code || not inside then doubt kinds.Bounds (Some o) else None)) ≡ Some e → e.object ≡ Some x → IsLow x
through_low os i a false code inside o x e low at is meant = some_low os i o x low at (ap (λ (q : Option Doubt). unwrap_or (option_map (λ (d : Doubt). d.object) q) None) is ∙ meant)
through_low os i a true true inside o x e low at is meant = some_low os i o x low at (ap (λ (q : Option Doubt). unwrap_or (option_map (λ (d : Doubt). d.object) q) None) is ∙ meant)
through_low os i a true false false o x e low at is meant = some_low os i o x low at (ap (λ (q : Option Doubt). unwrap_or (option_map (λ (d : Doubt). d.object) q) None) is ∙ meant)
through_low os i a true false true o x e low at is meant = absurd cc

found_low : (os : List Object) (i : ℕ) (a : Access) (q : Option Object) (x : Object) (e : Doubt) → All IsLow os → slice_get os i ≡ q → through_found a q ≡ Some e → e.object ≡ Some x → IsLow x
found_low os i a None x e low at is meant = absurd cc
found_low os i a (Some o) x e low at is meant = through_low os i a (is_living o) (is_function o.kind) (has_bytes o a.address a.count) o x e low at is meant

none_meant : (k : Kind) (x : Object) (e : Doubt) → doubt k None ≡ Some e → e.object ≡ Some x → IsLow x
none_meant k x e is meant = absurd (let same : None ≡ Some x = ap (λ (q : Option Doubt). unwrap_or (option_map (λ (d : Doubt). d.object) q) None) is ∙ meant in cc)

mixed_low : (inside : Bool) (x : Object) (e : Doubt) → (if inside then None else doubt kinds.Stray None) ≡ Some e → e.object ≡ Some x → IsLow x
mixed_low true x e is meant = absurd cc
mixed_low false x e is meant = none_meant kinds.Stray x e is meant

doubt_low : (os : List Object) (a : Access) (m : Origin) (x : Object) (e : Doubt) → All IsLow os → doubt_by os a m ≡ Some e → e.object ≡ Some x → IsLow x
doubt_low os a origins.Number x e low is meant = absurd cc
doubt_low os a (origins.Address o) x e low is meant = found_low os o.index a (slice_get os o.index) x e low refl is meant
doubt_low os a (origins.Part o k) x e low is meant = none_meant kinds.Cut x e is meant
doubt_low os a origins.Cut x e low is meant = none_meant kinds.Cut x e is meant
doubt_low os a origins.Mixed x e low is meant = mixed_low (is_all_in a (object_at os a.address)) x e is meant

-- what `look` notes is what the definition says of the access
pub noted_by_name : {A : Type 0} (p : Program A) (s : State) (sh : Shadow) (f : Frame) (os : List Object) (data_end top position : ℕ) (place : Place) (a : Access) → All IsLow os
    → sh.objects ≡ map (object_named p) os → sh.position ≡ position → place_of f ≡ place_named p place → data_end ≡ data_base + length (bytes_of p) → length (bytes_of p) ≤ 2 ^ 20 → top ≡ s.top
    → map (suspicion_named p) (suspicion_by os data_end top position place a (doubt_by os a a.origin)) ≡ suspicions.suspicion p s sh f (access_named a) (suspicions.doubted sh.objects (access_named a) a.origin)
noted_by_name p s sh f os data_end top position place a low objects at here ends few same =
    one_named p s sh f os data_end top position place a (doubt_by os a a.origin) (λ e x is meant. doubt_low os a a.origin x e low is meant) objects at here
    (λ b. live_by_name p s b 1 top data_end ends few same)
    ∙ ap (suspicions.suspicion p s sh f (access_named a)) (doubt_by_name p os a a.origin ∙ (λ i. suspicions.doubted (sym objects i) (access_named a) a.origin))

pub looked_named : {A : Type 0} (p : Program A) (s : State) (sh : Shadow) (f : Frame) (names : Program A) (starts : List ℕ) (os : List Object) (data_end top position : ℕ) (place : Place) (a : Access)
    (was now : List Suspicion) → All IsLow os → IsOf p names starts data_end → StandsFor p s sh f os top position place
    → now ≡ was ++ suspicion_by os data_end top position place a (doubt_by os a a.origin)
    → map (suspicion_named p) now ≡ map (suspicion_named p) was ++ suspicions.suspicion p s sh f (access_named a) (suspicions.doubted sh.objects (access_named a) a.origin)
looked_named p s sh f names starts os data_end top position place a was now low own stands noted =
    ap (map (suspicion_named p)) noted
    ∙ map-append (suspicion_named p) was (suspicion_by os data_end top position place a (doubt_by os a a.origin))
    ∙ ap (λ more. map (suspicion_named p) was ++ more)
    (noted_by_name p s sh f os data_end top position place a low stands.objects_are stands.position_is stands.place_is own.end_is (few_bytes p own.starts_are.no_fault) stands.top_is)
