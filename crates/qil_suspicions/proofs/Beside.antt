-- The shadow stands beside each state of a run, and what is noted is that of the definition.
use Rattle.std.proofs.Common.{◌≡◌, ◌∙◌, ◌⊎◌, inl, inr, refl, sym, ap, subst, ℕ, zero, suc, ◌+◌, ◌*◌, ◌-◌, ◌^◌, ◌<◌, ◌≤◌, Bool, true, false, if◌then◌else◌, List, [], ◌∷◌, ◌++◌, length, map, Option, Some, None, unwrap_or, Ok, Err, arith}
use Rattle.std.specs.Prelude.{slice_get, flat_map, ◌==◌}
use Rattle.std.specs.List.{AllByRecursion}
use Rattle.std.proofs.lemmas.Bool.{true≢false}
use Rattle.std.proofs.lemmas.List.{length-map}
use Rattle.qil_tree.specs.declared.tree.Expr.{Expr}
use Rattle.qil_tree.specs.declared.tree.Expr.TheVariants as exprs
use Rattle.qil_tree.specs.declared.tree.InstKind.{InstKind}
use Rattle.qil_tree.specs.declared.tree.InstKind.TheVariants as insts
use Rattle.qil_tree.specs.declared.tree.Block.{Block}
use Rattle.qil_tree.specs.declared.tree.Func.{Func}
use Rattle.qil_tree.specs.declared.tree.Program.{Program}
use Rattle.qil_memory.specs.qil_rules.Operands.{inst_reads}
use Rattle.qil_memory.specs.qil_layout.Layout.{bytes_of}
use Rattle.qil_layout.proofs.BytesLemmas.{few_bytes}
use Rattle.qil_memory.specs.Buffers.{stack_base}
use Rattle.qil_semantics.specs.State.{Name, Frame, State, is_final}
use Rattle.qil_semantics.specs.Stops as stops
use Rattle.qil_semantics.specs.Slots.{temps_of}
use Rattle.qil_semantics.specs.Step.{step_of}
use Rattle.qil_semantics.specs.Targets.{after}
use Rattle.qil_semantics.specs.Values.{Outcome, vals, first, second}
use Rattle.qil_code.specs.Facts as facts
use Rattle.qil_code.specs.Facts.{NumbersBlocks}
use Rattle.qil_code.specs.Numbered.{func_at, block_in, block_at, names_of}
use Rattle.qil_frames.specs.Frames.{SlotFrame, HasFrame}
use Rattle.qil_state.specs.declared.status.Status.{Status}
use Rattle.qil_state.specs.declared.status.Status.TheVariants.{Running, Done, Exited, Faulted}
use Rattle.qil_state.specs.Faults.{status_of}
use Rattle.qil_state.specs.State.{Whole, func_name, label_in, head_names, result_of, frame_state, frames_state, state_of, PlaceFits, FrameFits, FramesFit, FramesFor, Floors, IsMachine}
use Rattle.qil_shadow.specs.declared.origin.Origin.{Origin}
use Rattle.qil_shadow.specs.declared.access.Action.TheVariants as actions
use Rattle.qil_shadow.specs.declared.suspicion.Place.{Place}
use Rattle.qil_shadow.specs.declared.suspicion.Suspicion.{Suspicion}
use Rattle.qil_shadow.specs.declared.shadow.Shadow.{Shadow}
use Rattle.qil_shadow.specs.Next.{Next, nothing, inst, jump, next_of}
use Rattle.qil_shadow.specs.Shadow as by_names
use Rattle.qil_shadow.specs.Shadow.{Origins}
use Rattle.qil_shadow.specs.Shadowed.{shadowed}
use Rattle.qil_shadow.specs.Accesses.{Access, access, expr_accesses, blit_accesses, inst_accesses, accesses_on, accesses_by, accesses_in, accesses_of}
use Rattle.qil_shadow.specs.Suspicions.{Doubt, doubted, suspicion, suspicions_in, suspicions_of, shadow_after, suspicions}
use Rattle.qil_shadow.specs.Suspicions as meaning
use Rattle.qil_shadow.specs.Calls.{LiveCalls}
use Rattle.qil_shadow.specs.Numbered.{function_name, shadow_by}
use Rattle.qil_shadow.specs.Doubts.{label_name, place_named, suspicion_named}
use Rattle.qil_shadow.specs.Kept.{Keeps, KeepsAll}
use Rattle.qil_shadow.specs.Shapes.{shapes_of}
use Rattle.qil_shadow.specs.Steps.{IsRuled, number_of, numbers_of, AreBeside, StandsBeside, shadow_of, HasRoom, IsAtPlace, IsReady, Finds, HasFollowed}
use Rattle.qil_shadow.proofs.KeptLemmas.{keeps_on, own_kept}
use Rattle.qil_suspicions.specs.declared.notes.Note.{Note}
use Rattle.qil_suspicions.specs.Notes.{noted}
use Rattle.qil_suspicions.specs.Adding.{at_place, with_notes, note_named}
use Rattle.qil_suspicions.specs.Run.{CheckedRun, CanStep, IsAtStart, HasNoted}
use Rattle.qil_suspicions.specs.Looked.{place_at, HasStepped, AreFound, HasLooked}
use Rattle.qil_suspicions.proofs.Later.{one_later}
use Rattle.qil_suspicions.proofs.Room.{IsFloored, room_then}
use Rattle.qil_suspicions.proofs.ByNumber.{IsIn, AreIn, named_at, AreNotes, all_noted, no_notes}

-- ---- a machine that runs on is ready for the shadow's step

pub runs : (ns : List Name) (st : Status) → is_final (status_of ns st) ≡ false → st ≡ Running
runs ns Running e = refl
runs ns (Done v) e = absurd (true≢false e)
runs ns (Exited w) e = absurd (true≢false e)
runs ns (Faulted f) e = absurd (true≢false e)

frame_in : (fs : List SlotFrame) → HasFrame fs → (f : SlotFrame) × (slice_get fs 0 ≡ Some f)
frame_in [] has = absurd has
frame_in (f ∷ fs) has = (f, refl)

pub first_frame : {A : Type 0} (w : Whole A) → IsMachine w → is_final (state_of w).status ≡ false → (f : SlotFrame) × (slice_get w.frames 0 ≡ Some f)
first_frame w is goes = frame_in w.frames (subst (λ st. FramesFor st w.frames) (runs (head_names w.program w.frames) w.status goes) is.some)

rest_frames : (fs : List SlotFrame) (f : SlotFrame) → slice_get fs 0 ≡ Some f → (gs : List SlotFrame) × (fs ≡ f ∷ gs)
rest_frames [] f e = absurd cc
rest_frames (g ∷ gs) f e = (gs, ap (λ o. unwrap_or o g ∷ gs) e)

block_there : {A : Type 0} (o : Option (Func A)) (j k : ℕ) → PlaceFits (block_in o j) k → (func : Func A) × (block : Block A) × (o ≡ Some func) × (slice_get func.blocks j ≡ Some block)
block_there None j k fits = absurd fits
block_there {A} (Some func) j k fits = by (slice_get func.blocks j) refl fits
  where
    by : (b : Option (Block A)) → slice_get func.blocks j ≡ b → PlaceFits b k → (func2 : Func A) × (block : Block A) × (Some func ≡ Some func2) × (slice_get func2.blocks j ≡ Some block)
    by None e fits = absurd fits
    by (Some block) e fits = (func, block, refl, e)

pub is_in : {A : Type 0} (w : Whole A) (f : SlotFrame) → IsMachine w → slice_get w.frames 0 ≡ Some f → IsIn w.program (place_at f)
is_in {A} w f is at =
    let r = rest_frames w.frames f at in
    let fits : FramesFit w.program (f ∷ r.0) = subst (FramesFit w.program) r.1 is.frames in
    block_there (func_at w.program f.func) f.block f.index fits.0.place

pub ready : {A : Type 0} (w : Whole A) (f : SlotFrame) (sh : Shadow A) → IsMachine w → slice_get w.frames 0 ≡ Some f → CanStep w sh
    → (g : Frame) × (gs : List Frame) × IsReady w.program (state_of w) g gs (place_at f) f.slots sh
ready {A} w f sh is at can =
    let p = w.program in
    let r = rest_frames w.frames f at in
    let here = is_in w f is at in (
      frame_state p r.0 f,
      frames_state p r.0,
      record {
        frames_are = ap (frames_state p) r.1;
        at = record {
          func = here.0;
          block = here.1;
          func_is = here.2;
          block_is = here.3;
          name_is = ap (λ (o : Option (Func A)). func_name o) here.2;
          label_is = ap (λ (o : Option (Func A)). label_in (block_in o f.block)) here.2 ∙ ap (λ (o : Option (Block A)). label_in o) here.3;
          index_is = refl;
          temps_are = refl;
        };
        beside = can.beside;
        room = can.room;
        ruled = can.ruled;
      },
    )

pub stepped : {A : Type 0} (w : Whole A) (q : Program A) (f : SlotFrame) (place : Place) (slots : List (Option ℕ)) (was now : Shadow A) → q ≡ w.program → IsMachine w → slice_get w.frames 0 ≡ Some f
    → place.func.index ≡ f.func → place.block.index ≡ f.block → place.index ≡ f.index → slots ≡ f.slots
    → ((s : State) (g : Frame) (gs : List Frame) → IsReady q s g gs place slots was → Finds q s was now)
    → ((s : State) (g : Frame) (gs : List Frame) → IsReady q s g gs place slots was → was.position < 2 ^ 64 - 1 → is_final (step_of q s).status ≡ false → HasFollowed q s was now)
    → HasStepped w was now
stepped {A} w q f place slots was now program is at func block index same found next =
    let s = state_of w in
    let here : place ≡ place_at f = λ i. record { func = record { index = func i }; block = record { index = block i }; index = index i } in
    let moved : (g : Frame) (gs : List Frame) → IsReady w.program s g gs (place_at f) f.slots was → IsReady q s g gs place slots was =
    λ g gs r. subst (λ (z : Program A). IsReady z s g gs place slots was) (sym program) (subst (λ z. IsReady w.program s g gs z slots was) (sym here) (subst (λ z. IsReady w.program s g gs (place_at f) z was) (sym same) r)) in
    record {
      found = λ can. let r = ready w f was is at can in subst (λ (z : Program A). Finds z s was now) program (found s r.0 r.1 (moved r.0 r.1 r.2));
      next = λ can few on.
          let r = ready w f was is at can in
          subst (λ (z : Program A). HasFollowed z s was now) program (next s r.0 r.1 (moved r.0 r.1 r.2) few ((λ i. is_final (step_of (program i) s).status) ∙ on));
    }

-- a look at the step of a machine that runs on: what was found is noted, or nothing was found
pub looked_found : {A : Type 0} (w : Whole A) (q : Program A) (was mid text now : Shadow A) (old new : List Note) → q ≡ w.program → facts.Finds q → NumbersBlocks q → IsMachine w → (is_final (state_of w).status ≡ false → HasStepped w was mid) → KeepsAll mid text
    → ((f : SlotFrame) → slice_get w.frames 0 ≡ Some f → AreFound f text now old new) → is_final (state_of w).status ≡ false → HasLooked w was now old new
looked_found {A} w q was mid text now old new program finds numbers is step all found goes =
    let f = first_frame w is goes in
    let here = found f.0 f.1 in
    record {
      finds = subst facts.Finds program finds;
      numbers = subst NumbersBlocks program numbers;
      machine = is;
      frame = f.0;
      innermost = f.1;
      stepped = mid;
      step = step goes;
      found = record {
        keeps = keeps_on mid text now all.rest here.keeps;
        none = here.none;
        notes = here.notes ∙ ap (λ xs. with_notes (place_at f.0) xs old) all.found_is;
      };
    }

pub nothing_found : {A : Type 0} (f : SlotFrame) (sh : Shadow A) (ns : List Note) → sh.found.items ≡ [] → AreFound f sh sh ns ns
nothing_found f sh ns none = record {
  keeps = record { calls_are = refl; memory_is = refl; names_are = refl; end_is = refl; position_is = refl; roles_are = refl };
  none = none;
  notes = ap (λ xs. with_notes (place_at f) xs ns) (sym none);
}

floor_low : (top : ℕ) (fs : List SlotFrame) → Floors top fs → stack_base ≤ top
floor_low top [] l = l
floor_low top (f ∷ fs) l = let deep = floor_low f.floor fs l.1 in let here = l.0 in omega (arith, deep, here)

floored : {A : Type 0} (p : Program A) (s : State) (fs : List SlotFrame) → Floors s.top fs → IsFloored s (frames_state p fs)
floored p s [] l = tt
floored p s (f ∷ fs) l = (floor_low f.floor fs l.1, l.0)

pub room_behind : {A : Type 0} (w : Whole A) (sh : Shadow A) → IsMachine w → CanStep w sh → HasRoom w.program (step_of w.program (state_of w))
room_behind w sh is can = room_then w.program (state_of w) can.room (few_bytes w.program can.beside.own.starts_are.no_fault) (floored w.program (state_of w) w.frames is.floors)

-- ---- what is kept behind the step

kept_beside : {A : Type 0} (p : Program A) (s : State) (was now : Shadow A) → Keeps was now → StandsBeside p s was → StandsBeside p s now
kept_beside p s was now k b = record {
  own = own_kept p was now k b.own;
  calls = subst (λ (c : LiveCalls). AreBeside p s.frames (shapes_of c.calls)) (sym k.calls_are) b.calls;
  top = ap (λ (c : LiveCalls). c.top) k.calls_are ∙ b.top;
  none = k.roles_are ∙ b.none;
}

kept_shadow : {A : Type 0} (p : Program A) (s : State) (was now : Shadow A) → Keeps was now → shadow_of p s now ≡ shadow_of p s was
kept_shadow p s was now k = λ i. shadow_by p (numbers_of p s.frames) (k.calls_are i).calls (k.memory_is i) (k.calls_are i).objects.objects (k.position_is i)

-- ---- what is found, at the place of the frame

abbrev put_at : stops.Place → meaning.Suspicion → meaning.Suspicion
put_at place x = record x { place = place }

map_append : {X Y : Type 0} (f : X → Y) (xs ys : List X) → map f (xs ++ ys) ≡ map f xs ++ map f ys
map_append f [] ys = refl
map_append f (x ∷ xs) ys = ap (λ l. f x ∷ l) (map_append f xs ys)

still_at : (place : stops.Place) (xs : List meaning.Suspicion) → AllByRecursion (λ (x : meaning.Suspicion). x.place ≡ place) xs → map (put_at place) xs ≡ xs
still_at place [] all = refl
still_at place (x ∷ xs) all = λ i. record x { place = sym all.0 i } ∷ still_at place xs all.1 i

here_at : {A : Type 0} (p : Program A) (s : State) (sh : by_names.Shadow) (f : Frame) (a : Access) (o : Option Doubt) (place : stops.Place) → stops.place_of f ≡ place → AllByRecursion (λ (x : meaning.Suspicion). x.place ≡ place) (suspicion p s sh f a o)
here_at p s sh f a None place e = tt
here_at p s sh f a (Some d) place e = (e, tt)

one_at : {A : Type 0} (p : Program A) (s : State) (sh : by_names.Shadow) (f : Frame) (a : Access) (o : Option Doubt) (place : stops.Place) → stops.place_of f ≡ place → map (put_at place) (suspicion p s sh f a o) ≡ suspicion p s sh f a o
one_at p s sh f a o place e = still_at place (suspicion p s sh f a o) (here_at p s sh f a o place e)

all_at : {A : Type 0} (p : Program A) (s : State) (sh : by_names.Shadow) (f : Frame) (xs : List Access) (place : stops.Place) → stops.place_of f ≡ place
    → map (put_at place) (flat_map (λ a. suspicion p s sh f a (doubted sh.objects a a.origin)) xs) ≡ flat_map (λ a. suspicion p s sh f a (doubted sh.objects a a.origin)) xs
all_at p s sh f [] place e = refl
all_at p s sh f (a ∷ xs) place e =
    map_append (put_at place) (suspicion p s sh f a (doubted sh.objects a a.origin)) (flat_map (λ b. suspicion p s sh f b (doubted sh.objects b b.origin)) xs)
    ∙ (λ i. one_at p s sh f a (doubted sh.objects a a.origin) place e i ++ all_at p s sh f xs place e i)

found_at : {A : Type 0} (p : Program A) (s : State) (sh : by_names.Shadow) (f : Frame) (gs : List Frame) (place : stops.Place) → s.frames ≡ f ∷ gs → stops.place_of f ≡ place → map (put_at place) (suspicions_of p s sh) ≡ suspicions_of p s sh
unfolding suspicions_of
found_at p s sh f gs place frames e =
    (λ i. map (put_at place) (suspicions_in p s sh (frames i))) ∙ all_at p s sh f (accesses_of p s sh) place e ∙ (λ i. suspicions_in p s sh (sym frames i))

named_found : {A : Type 0} (p : Program A) (place : Place) (found : List Suspicion) → map (named_at p place) found ≡ map (put_at (place_named p place)) (map (suspicion_named p) found)
named_found p place [] = refl
named_found p place (s ∷ found) = ap (λ l. named_at p place s ∷ l) (named_found p place found)

-- ---- a step finds two suspicions at most

expr_few : {A : Type 0} (p : Program A) (t : Origins) (e : Expr) (vs : List ℕ) → length (expr_accesses p t e vs) ≤ 2
expr_few p t (exprs.Unary op a) vs = omega arith
expr_few p t (exprs.Binary op a b) vs = omega arith
expr_few p t (exprs.Compare op c a b) vs = omega arith
expr_few p t (exprs.Extend op a) vs = omega arith
expr_few p t (exprs.Load op a) vs = omega arith

few_if : {X : Type 0} (b : Bool) (xs ys : List X) (n : ℕ) → length xs ≤ n → length ys ≤ n → length (if b then xs else ys) ≤ n
few_if true xs ys n l m = l
few_if false xs ys n l m = m

one_more : {X : Type 0} (x : X) (xs : List X) → length xs ≤ 1 → length (x ∷ xs) ≤ 2
one_more x xs l = omega (arith, l)

blit_few : (m q : Origin) (a b n : ℕ) (is_live : Bool) → length (blit_accesses m q a b n is_live) ≤ 2
blit_few m q a b n is_live =
    few_if (n == 0) [] (access actions.CopyFrom m a n ∷ (if is_live then access actions.CopyTo q b n ∷ [] else [])) 2 (omega arith)
    (one_more (access actions.CopyFrom m a n) (if is_live then access actions.CopyTo q b n ∷ [] else []) (few_if is_live (access actions.CopyTo q b n ∷ []) [] 1 (omega arith) (omega arith)))

inst_few : {A : Type 0} (p : Program A) (s : State) (t : Origins) (kind : InstKind A) (vs : List ℕ) → length (inst_accesses p s t kind vs) ≤ 2
inst_few p s t (insts.Assign to e) vs = expr_few p t e vs
inst_few p s t (insts.Alloc to op n) vs = omega arith
inst_few p s t (insts.Store w a b) vs = omega arith
inst_few p s t (insts.Blit a b n) vs = blit_few _ _ (first vs) (second vs) n _
inst_few p s t (insts.Call to callee args) vs = omega arith

on_few : {A : Type 0} (p : Program A) (s : State) (t : Origins) (kind : InstKind A) (o : Outcome (List ℕ)) → length (accesses_on p s t kind o) ≤ 2
on_few p s t kind (Ok vs) = inst_few p s t kind vs
on_few p s t kind (Err why) = omega arith

by_few : {A : Type 0} (p : Program A) (s : State) (f : Frame) (t : Origins) (n : Next A) → length (accesses_by p s f t n) ≤ 2
by_few p s f t nothing = omega arith
by_few p s f t (inst kind) = on_few p s t kind (vals p f.temps (inst_reads kind))
by_few p s f t (jump func kind) = omega arith

in_few : {A : Type 0} (p : Program A) (s : State) (fs : List Frame) (ts : List Origins) → length (accesses_in p s fs ts) ≤ 2
in_few p s [] ts = omega arith
in_few p s (f ∷ fs) [] = omega arith
in_few p s (f ∷ fs) (t ∷ ts) = by_few p s f t (next_of p f)

accesses_few : {A : Type 0} (p : Program A) (s : State) (sh : by_names.Shadow) → length (accesses_of p s sh) ≤ 2
unfolding accesses_of
accesses_few p s sh = in_few p s s.frames sh.frames

one_few : {A : Type 0} (p : Program A) (s : State) (sh : by_names.Shadow) (f : Frame) (a : Access) (o : Option Doubt) → length (suspicion p s sh f a o) ≤ 1
one_few p s sh f a None = omega arith
one_few p s sh f a (Some d) = omega arith

length-append : {X : Type 0} (xs ys : List X) → length (xs ++ ys) ≡ length xs + length ys
length-append [] ys = omega arith
length-append (x ∷ xs) ys = let deep = length-append xs ys in omega (arith, deep)

flat_few : {X Y : Type 0} (g : X → List Y) (xs : List X) → ((x : X) → length (g x) ≤ 1) → length (flat_map g xs) ≤ length xs
flat_few g [] each = omega arith
flat_few g (x ∷ xs) each =
    let here = each x in
    let deep = flat_few g xs each in
    let both = length-append (g x) (flat_map g xs) in
    omega (arith, here, deep, both)

in_frames_few : {A : Type 0} (p : Program A) (s : State) (sh : by_names.Shadow) (fs : List Frame) → length (suspicions_in p s sh fs) ≤ 2
in_frames_few p s sh [] = omega arith
in_frames_few p s sh (f ∷ fs) =
    let all = flat_few (λ a. suspicion p s sh f a (doubted sh.objects a a.origin)) (accesses_of p s sh) (λ a. one_few p s sh f a (doubted sh.objects a a.origin)) in
    let few = accesses_few p s sh in
    omega (arith, all, few)

step_few : {A : Type 0} (p : Program A) (s : State) (sh : by_names.Shadow) → length (suspicions_of p s sh) ≤ 2
unfolding suspicions_of
step_few p s sh = in_frames_few p s sh s.frames

run_few : {A : Type 0} (p : Program A) (s : State) (sh : by_names.Shadow) (n : ℕ) → length (suspicions p s sh n) ≤ n + n
run_few p s sh zero = omega arith
run_few p s sh (suc n) =
    let deep = run_few p s sh n in
    let here = step_few p (after p s n) (shadow_after p s sh n) in
    let both = length-append (suspicions p s sh n) (suspicions_of p (after p s n) (shadow_after p s sh n)) in
    omega (arith, deep, here, both)

-- ---- a run so far

-- the shadow is that of the definition after so many moves, while the run goes on
pub record IsGoing {A : Type 0} (p : Program A) (s0 : State) (sh0 : by_names.Shadow) (q : CheckedRun A) : Type 0 where
  stands : CanStep q.whole q.shadow
  fresh : q.shadow.found.items ≡ []
  position : q.shadow.position ≡ q.moves
  shadow : shadow_of p (state_of q.whole) q.shadow ≡ shadow_after p s0 sh0 q.moves

pub record RunsBeside {A : Type 0} (p : Program A) (s0 : State) (sh0 : by_names.Shadow) (q : CheckedRun A) : Type 0 where
  pub notes : AreNotes p q.notes (suspicions p s0 sh0 q.moves)
  pub going : is_final (state_of q.whole).status ≡ false → IsGoing p s0 sh0 q

pub runs_first : {A : Type 0} (r : CheckedRun A) → r.moves ≡ 0 → IsAtStart r → RunsBeside r.whole.program (state_of r.whole) (shadow_of r.whole.program (state_of r.whole) r.shadow) r
runs_first {A} r none start =
    let p = r.whole.program in
    let s = state_of r.whole in
    let sh = shadow_of p s r.shadow in
    record {
      notes = subst (λ ns. AreNotes p ns (suspicions p s sh r.moves)) (sym start.none) (subst (λ n. AreNotes p [] (suspicions p s sh n)) (sym none) (no_notes p));
      going = λ goes. record {
        stands = start.stands;
        fresh = start.fresh;
        position = start.first ∙ sym none;
        shadow = ap (shadow_after p s sh) (sym none);
      };
    }

found_named : {A : Type 0} (q : CheckedRun A) (now : CheckedRun A) → (l : HasLooked q.whole q.shadow now.shadow q.notes now.notes) → CanStep q.whole q.shadow → q.shadow.found.items ≡ []
    → map (named_at q.whole.program (place_at l.frame)) l.stepped.found.items ≡ suspicions_of q.whole.program (state_of q.whole) (shadow_of q.whole.program (state_of q.whole) q.shadow)
found_named {A} q now l can fresh =
    let p = q.whole.program in
    let s = state_of q.whole in
    let place = place_at l.frame in
    let r = ready q.whole l.frame q.shadow l.machine l.innermost can in
    let at = r.2.at in
    let func : r.0.func ≡ (place_named p place).func = at.name_is ∙ ap (λ (o : Option (Func A)). func_name o) (sym at.func_is) ∙ sym (function_name_is (func_at p place.func.index)) in
    let label : r.0.label ≡ (place_named p place).label = at.label_is ∙ ap (λ (o : Option (Block A)). label_in o) (sym (ap (λ (o : Option (Func A)). block_in o place.block.index) at.func_is ∙ at.block_is)) ∙ sym (label_name_is (block_at p place.func.index place.block.index)) in
    named_found p place l.stepped.found.items
    ∙ ap (map (put_at (place_named p place))) (l.step.found can ∙ (λ i. map (suspicion_named p) (fresh i) ++ suspicions_of p s (shadow_of p s q.shadow)))
    ∙ found_at p s (shadow_of p s q.shadow) r.0 r.1 (place_named p place) r.2.frames_are (λ i. record { func = func i; label = label i; index = at.index_is i })
  where
    function_name_is : (o : Option (Func A)) → function_name o ≡ func_name o
    function_name_is None = refl
    function_name_is (Some f) = refl

    label_name_is : (o : Option (Block A)) → label_name o ≡ label_in o
    label_name_is None = refl
    label_name_is (Some b) = refl

can_step : {A : Type 0} (p : Program A) (w : Whole A) (sh : Shadow A) → w.program ≡ p → StandsBeside p (state_of w) sh → HasRoom p (state_of w) → IsRuled p → CanStep w sh
can_step {A} p w sh program beside room ruled = record {
  beside = subst (λ (z : Program A). StandsBeside z (state_of w) sh) (sym program) beside;
  room = subst (λ (z : Program A). HasRoom z (state_of w)) (sym program) room;
  ruled = subst (λ (z : Program A). IsRuled z) (sym program) ruled;
}

going_on : {A : Type 0} (p : Program A) (s0 : State) (sh0 : by_names.Shadow) (q now : CheckedRun A) → q.whole.program ≡ p → now.whole.program ≡ p → state_of q.whole ≡ after p s0 q.moves → state_of now.whole ≡ step_of p (state_of q.whole)
    → q.moves < 2 ^ 32 → suc q.moves ≡ now.moves → HasLooked q.whole q.shadow now.shadow q.notes now.notes → IsRuled p → IsGoing p s0 sh0 q → is_final (state_of now.whole).status ≡ false → IsGoing p s0 sh0 now
going_on {A} p s0 sh0 q now program same before next few later l ruled g on =
    let s = state_of q.whole in
    let w = q.whole in
    let running : is_final (step_of w.program s).status ≡ false = (λ i. is_final (step_of (program i) s).status) ∙ (λ i. is_final (sym next i).status) ∙ on in
    let position = g.position in
    let followed : HasFollowed p s q.shadow l.stepped = subst (λ (z : Program A). HasFollowed z s q.shadow l.stepped) program (l.step.next g.stands (omega (arith, position, few)) running) in
    let room : HasRoom p (step_of p s) = subst (λ (z : Program A). HasRoom z (step_of z s)) program (room_behind w q.shadow l.machine g.stands) in
    let beside : StandsBeside p (step_of p s) now.shadow = kept_beside p (step_of p s) l.stepped now.shadow l.found.keeps followed.beside in
    let shadow : shadow_of p (step_of p s) now.shadow ≡ shadowed p s (shadow_of p s q.shadow) = kept_shadow p (step_of p s) l.stepped now.shadow l.found.keeps ∙ followed.shadow_is in
    let moved : now.shadow.position ≡ q.shadow.position + 1 = ap (λ (z : by_names.Shadow). z.position) shadow ∙ one_later p s (shadow_of p s q.shadow) in
    record {
      stands = can_step p now.whole now.shadow same (subst (λ z. StandsBeside p z now.shadow) (sym next) beside) (subst (HasRoom p) (sym next) room) ruled;
      fresh = l.found.none;
      position = omega (arith, moved, position, later);
      shadow = (λ i. shadow_of p (next i) now.shadow) ∙ shadow ∙ (λ i. shadowed p (before i) (g.shadow i)) ∙ ap (shadow_after p s0 sh0) later;
    }

-- one move later
pub runs_on : {A : Type 0} (p : Program A) (s0 : State) (sh0 : by_names.Shadow) (q now : CheckedRun A) → q.whole.program ≡ p → now.whole.program ≡ p → state_of q.whole ≡ after p s0 q.moves → state_of now.whole ≡ after p s0 now.moves
    → q.moves < 2 ^ 32 → now.moves ≡ q.moves + 1 → is_final (state_of q.whole).status ≡ false → HasLooked q.whole q.shadow now.shadow q.notes now.notes → IsRuled p → RunsBeside p s0 sh0 q → RunsBeside p s0 sh0 now
runs_on {A} p s0 sh0 q now program same before behind few one goes l ruled runs =
    let s = state_of q.whole in
    let sh = shadow_of p s q.shadow in
    let w = q.whole in
    let g = runs.going goes in
    let xs = suspicions p s0 sh0 q.moves in
    let place = place_at l.frame in
    let found : map (named_at p place) l.stepped.found.items ≡ suspicions_of p s sh =
    subst (λ (z : Program A). map (named_at z place) l.stepped.found.items ≡ suspicions_of z s (shadow_of z s q.shadow)) program (found_named q now l g.stands g.fresh) in
    let later : suc q.moves ≡ now.moves = omega (arith, one) in
    let here : suspicions_of p s sh ≡ suspicions_of p (after p s0 q.moves) (shadow_after p s0 sh0 q.moves) = λ i. suspicions_of p (before i) (g.shadow i) in
    let all : xs ++ map (named_at p place) l.stepped.found.items ≡ suspicions p s0 sh0 now.moves = ap (λ ys. xs ++ ys) (found ∙ here) ∙ ap (suspicions p s0 sh0) later in
    let many = run_few p s0 sh0 q.moves in
    let new = step_few p s sh in
    let count : length l.stepped.found.items ≡ length (suspicions_of p s sh) = sym (length-map l.stepped.found.items (named_at p place)) ∙ ap length found in
    let in_p : IsIn p place = subst (λ (z : Program A). IsIn z place) program (is_in w l.frame l.machine l.innermost) in
    let noted = all_noted p place l.stepped.found.items q.notes xs (subst facts.Finds program l.finds) (subst NumbersBlocks program l.numbers) in_p (omega (arith, many, new, count, few)) runs.notes in
    record {
      notes = subst (λ ns. AreNotes p ns (suspicions p s0 sh0 now.moves)) (sym l.found.notes) (subst (AreNotes p (with_notes place l.stepped.found.items q.notes)) all noted);
      going = λ on. going_on p s0 sh0 q now program same before (behind ∙ ap (after p s0) (sym later) ∙ ap (step_of p) (sym before)) few later l ruled g on;
    }
