-- Calls as they are shown, from either end, and what is read of them.
use Rattle.std.proofs.Common.{◌≡◌, ◌≢◌, ◌∙◌, refl, sym, ap, subst, true, false, ℕ, zero, suc, ◌+◌, ◌-◌, ◌<◌, ◌≤◌, ◌==◌, inl, inr, if◌then◌else◌, List, [], ◌∷◌, ◌++◌, length, map, reverse, take, Option, Some, None, arith}
use Rattle.std.specs.Prelude.{◌&&◌, IsSome, option_map, slice_get}
use Rattle.std.proofs.lemmas.List.{length-map, length-reverse, map-append, reverse-append, reverse-reverse, take_all, take_more}
use Rattle.std.proofs.lemmas.Bool.Decides.{nat_tests}
use Rattle.std.proofs.lemmas.Option.{get_or_from_slice_get, slice_get-map, slice_get_within}
use Rattle.qil_tree.specs.declared.tree.Program.{Program}
use Rattle.qil_memory.specs.Buffers.{Buffers}
use Rattle.qil_code.specs.declared.numbered.FuncCode.{FuncCode}
use Rattle.qil_code.specs.Numbered.{names_of}
use Rattle.qil_code.specs.Reading.{func_code_at}
use Rattle.qil_code.proofs.Readers.{coded, temps-there, uncoded}
use Rattle.qil_flat.specs.declared.inst.FlatPlace.{FlatPlace}
use Rattle.qil_flat.specs.Flat.{Flat, IsFlat}
use Rattle.qil_flat.proofs.Found.{last_or_before}
use Rattle.qil_flat.proofs.Laying.{no_block}
use Rattle.qil_frames.specs.Frames.{SlotFrame}
use Rattle.qil_flat.specs.StackCalls.{ActiveCall, ActiveCalls, ip_of}
use Rattle.qil_flat.specs.Shown.{slot_frame}
use Rattle.qil_state.specs.declared.status.Status.{Status}
use Rattle.qil_state.specs.State.{FrameFits, FramesFit}
use Rattle.qil_state.proofs.Place.{none_some, some_same}
use Rattle.qil_machine.specs.Readings.{frame_of, stands_at}
use Rattle.qil_flatmachine.specs.Seen.{FlatWhole, InTable, IsFlatMachine, frames_of, located, place_in, seen}

-- ---- from the outermost on

reverse_cons : {X : Type 0} (x : X) (xs : List X) → reverse (x ∷ xs) ≡ reverse xs ++ x ∷ []
reverse_cons x xs = reverse-append (x ∷ []) xs

reverse_mapped : {X Y : Type 0} (g : X → Y) (xs : List X) → reverse (map g xs) ≡ map g (reverse xs)
reverse_mapped g [] = refl
reverse_mapped g (x ∷ xs) =
    reverse_cons (g x) (map g xs) ∙ ap (λ l. l ++ g x ∷ []) (reverse_mapped g xs) ∙ sym (map-append g (reverse xs) (x ∷ [])) ∙ ap (map g) (sym (reverse_cons x xs))

pub shown_at : (places : List FlatPlace) (cs : List ActiveCall) (i : ℕ) (c : ActiveCall) → slice_get (reverse cs) i ≡ Some c → slice_get (reverse (frames_of places cs)) i ≡ Some (slot_frame (place_in places) c)
shown_at places cs i c at =
    ap (λ l. slice_get l i) (reverse_mapped (slot_frame (place_in places)) cs) ∙ slice_get-map (slot_frame (place_in places)) (reverse cs) i ∙ ap (λ o. option_map (slot_frame (place_in places)) o) at

pub shown_now : {A : Type 0} (f : Flat A) (calls : ActiveCalls) (m : Buffers) (out : List ℕ) (st : Status) (now : FlatWhole A) (i : ℕ) (c : ActiveCall) (v : SlotFrame) → seen f calls m out st ≡ now → slice_get (reverse calls.frames) i ≡ Some c
    → v ≡ slot_frame (place_in now.base.flat.places) c → slice_get (reverse now.whole.frames) i ≡ Some v
shown_now {A} f calls m out st now i c v same at is =
    subst (λ (x : FlatWhole A). slice_get (reverse x.whole.frames) i ≡ Some (slot_frame (place_in x.base.flat.places) c)) same (shown_at f.places calls.frames i c at) ∙ ap (λ w. Some w) (sym is)

-- each stands in the table, and is a frame that fits
pub record IsCall {A : Type 0} (p : Program A) (places : List FlatPlace) (c : ActiveCall) : Type 0 where
  pub there : c.ip < length places
  pub fits : FrameFits p (slot_frame (place_in places) c)

call_in : {A : Type 0} (p : Program A) (places : List FlatPlace) (cs : List ActiveCall) (i : ℕ) (c : ActiveCall) → InTable places cs → FramesFit p (frames_of places cs) → slice_get (reverse cs) i ≡ Some c → IsCall p places c
call_in p places [] i c table fits at = none_some at
call_in p places (d ∷ ds) i c table fits at =
    elim (last_or_before (reverse ds) d c i (ap (λ l. slice_get l i) (sym (reverse_cons d ds)) ∙ at)) [
      | inl before ↦ call_in p places ds i c table.1 fits.2 before
      | inr last ↦ subst (IsCall p places) (sym last.1) (record { there = table.0; fits = fits.0 })
    ]

pub call_now : {A : Type 0} (f : Flat A) (calls : ActiveCalls) (m : Buffers) (out : List ℕ) (st : Status) (room : ℕ) (now : FlatWhole A) (i : ℕ) (c : ActiveCall) → IsFlatMachine f calls m out st room → seen f calls m out st ≡ now
    → slice_get (reverse calls.frames) i ≡ Some c → IsCall now.whole.program now.base.flat.places c
call_now {A} f calls m out st room now i c ok same at =
    subst (λ (x : FlatWhole A). IsCall x.whole.program x.base.flat.places c) same (call_in f.program f.places calls.frames i c ok.table ok.machine.frames at)

pub as_many : {A : Type 0} (f : Flat A) (calls : ActiveCalls) (m : Buffers) (out : List ℕ) (st : Status) (now : FlatWhole A) → seen f calls m out st ≡ now → length now.whole.frames ≡ length calls.frames
as_many {A} f calls m out st now same = sym (ap (λ (x : FlatWhole A). length x.whole.frames) same) ∙ length-map calls.frames (slot_frame (place_in f.places))

-- ---- one call

found_at : (places : List FlatPlace) (i : ℕ) → i < length places → (at : FlatPlace) × (slice_get places i ≡ Some at)
found_at [] i lt = absurd (omega (arith, lt))
found_at (p ∷ ps) zero lt = (p, refl)
found_at (p ∷ ps) (suc i) lt = found_at ps i (omega (arith, lt))

pub never_lost : {A : Type 0} (f : Flat A) (calls : ActiveCalls) (m : Buffers) (out : List ℕ) (st : Status) (now : FlatWhole A) (i : ℕ) → seen f calls m out st ≡ now → i < length now.base.flat.places → None ≡ slice_get f.places i → ⊥
never_lost {A} f calls m out st now i same lt none =
    let found = found_at f.places i (subst (λ (x : FlatWhole A). i < length x.base.flat.places) (sym same) lt) in none_some (none ∙ found.1)

-- its function is there
pub never_strange : {A : Type 0} (f : Flat A) (i : ℕ) (place : FlatPlace) (p : Program A) → IsFlat f → p ≡ f.program → Some place ≡ slice_get f.places i → None ≡ func_code_at p place.func.index → ⊥
never_strange {A} f i place p flat program at none =
    let found = flat.are_places i place (sym at) in
    no_block f.program place.func.index place.block.index (uncoded f.program place.func.index (subst (λ (q : Program A). None ≡ func_code_at q place.func.index) program none)) (subst IsSome (sym found.there) refl)

-- it has no more slots than that has names
pub few_slots : {A : Type 0} (f : Flat A) (calls : ActiveCalls) (m : Buffers) (out : List ℕ) (st : Status) (now : FlatWhole A) (c : ActiveCall) (place : FlatPlace) (p : Program A) (k : FuncCode A) → seen f calls m out st ≡ now
    → FrameFits now.whole.program (slot_frame (place_in now.base.flat.places) c) → p ≡ f.program → Some place ≡ slice_get f.places c.ip → Some k ≡ func_code_at p place.func.index → length k.temps ≤ 65535 → length c.slots ≤ 65535
few_slots {A} f calls m out st now c place p k same fits program at code few =
    let here : FrameFits f.program (slot_frame (place_in f.places) c) = subst (λ (x : FlatWhole A). FrameFits x.whole.program (slot_frame (place_in x.base.flat.places) c)) (sym same) fits in
    let number : place.func.index ≡ (place_in f.places c.ip).0 = ap (λ o. (located o).0) at in
    let names : k.temps ≡ names_of f.program (place_in f.places c.ip).0 = temps-there p place.func.index k (coded p place.func.index k code) ∙ ap (λ q. names_of q place.func.index) program ∙ ap (names_of f.program) number in
    omega (arith, few, ap length names, here.slots)

-- it is the frame of its place
pub viewed_is : {A : Type 0} (f : Flat A) (calls : ActiveCalls) (m : Buffers) (out : List ℕ) (st : Status) (now : FlatWhole A) (c : ActiveCall) (place : FlatPlace) → seen f calls m out st ≡ now → Some place ≡ slice_get f.places c.ip
    → record { func = place.func.index; block = place.block.index; index = place.index; slots = c.slots; floor = c.floor; result = c.result } ≡ slot_frame (place_in now.base.flat.places) c
viewed_is {A} f calls m out st now c place same at =
    ap (λ o. record { func = (located o).0; block = (located o).1; index = (located o).2; slots = c.slots; floor = c.floor; result = c.result }) (at ∙ ap (λ (x : FlatWhole A). slice_get x.base.flat.places c.ip) same)

-- ---- the innermost of a function

-- with one frame more, from the outermost on
one_more : (i : ℕ) (fs : List SlotFrame) (left : ℕ) (f : SlotFrame) → slice_get (reverse fs) left ≡ Some f → frame_of i (reverse (take (left + 1) (reverse fs))) ≡ (if f.func == i then Some f else frame_of i (reverse (take left (reverse fs))))
one_more i fs left f at =
    let within : left < length (reverse fs) = slice_get_within (reverse fs) left f at in
    let front : take (left + 1) (reverse fs) ≡ take left (reverse fs) ++ f ∷ [] = take_more (reverse fs) left f within ∙ ap (λ x. take left (reverse fs) ++ x ∷ []) (get_or_from_slice_get (reverse fs) left f f at) in
    ap (λ l. frame_of i (reverse l)) front ∙ ap (frame_of i) (reverse-append (take left (reverse fs)) (f ∷ []))

-- all frames from the outermost on
pub all_left : (i n : ℕ) (fs : List SlotFrame) → n ≡ length fs → frame_of i (reverse (take n (reverse fs))) ≡ frame_of i fs
all_left i n fs is =
    let all : take n (reverse fs) ≡ reverse fs = take_all n (reverse fs) (omega (arith, length-reverse fs, is)) in
    ap (λ l. frame_of i (reverse l)) all ∙ ap (frame_of i) (reverse-reverse fs)

-- this frame is of the function, and is the innermost that is
pub found_innermost : (i n left : ℕ) (fs : List SlotFrame) (f : SlotFrame) (vs : List (Option ℕ)) → n ≡ left + 1 → slice_get (reverse fs) left ≡ Some f → f.func ≡ i → vs ≡ f.slots → frame_of i (reverse (take n (reverse fs))) ≡ frame_of i fs
    → Some vs ≡ option_map (λ (g : SlotFrame). g.slots) (frame_of i fs)
found_innermost i n left fs f vs next at func slots so_far =
    let test : (f.func == i) ≡ true = grind (arith, nat_tests, func) in
    let found : frame_of i fs ≡ Some f = sym so_far ∙ ap (λ k. frame_of i (reverse (take k (reverse fs)))) next ∙ one_more i fs left f at ∙ ap (λ b. if b then Some f else frame_of i (reverse (take left (reverse fs)))) test in
    ap (λ us. Some us) slots ∙ ap (λ o. option_map (λ (g : SlotFrame). g.slots) o) (sym found)

-- or it is of another
pub passed_by : (i n left : ℕ) (fs : List SlotFrame) (f : SlotFrame) → n ≡ left + 1 → slice_get (reverse fs) left ≡ Some f → f.func ≢ i → frame_of i (reverse (take n (reverse fs))) ≡ frame_of i fs → frame_of i (reverse (take left (reverse fs))) ≡ frame_of i fs
passed_by i n left fs f next at other so_far =
    let test : (f.func == i) ≡ false = grind (arith, nat_tests, other) in
    sym (ap (λ k. frame_of i (reverse (take k (reverse fs)))) next ∙ one_more i fs left f at ∙ ap (λ b. if b then Some f else frame_of i (reverse (take left (reverse fs)))) test) ∙ so_far

-- ---- the innermost call

pub first_by : (fs : List SlotFrame) (i : ℕ) → option_map (λ (f : SlotFrame). f.func) (slice_get fs 0) ≡ Some i → (fr : SlotFrame) × (slice_get fs 0 ≡ Some fr) × (i ≡ fr.func)
first_by [] i func = none_some func
first_by (f ∷ fs) i func = (f, refl, sym (some_same f.func i func))

-- the frame of the innermost call is that of its place
first_placed : (places : List FlatPlace) (cs : List ActiveCall) (place : FlatPlace) (f : SlotFrame) → slice_get (frames_of places cs) 0 ≡ Some f → Some place ≡ slice_get places (ip_of cs) → (f.func ≡ place.func.index) × (f.block ≡ place.block.index) × (f.index ≡ place.index)
first_placed places [] place f first at = none_some first
first_placed places (c ∷ cs) place f first at =
    let is : f ≡ slot_frame (place_in places) c = sym (some_same (slot_frame (place_in places) c) f first) in (
      ap (λ (g : SlotFrame). g.func) is ∙ sym (ap (λ o. (located o).0) at),
      ap (λ (g : SlotFrame). g.block) is ∙ sym (ap (λ o. (located o).1) at),
      ap (λ (g : SlotFrame). g.index) is ∙ sym (ap (λ o. (located o).2) at),
    )

pub stands_there : {A : Type 0} (f : Flat A) (calls : ActiveCalls) (m : Buffers) (out : List ℕ) (st : Status) (ip : ℕ) (now : FlatWhole A) (place : FlatPlace) (frame : SlotFrame) (i b k : ℕ) → seen f calls m out st ≡ now → ip ≡ ip_of calls.frames → Some place ≡ slice_get f.places ip
    → slice_get now.whole.frames 0 ≡ Some frame → ((place.func.index == i) && ((place.block.index == b) && place.index == k)) ≡ stands_at i b k frame
stands_there {A} f calls m out st ip now place frame i b k same at is first =
    let placed = first_placed f.places calls.frames place frame (ap (λ (x : FlatWhole A). slice_get x.whole.frames 0) same ∙ first) (is ∙ ap (slice_get f.places) at) in
    ap (λ n. (n == i) && ((place.block.index == b) && place.index == k)) (sym placed.0)
    ∙ ap (λ n. (frame.func == i) && ((n == b) && place.index == k)) (sym placed.1)
    ∙ ap (λ n. (frame.func == i) && ((frame.block == b) && n == k)) (sym placed.2)

-- the function of a call is that of its place
pub func_placed : {A : Type 0} (f : Flat A) (calls : ActiveCalls) (m : Buffers) (out : List ℕ) (st : Status) (now : FlatWhole A) (c : ActiveCall) (place : FlatPlace) → seen f calls m out st ≡ now → Some place ≡ slice_get f.places c.ip
    → place.func.index ≡ (slot_frame (place_in now.base.flat.places) c).func
func_placed {A} f calls m out st now c place same at = ap (λ o. (located o).0) (at ∙ ap (λ (x : FlatWhole A). slice_get x.base.flat.places c.ip) same)

-- ---- the frame that slots are of

pub slots_found : (o : Option SlotFrame) (vs : List (Option ℕ)) → Some vs ≡ option_map (λ (g : SlotFrame). g.slots) o → (fr : SlotFrame) × (Some fr ≡ o) × (vs ≡ fr.slots)
slots_found None vs is = none_some (sym is)
slots_found (Some f) vs is = (f, refl, some_same vs f.slots is)

pub none_found : (o : Option SlotFrame) → None ≡ option_map (λ (g : SlotFrame). g.slots) o → None ≡ o
none_found None is = refl
none_found (Some f) is = none_some is
