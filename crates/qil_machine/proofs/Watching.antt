-- What is read of slots is what is read of temporaries by name.
use Rattle.std.proofs.Common.{◌≡◌, refl, sym, ap, ◌∙◌, subst, ℕ, ◌<◌, ◌≤◌, ◌==◌, Bool, true, false, if◌then◌else◌, List, [], ◌∷◌, length, reverse, find, get_or, Option, Some, None, arith}
use Rattle.std.specs.Prelude.{unwrap_or, slice_get}
use Rattle.std.specs.Str.{bytes_eq}
use Rattle.std.proofs.lemmas.Bool.Decides.{nat_tests}
use Rattle.std.proofs.lemmas.List.{reverse-reverse}
use Rattle.std.proofs.lemmas.Slice.Eq.{bytes_eq-Decides}
use Rattle.std.proofs.lemmas.Option.{slice_get_within, slice_get-get_or}
use Rattle.qil_tree.specs.declared.ops.Class.{Class}
use Rattle.qil_tree.specs.declared.tree.Func.{Func}
use Rattle.qil_tree.specs.declared.tree.Program.{Program}
use Rattle.qil_symbols.specs.Numbers.{place_of}
use Rattle.qil_semantics.specs.State as meaning
use Rattle.qil_semantics.specs.State.{Name}
use Rattle.qil_semantics.specs.Slots.{temps_of}
use Rattle.qil_semantics.specs.Stops.{temp_in, reading, temp_reading, value_reading}
use Rattle.qil_code.specs.declared.numbered.Slot.{Slot}
use Rattle.qil_code.specs.Facts.{Finds}
use Rattle.qil_code.specs.Numbered.{func_at, block_in, names_of}
use Rattle.qil_code.specs.Reading.{class_at, func_names}
use Rattle.qil_code.specs.Slots.{name_at}
use Rattle.qil_frames.specs.Frames.{SlotFrame, held}
use Rattle.qil_state.specs.State.{Whole, state_of, func_name, frame_state, frames_state, head_names, PlaceFits, FrameFits, FramesFit, IsMachine}
use Rattle.qil_state.proofs.Place.{none_some, some_same}
use Rattle.qil_state.proofs.Reading.{are_slots, slot_read}
use Rattle.qil_machine.specs.Readings.{frame_of, temp_here}
use Rattle.qil_machine.proofs.PokingTemps.{within_code, unknown}

-- ---- frames from either end

pub turned : (i : ℕ) (fs gs : List SlotFrame) → gs ≡ reverse fs → frame_of i (reverse gs) ≡ frame_of i fs
turned i fs gs e = ap (λ (hs : List SlotFrame). frame_of i (reverse hs)) e ∙ ap (frame_of i) (reverse-reverse fs)

-- ---- frames of a function by number, and by name

pub record IsThere {A : Type 0} (p : Program A) (i : ℕ) : Type 0 where
  pub func : Func A
  pub is : func_at p i ≡ Some func

pub there_by : {A : Type 0} (p : Program A) (i b k : ℕ) (o : Option (Func A)) → func_at p i ≡ o → PlaceFits (block_in o b) k → IsThere p i
there_by p i b k None e fits = absurd fits
there_by p i b k (Some func) e fits = record { func = func; is = e }

-- functions of two names have two numbers
same_number : {A : Type 0} (p : Program A) (i j : ℕ) (f g : Func A) → Finds p → func_at p i ≡ Some f → func_at p j ≡ Some g → g.name ≡ f.name → j ≡ i
same_number {A} p i j f g finds ef eg same =
    ap (λ o. unwrap_or o j) (sym (finds.number j g eg) ∙ ap (λ x. place_of (func_names p) x) same ∙ finds.number i f ef)

same_test : {A : Type 0} (p : Program A) (i j : ℕ) (f g : Func A) (b c : Bool) → Finds p → func_at p i ≡ Some f → func_at p j ≡ Some g → bytes_eq g.name f.name ≡ b → (j == i) ≡ c → b ≡ c
same_test p i j f g true true finds ef eg eb ec = refl
same_test p i j f g false false finds ef eg eb ec = refl
same_test p i j f g true false finds ef eg eb ec =
    let same : j ≡ i = same_number p i j f g finds ef eg ((bytes_eq-Decides g.name f.name).0 eb) in
    grind (arith, nat_tests, same, ec)
same_test {A} p i j f g false true finds ef eg eb ec =
    let same : j ≡ i = grind (arith, nat_tests, ec) in
    let name : g.name ≡ f.name = ap (λ (h : Func A). h.name) (some_same g f (sym eg ∙ ap (func_at p) same ∙ ef)) in
    sym eb ∙ (bytes_eq-Decides g.name f.name).1 name

pub same_func : {A : Type 0} (p : Program A) (i : ℕ) (func : Func A) (f : SlotFrame) → Finds p → func_at p i ≡ Some func → FrameFits p f → bytes_eq (func_name (func_at p f.func)) func.name ≡ (f.func == i)
same_func {A} p i func f finds ef fits =
    let here = there_by p f.func f.block f.index (func_at p f.func) refl fits.place in
    ap (λ (o : Option (Func A)). bytes_eq (func_name o) func.name) here.is
    ∙ same_test p i f.func func here.func (bytes_eq here.func.name func.name) (f.func == i) finds ef here.is refl refl

-- ---- readings

-- what a slot of a frame holds, if there is a frame
abbrev read_of : ℕ → Option SlotFrame → Option ℕ
read_of s None = None
read_of s (Some f) = get_or f.slots s None

by_tests : (x : Name) (s : ℕ) (b c : Bool) (F : meaning.Frame) (f : SlotFrame) (deep : Option meaning.Frame) (inner : Option SlotFrame) → b ≡ c → (c ≡ true → F.temps x ≡ get_or f.slots s None)
    → temp_reading x deep ≡ value_reading (read_of s inner) → temp_reading x (if b then Some F else deep) ≡ value_reading (read_of s (if c then Some f else inner))
by_tests x s true true F f deep inner e here rest = ap value_reading (here refl)
by_tests x s false false F f deep inner e here rest = rest
by_tests x s true false F f deep inner e here rest = absurd cc
by_tests x s false true F f deep inner e here rest = absurd cc

slot_here : {A : Type 0} (p : Program A) (i s : ℕ) (x : Name) (f : SlotFrame) → FrameFits p f → slice_get (names_of p i) s ≡ Some x → (f.func == i) ≡ true → temps_of (names_of p f.func) f.slots x ≡ get_or f.slots s None
slot_here p i s x f fits at test =
    let same : f.func ≡ i = grind (arith, nat_tests, test) in
    let here : slice_get (names_of p f.func) s ≡ Some x = ap (λ j. slice_get (names_of p j) s) same ∙ at in
    let name : name_at (names_of p f.func) s ≡ x = ap (λ o. unwrap_or o []) here in
    let within : s < length (names_of p f.func) = slice_get_within (names_of p f.func) s x here in
    ap (temps_of (names_of p f.func) f.slots) (sym name) ∙ sym (slot_read (names_of p f.func) f.slots s (are_slots p f fits) (omega (arith, within, fits.slots)))

read_frames : {A : Type 0} (p : Program A) (i s : ℕ) (func : Func A) (x : Name) (fs : List SlotFrame) → Finds p → func_at p i ≡ Some func → slice_get (names_of p i) s ≡ Some x → FramesFit p fs
    → temp_reading x (find (λ (f : meaning.Frame). bytes_eq f.func func.name) (frames_state p fs)) ≡ value_reading (read_of s (frame_of i fs))
read_frames p i s func x [] finds ef at fits = refl
read_frames p i s func x (f ∷ fs) finds ef at fits =
    by_tests x s (bytes_eq (func_name (func_at p f.func)) func.name) (f.func == i) (frame_state p fs f) f (find (λ (f : meaning.Frame). bytes_eq f.func func.name) (frames_state p fs)) (frame_of i fs)
    (same_func p i func f finds ef fits.0) (slot_here p i s x f fits.0 at) (read_frames p i s func x fs finds ef at fits.2)

pub is_read : {A : Type 0} (m now : Whole A) (q : Program A) (i s : ℕ) (func : Func A) (x : Name) (o : Option SlotFrame) (v : Option ℕ) → m ≡ now → IsMachine m → q ≡ m.program → Finds q → o ≡ frame_of i m.frames → v ≡ read_of s o
    → func_at now.program i ≡ Some func → slice_get (names_of now.program i) s ≡ Some x → value_reading v ≡ reading (temp_in func.name x) (state_of now)
unfolding reading
is_read {A} m now q i s func x o v same ok program finds eo ev ef at =
    ap value_reading (ev ∙ ap (read_of s) eo)
    ∙ sym (read_frames m.program i s func x m.frames (subst Finds program finds) (ap (λ (w : Whole A). func_at w.program i) same ∙ ef) (ap (λ (w : Whole A). slice_get (names_of w.program i) s) same ∙ at) ok.frames)
    ∙ ap (λ (w : Whole A). temp_reading x (find (λ (f : meaning.Frame). bytes_eq f.func func.name) (frames_state w.program w.frames))) same

-- ---- the frame that is found has the slot

fits_by : {A : Type 0} (p : Program A) (i : ℕ) (b : Bool) (f : SlotFrame) (inner : Option SlotFrame) (fr : SlotFrame) → (f.func == i) ≡ b → FrameFits p f → (inner ≡ Some fr → FrameFits p fr × (fr.func ≡ i))
    → (if b then Some f else inner) ≡ Some fr → FrameFits p fr × (fr.func ≡ i)
fits_by p i true f inner fr test fits deep e =
    let same : f ≡ fr = some_same f fr e in
    let number : f.func ≡ i = grind (arith, nat_tests, test) in
    (subst (FrameFits p) same fits, ap (λ (g : SlotFrame). g.func) (sym same) ∙ number)
fits_by p i false f inner fr test fits deep e = deep e

found_fits : {A : Type 0} (p : Program A) (i : ℕ) (fs : List SlotFrame) (fr : SlotFrame) → FramesFit p fs → frame_of i fs ≡ Some fr → FrameFits p fr × (fr.func ≡ i)
found_fits p i [] fr fits e = none_some e
found_fits p i (f ∷ fs) fr fits e = fits_by p i (f.func == i) f (frame_of i fs) fr refl fits.0 (λ d. found_fits p i fs fr fits.2 d) e

pub has_read : {A : Type 0} (m : Whole A) (q : Program A) (i s : ℕ) (c : Class) (fr : SlotFrame) → IsMachine m → q ≡ m.program → Some c ≡ class_at q i s → Some fr ≡ frame_of i m.frames → s < length fr.slots
has_read {A} m q i s c fr ok program there found =
    let fits = found_fits m.program i m.frames fr ok.frames (sym found) in
    let within : s < length (names_of m.program i) = within_code m.program i s c (subst (λ (r : Program A). Some c ≡ class_at r i s) program there) in
    let same : length (names_of m.program fr.func) ≡ length (names_of m.program i) = ap (λ j. length (names_of m.program j)) fits.1 in
    omega (arith, within, same, fits.0.slots)

-- a slot without a class has no name
pub none_read : {A : Type 0} {X : Type 0} (m now : Whole A) (q : Program A) (i s : ℕ) (x : Name) → m ≡ now → q ≡ m.program → None ≡ class_at q i s → slice_get (names_of now.program i) s ≡ Some x → X
none_read {A} m now q i s x same program none at =
    let past : length (names_of q i) ≤ s = unknown q i s none in
    let here : slice_get (names_of q i) s ≡ Some x = ap (λ (r : Program A). slice_get (names_of r i) s) (program ∙ ap (λ (w : Whole A). w.program) same) ∙ at in
    let within : s < length (names_of q i) = slice_get_within (names_of q i) s x here in
    absurd (omega (arith, past, within))

-- ---- of the innermost frame

held_here : {A : Type 0} (p : Program A) (fs : List SlotFrame) (s : Slot) (x : Name) → FramesFit p fs → slice_get (head_names p fs) s.index ≡ Some x → held fs s ≡ temp_here (frames_state p fs) x
held_here p [] s x fits at = none_some at
held_here p (f ∷ fs) s x fits at =
    let ns : List Name = names_of p f.func in
    let within : s.index < length ns = slice_get_within ns s.index x at in
    slot_read ns f.slots s.index (are_slots p f fits.0) (omega (arith, within, fits.0.slots)) ∙ ap (λ o. temps_of ns f.slots (unwrap_or o [])) at

pub is_held : {A : Type 0} (m now : Whole A) (s : Slot) (x : Name) (v : Option ℕ) → m ≡ now → IsMachine m → v ≡ held m.frames s → slice_get (head_names now.program now.frames) s.index ≡ Some x
    → v ≡ temp_here (state_of now).frames x
is_held {A} m now s x v same ok ev at =
    ev ∙ held_here m.program m.frames s x ok.frames (ap (λ (w : Whole A). slice_get (head_names w.program w.frames) s.index) same ∙ at)
    ∙ ap (λ (w : Whole A). temp_here (state_of w).frames x) same

-- a slot without a name has no class
pub no_slot : {A : Type 0} {X : Type 0} (m now : Whole A) (q : Program A) (i s : ℕ) (c : Class) → m ≡ now → q ≡ m.program → Some c ≡ class_at q i s → slice_get (names_of now.program i) s ≡ None → X
no_slot {A} m now q i s c same program there none =
    let within : s < length (names_of q i) = within_code q i s c there in
    let here : slice_get (names_of q i) s ≡ None = ap (λ (r : Program A). slice_get (names_of r i) s) (program ∙ ap (λ (w : Whole A). w.program) same) ∙ none in
    none_some (sym here ∙ slice_get-get_or (names_of q i) s [] within)
