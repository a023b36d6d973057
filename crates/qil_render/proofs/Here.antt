-- The innermost frame by number, and what it is by names.
use Rattle.std.proofs.Common.{◌≡◌, refl, sym, ap, ◌∙◌, ℕ, suc, ◌<◌, length, arith, Bool, true, false, List, [], ◌∷◌, ◌++◌, codes, decimal, Option, Some, None}
use Rattle.std.specs.Prelude.{slice_get, unwrap_or, option_map, is_some, ◌||◌, if◌then◌else◌}
use Rattle.std.specs.Option.{option_and_then}
use Rattle.std.specs.Str.{bytes_eq}
use Rattle.std.proofs.lemmas.Option.{slice_get_within}
use Rattle.qil_tree.specs.declared.tree.Block.{Block}
use Rattle.qil_tree.specs.declared.tree.Func.{Func}
use Rattle.qil_tree.specs.declared.tree.Program.{Program}
use Rattle.qil_symbols.specs.Numbers.{place_of}
use Rattle.qil_streams.specs.Text.{line}
use Rattle.qil_semantics.specs.State.{Name}
use Rattle.qil_semantics.specs.Step.{func_named, block_labelled}
use Rattle.qil_code.specs.Numbered.{func_at, block_in, block_at, names_in, names_of}
use Rattle.qil_code.specs.Facts.{Finds}
use Rattle.qil_code.specs.declared.numbered.Slot.{Slot}
use Rattle.qil_code.proofs.Has.{name-at}
use Rattle.qil_frames.specs.Frames.{SlotFrame, HasSlot}
use Rattle.qil_state.specs.State.{func_name, label_in, frame_state, frames_state, PlaceFits, FrameFits, FramesFit, head_names}
use Rattle.qil_history.specs.qil_machine.Readings.{temp_here}
use Rattle.qil_fragments.specs.Texts.{text_of}
use Rattle.qil_render.specs.Texts.{value_line, standing_line}
use Rattle.qil_render.specs.Shown.{temps_in, temps_of_frame, is_among, printed}
use Rattle.qil_render.specs.Listing.{block_of_frame, rows_in, block_head, block_shown}

pub head_same : {X : Type 0} (x y : X) → Some x ≡ Some y → y ≡ x
head_same x y e = sym (ap (λ o. unwrap_or o y) e)

-- ---- names

names_by : {A : Type 0} (p : Program A) (i b k : ℕ) (o : Option (Func A)) → func_at p i ≡ o → Finds p → PlaceFits (block_in o b) k → temps_in (func_named p.funcs (func_name o)) ≡ names_in o
names_by p i b k None e finds fits = absurd fits
names_by p i b k (Some func) e finds fits = ap temps_in (finds.func i func e)

-- the temporaries of a frame are those that its slots represent
pub names_here : {A : Type 0} (p : Program A) (fs : List SlotFrame) (f : SlotFrame) → Finds p → FrameFits p f → temps_of_frame p (frame_state p fs f) ≡ names_of p f.func
unfolding names_of
names_here p fs f finds fits = names_by p f.func f.block f.index (func_at p f.func) refl finds fits.place

block_found : {A : Type 0} (p : Program A) (i : ℕ) (func : Func A) (j k : ℕ) (o : Option (Block A)) → func_at p i ≡ Some func → slice_get func.blocks j ≡ o → Finds p → PlaceFits o k
    → block_labelled func.blocks (label_in o) ≡ o
block_found p i func j k None e at finds fits = absurd fits
block_found p i func j k (Some b) e at finds fits = finds.block i func j b e at

block_by : {A : Type 0} (p : Program A) (i j k : ℕ) (o : Option (Func A)) → func_at p i ≡ o → Finds p → PlaceFits (block_in o j) k
    → option_and_then (λ func. block_labelled func.blocks (label_in (block_in o j))) (func_named p.funcs (func_name o)) ≡ block_in o j
block_by p i j k None e finds fits = absurd fits
block_by {A} p i j k (Some func) e finds fits =
    ap (λ (found : Option (Func A)). option_and_then (λ g. block_labelled g.blocks (label_in (slice_get func.blocks j))) found) (finds.func i func e)
    ∙ block_found p i func j k (slice_get func.blocks j) e refl finds fits

-- the block of a frame is the one of its number
pub block_here : {A : Type 0} (p : Program A) (fs : List SlotFrame) (f : SlotFrame) → Finds p → FrameFits p f → block_of_frame p (frame_state p fs f) ≡ block_at p f.func f.block
block_here p fs f finds fits = block_by p f.func f.block f.index (func_at p f.func) refl finds fits.place

-- ---- one temporary

among_next : (b : Bool) (o : Option ℕ) (t : Bool) → t ≡ is_some o → (b || t) ≡ is_some (if b then Some 0 else option_map (λ i. suc i) o)
among_next true o t e = refl
among_next false None t e = e
among_next false (Some j) t e = e

-- a name is among those that have a number
pub among_is : (ns : List Name) (x : Name) → is_among x ns ≡ is_some (place_of ns x)
unfolding place_of
among_is [] x = refl
among_is (n ∷ ns) x = among_next (bytes_eq n x) (place_of ns x) (is_among x ns) (among_is ns x)

pub printed_none : {A : Type 0} (p : Program A) (fs : List SlotFrame) (x : Name) → None ≡ slice_get fs 0 → printed p (frames_state p fs) x ≡ line (codes "no: no frame")
printed_none p [] x e = refl
printed_none p (f ∷ fs) x e = absurd cc

pub printed_some : {A : Type 0} (p : Program A) (fs : List SlotFrame) (f : SlotFrame) (x : Name) (i : ℕ) (v : Option ℕ) → FramesFit p fs → Finds p → Some f ≡ slice_get fs 0 → Some i ≡ place_of (names_of p f.func) x
    → v ≡ temp_here (frames_state p fs) x → printed p (frames_state p fs) x ≡ value_line x v
printed_some p [] f x i v fits finds e at is = absurd cc
printed_some p (g ∷ gs) f x i v fits finds e at is =
    let same : g ≡ f = head_same f g e in
    let found : is_among x (names_of p g.func) ≡ true = among_is (names_of p g.func) x ∙ ap is_some (ap (λ (h : SlotFrame). place_of (names_of p h.func) x) same ∙ sym at) in
    let named : is_among x (temps_of_frame p (frame_state p gs g)) ≡ true = ap (is_among x) (names_here p gs g finds fits.0) ∙ found in
    rw (named, is) refl

pub printed_unknown : {A : Type 0} (p : Program A) (fs : List SlotFrame) (f : SlotFrame) (x : Name) → FramesFit p fs → Finds p → Some f ≡ slice_get fs 0 → None ≡ place_of (names_of p f.func) x
    → printed p (frames_state p fs) x ≡ line (codes "no: unknown temporary")
printed_unknown p [] f x fits finds e at = absurd cc
printed_unknown p (g ∷ gs) f x fits finds e at =
    let same : g ≡ f = head_same f g e in
    let found : is_among x (names_of p g.func) ≡ false = among_is (names_of p g.func) x ∙ ap is_some (ap (λ (h : SlotFrame). place_of (names_of p h.func) x) same ∙ sym at) in
    let named : is_among x (temps_of_frame p (frame_state p gs g)) ≡ false = ap (is_among x) (names_here p gs g finds fits.0) ∙ found in
    rw named refl

-- ---- where it stands

pub standing_none : {A : Type 0} (p : Program A) (fs : List SlotFrame) (n : ℕ) → None ≡ slice_get fs 0 → standing_line n (frames_state p fs) ≡ text_of (codes "#" ∷ decimal n ∷ codes "\n" ∷ [])
standing_none p [] n e = refl
standing_none p (f ∷ fs) n e = absurd cc

pub standing_some : {A : Type 0} (p : Program A) (fs : List SlotFrame) (f : SlotFrame) (n : ℕ) → Some f ≡ slice_get fs 0
    → standing_line n (frames_state p fs)
    ≡ text_of (codes "#" ∷ decimal n ∷ codes " $" ∷ func_name (func_at p f.func) ∷ codes " @" ∷ label_in (block_at p f.func f.block) ∷ codes " " ∷ decimal f.index ∷ codes "\n" ∷ [])
standing_some p [] f n e = absurd cc
standing_some p (g ∷ gs) f n e =
    ap (λ (h : SlotFrame). text_of (codes "#" ∷ decimal n ∷ codes " $" ∷ func_name (func_at p h.func) ∷ codes " @" ∷ label_in (block_at p h.func h.block) ∷ codes " " ∷ decimal h.index ∷ codes "\n" ∷ [])) (head_same f g e)

-- ---- its block

pub block_none : {A : Type 0} (p : Program A) (fs : List SlotFrame) → None ≡ slice_get fs 0 → block_shown p (frames_state p fs) ≡ line (codes "no: no frame")
block_none p [] e = refl
block_none p (f ∷ fs) e = absurd cc

pub block_some : {A : Type 0} (p : Program A) (fs : List SlotFrame) (f : SlotFrame) → FramesFit p fs → Finds p → Some f ≡ slice_get fs 0
    → block_shown p (frames_state p fs) ≡ block_head (func_name (func_at p f.func)) (label_in (block_at p f.func f.block)) ++ rows_in f.index (block_at p f.func f.block)
block_some p [] f fits finds e = absurd cc
block_some p (g ∷ gs) f fits finds e =
    ap (λ o. block_head (func_name (func_at p g.func)) (label_in (block_at p g.func g.block)) ++ rows_in g.index o) (block_here p gs g finds fits.0)
    ∙ ap (λ (h : SlotFrame). block_head (func_name (func_at p h.func)) (label_in (block_at p h.func h.block)) ++ rows_in h.index (block_at p h.func h.block)) (head_same f g e)

-- ---- slots

pub has_slot : {A : Type 0} (p : Program A) (fs : List SlotFrame) (f : SlotFrame) (x : Name) (s : Slot) → FramesFit p fs → Some f ≡ slice_get fs 0 → Some s.index ≡ place_of (names_of p f.func) x → HasSlot fs s
has_slot p [] f x s fits e at = absurd cc
has_slot p (g ∷ gs) f x s fits e at =
    let same : g ≡ f = head_same f g e in
    let here : place_of (names_of p g.func) x ≡ Some s.index = ap (λ (h : SlotFrame). place_of (names_of p h.func) x) same ∙ sym at in
    let within : s.index < length (names_of p g.func) = slice_get_within (names_of p g.func) s.index x (name-at (names_of p g.func) x s.index here) in
    omega (arith, within, fits.0.slots)

-- the slot of a name has that name
pub named_slot : {A : Type 0} (p : Program A) (fs : List SlotFrame) (f : SlotFrame) (x : Name) (i : ℕ) → Some f ≡ slice_get fs 0 → Some i ≡ place_of (names_of p f.func) x → slice_get (head_names p fs) i ≡ Some x
named_slot p [] f x i e at = absurd cc
named_slot p (g ∷ gs) f x i e at =
    name-at (names_of p g.func) x i (ap (λ (h : SlotFrame). place_of (names_of p h.func) x) (head_same f g e) ∙ sym at)
