-- The temporaries of a frame by number, and what they are by names.
use Rattle.std.proofs.Common.{◌≡◌, refl, sym, ap, subst, ◌∙◌, ℕ, zero, suc, Bool, true, false, List, [], ◌∷◌, length, Option, Some, None}
use Rattle.std.specs.Prelude.{slice_get, unwrap_or, is_some, cond}
use Rattle.std.proofs.lemmas.Option.{get_or_from_slice_get, slice_get_within}
use Rattle.json.specs.Token.{Token}
use Rattle.qil_tree.specs.declared.tree.Func.{Func}
use Rattle.qil_tree.specs.declared.tree.Program.{Program}
use Rattle.qil_memory.specs.Live.{Live}
use Rattle.qil_semantics.specs.State.{Name, Frame}
use Rattle.qil_semantics.specs.Step.{func_named}
use Rattle.qil_semantics.specs.Slots.{temps_of}
use Rattle.qil_code.specs.Numbered.{func_at, block_in, block_at, names_of}
use Rattle.qil_code.specs.Slots.{name_at}
use Rattle.qil_code.specs.Facts.{Finds}
use Rattle.qil_frames.specs.Frames.{SlotFrame}
use Rattle.qil_state.specs.State.{func_name, frame_state, PlaceFits, FrameFits, FramesFit}
use Rattle.qil_state.proofs.Reading.{are_slots, slot_read}
use Rattle.qil_render.specs.Shown.{temps_of_frame}
use Rattle.qil_render.proofs.Here.{names_here}
use Rattle.qrev_views.specs.Variables.{reference, live_reference, ShowsTemp}
use Rattle.qrev_views.specs.declared.variable.Showing.{Showing}

-- each frame of a machine fits its program
pub frame_fits : {A : Type 0} (p : Program A) (fs : List SlotFrame) (k : ℕ) (f : SlotFrame) → FramesFit p fs → slice_get fs k ≡ Some f → FrameFits p f
frame_fits p [] k f fit at = absurd cc
frame_fits {A} p (g ∷ gs) zero f fit at = subst (λ (h : SlotFrame). FrameFits p h) (first at) fit.0
  where
    first : Some g ≡ Some f → g ≡ f
    first e = cc
frame_fits p (g ∷ gs) (suc k) f fit at = frame_fits p gs k f fit.2 at

func_by : {A : Type 0} (p : Program A) (i b k : ℕ) (o : Option (Func A)) → func_at p i ≡ o → Finds p → PlaceFits (block_in o b) k → func_named p.funcs (func_name o) ≡ o
func_by p i b k None e finds fits = absurd fits
func_by p i b k (Some func) e finds fits = finds.func i func e

-- the function of a frame by its name is the one of its number
pub func_here : {A : Type 0} (p : Program A) (f : SlotFrame) → Finds p → FrameFits p f → func_named p.funcs (func_name (func_at p f.func)) ≡ func_at p f.func
func_here p f finds fits = func_by p f.func f.block f.index (func_at p f.func) refl finds fits.place

-- what a slot holds is what its name does
pub held : {A : Type 0} (p : Program A) (f : SlotFrame) (i : ℕ) (x : Name) (v : Option ℕ) → FrameFits p f → slice_get (names_of p f.func) i ≡ Some x → slice_get f.slots i ≡ Some v
    → temps_of (names_of p f.func) f.slots x ≡ v
held p f i x v fits name value =
    let is_name : name_at (names_of p f.func) i ≡ x = ap (λ o. unwrap_or o []) name in
    ap (temps_of (names_of p f.func) f.slots) (sym is_name)
    ∙ (sym (slot_read (names_of p f.func) f.slots i (are_slots p f fits) (slice_get_within f.slots i v value)) ∙ get_or_from_slice_get f.slots i v None value)

-- what is shown of a temporary, by its name
abbrev pub ShowsNamed : {A : Type 0} → Program A → Live → List ℕ → Showing → Bool → Frame → Name → List Token → Type 0
ShowsNamed p m names showing can_be_set f x item = ShowsTemp (func_named p.funcs f.func) m names showing can_be_set x (f.temps x) item

-- what is shown of a slot is what is shown of its name
pub temp_shown : {A : Type 0} (p : Program A) (m : Live) (names : List ℕ) (showing : Showing) (can_be_set : Bool) (fs : List SlotFrame) (f : SlotFrame) (i : ℕ) (x : Name) (v : Option ℕ) (item : List Token)
    → Finds p → FrameFits p f → slice_get (names_of p f.func) i ≡ Some x → slice_get f.slots i ≡ Some v
    → ShowsTemp (func_at p f.func) m names showing can_be_set x v item → ShowsNamed p m names showing can_be_set (frame_state p fs f) x item
temp_shown {A} p m names showing can_be_set fs f i x v item finds fits name value shows =
    subst (λ (w : Option ℕ). ShowsTemp (func_named p.funcs (func_name (func_at p f.func))) m names showing can_be_set x w item) (sym (held p f i x v fits name value))
    (subst (λ (o : Option (Func A)). ShowsTemp o m names showing can_be_set x v item) (sym (func_here p f finds fits)) shows)

-- the name of a slot is among those of its frame
pub temp_named : {A : Type 0} (p : Program A) (fs : List SlotFrame) (f : SlotFrame) (i : ℕ) (x : Name) → Finds p → FrameFits p f → slice_get (names_of p f.func) i ≡ Some x
    → slice_get (temps_of_frame p (frame_state p fs f)) i ≡ Some x
temp_named p fs f i x finds fits name = ap (λ (names : List Name). slice_get names i) (names_here p fs f finds fits) ∙ name

-- there are as many as slots
pub temps_long : {A : Type 0} (p : Program A) (fs : List SlotFrame) (f : SlotFrame) → Finds p → FrameFits p f → length (temps_of_frame p (frame_state p fs f)) ≡ length f.slots
temps_long p fs f finds fits = ap length (names_here p fs f finds fits) ∙ fits.slots

-- the address of a live byte is referred to, and no other value
pub live_is : (u : Bool) (m : Live) (v : Option ℕ) (a : ℕ) → v ≡ Some a → is_some (m a) ≡ true → live_reference u m v ≡ reference u a
live_is u m v a is live = ap (live_reference u m) is ∙ ap (λ (b : Bool). cond b (reference u a) []) live

pub live_none : (u : Bool) (m : Live) (v : Option ℕ) (a : ℕ) → v ≡ Some a → is_some (m a) ≡ false → live_reference u m v ≡ []
live_none u m v a is dead = ap (live_reference u m) is ∙ ap (λ (b : Bool). cond b (reference u a) []) dead
