-- A temporary of the innermost frame, by its name.
use Rattle.std.proofs.Common.{◌≡◌, refl, sym, ap, ◌∙◌, ℕ, suc, ◌<◌, length, arith, Bool, true, false, List, [], ◌∷◌, Option, Some, None}
use Rattle.std.specs.Prelude.{slice_get, option_map, if◌then◌else◌}
use Rattle.std.specs.Str.{bytes_eq}
use Rattle.std.proofs.lemmas.Option.{slice_get_within}
use Rattle.qil_tree.specs.declared.tree.Program.{Program}
use Rattle.qil_symbols.specs.Numbers.{place_of}
use Rattle.qil_semantics.specs.State.{Name}
use Rattle.qil_semantics.specs.Slots.{temps_of}
use Rattle.qil_code.specs.Numbered.{names_of}
use Rattle.qil_code.specs.declared.numbered.Slot.{Slot}
use Rattle.qil_code.proofs.Has.{name-at}
use Rattle.qil_frames.specs.Frames.{SlotFrame, HasSlot}
use Rattle.qil_history.specs.qil_machine.Readings.{temp_here}
use Rattle.qil_state.specs.State.{frames_state, FramesFit, head_names}
use Rattle.qil_state.proofs.Place.{none_some, some_same}

pub bare : {A : Type 0} (p : Program A) (fs : List SlotFrame) (x : Name) → None ≡ slice_get fs 0 → None ≡ temp_here (frames_state p fs) x
bare p [] x first = refl
bare p (f ∷ fs) x first = none_some first

-- a name without a number
unset_by : (b : Bool) (o v t : Option ℕ) → None ≡ (if b then Some 0 else option_map (λ i. suc i) o) → (None ≡ o → t ≡ None) → (if b then v else t) ≡ None
unset_by true o v t e h = none_some e
unset_by false None v t e h = h refl
unset_by false (Some j) v t e h = none_some e

unset : (ns : List Name) (vs : List (Option ℕ)) (x : Name) → None ≡ place_of ns x → temps_of ns vs x ≡ None
unfolding place_of temps_of
unset [] vs x e = refl
unset (n ∷ ns) [] x e = refl
unset (n ∷ ns) (v ∷ vs) x e = unset_by (bytes_eq n x) (place_of ns x) v (temps_of ns vs x) e (unset ns vs x)

pub unknown : {A : Type 0} (p : Program A) (fs : List SlotFrame) (f : SlotFrame) (x : Name) → Some f ≡ slice_get fs 0 → None ≡ place_of (names_of p f.func) x → None ≡ temp_here (frames_state p fs) x
unknown p [] f x first none = refl
unknown p (g ∷ gs) f x first none =
    let same : f ≡ g = some_same f g first in
    sym (unset (names_of p g.func) g.slots x (none ∙ ap (λ (h : SlotFrame). place_of (names_of p h.func) x) same))

-- the slot of a name is there, and has that name
pub has_slot : {A : Type 0} (p : Program A) (fs : List SlotFrame) (f : SlotFrame) (x : Name) (s : Slot) → FramesFit p fs → Some f ≡ slice_get fs 0 → Some s.index ≡ place_of (names_of p f.func) x → HasSlot fs s
has_slot p [] f x s fits first at = none_some (sym first)
has_slot p (g ∷ gs) f x s fits first at =
    let same : f ≡ g = some_same f g first in
    let here : place_of (names_of p g.func) x ≡ Some s.index = sym (at ∙ ap (λ (h : SlotFrame). place_of (names_of p h.func) x) same) in
    let within : s.index < length (names_of p g.func) = slice_get_within (names_of p g.func) s.index x (name-at (names_of p g.func) x s.index here) in
    omega (arith, within, fits.0.slots)

pub named_slot : {A : Type 0} (p : Program A) (fs : List SlotFrame) (f : SlotFrame) (x : Name) (i : ℕ) → Some f ≡ slice_get fs 0 → Some i ≡ place_of (names_of p f.func) x → slice_get (head_names p fs) i ≡ Some x
named_slot p [] f x i first at = none_some (sym first)
named_slot p (g ∷ gs) f x i first at =
    let same : f ≡ g = some_same f g first in
    name-at (names_of p g.func) x i (sym (at ∙ ap (λ (h : SlotFrame). place_of (names_of p h.func) x) same))
