-- The values of all temporaries of a frame, by slots and by names.
use Rattle.std.proofs.Common.{◌≡◌, refl, sym, ap, ◌∙◌, subst, ℕ, zero, suc, ◌+◌, ◌<◌, List, [], ◌∷◌, ◌++◌, length, drop, map, codes, Option, Some, None, arith}
use Rattle.std.specs.Prelude.{slice_get, unwrap_or, get_or}
use Rattle.std.proofs.lemmas.Option.{get_or_from_slice_get}
use Rattle.qil_tree.specs.declared.tree.Program.{Program}
use Rattle.qil_streams.specs.Text.{line}
use Rattle.qil_semantics.specs.State.{Name}
use Rattle.qil_semantics.specs.Slots.{temps_of}
use Rattle.qil_code.specs.Numbered.{names_of}
use Rattle.qil_code.specs.Slots.{name_at}
use Rattle.qil_code.specs.Facts.{Finds}
use Rattle.qil_frames.specs.Frames.{SlotFrame}
use Rattle.qil_state.specs.State.{frame_state, frames_state, FramesFit}
use Rattle.qil_state.specs.Values.{AreSlots}
use Rattle.qil_state.proofs.Reading.{are_slots, slot_read}
use Rattle.qil_fragments.specs.Texts.{text_of}
use Rattle.qil_render.specs.Texts.{value_line}
use Rattle.qil_render.specs.Shown.{temps_of_frame, or_none, temps_shown}
use Rattle.qil_render.specs.Slots.{slot_lines}
use Rattle.qil_render.proofs.Here.{head_same, names_here}

-- the list after a place begins with what stands there
pub there : {X : Type 0} (xs : List X) (i : ℕ) (y : X) (ys : List X) → drop i xs ≡ y ∷ ys → slice_get xs i ≡ Some y
there [] zero y ys e = absurd cc
there [] (suc i) y ys e = absurd cc
there (x ∷ xs) zero y ys e = ap (λ l. slice_get l 0) e
there (x ∷ xs) (suc i) y ys e = there xs i y ys e

pub behind : {X : Type 0} (xs : List X) (i : ℕ) (y : X) (ys : List X) → drop i xs ≡ y ∷ ys → drop (suc i) xs ≡ ys
behind [] zero y ys e = absurd cc
behind [] (suc i) y ys e = absurd cc
behind (x ∷ xs) zero y ys e = ap (λ l. drop 1 l) e
behind (x ∷ xs) (suc i) y ys e = behind xs i y ys e

there_within : {X : Type 0} (xs : List X) (i : ℕ) (y : X) (ys : List X) → drop i xs ≡ y ∷ ys → i < length xs
there_within [] zero y ys e = absurd cc
there_within [] (suc i) y ys e = absurd cc
there_within (x ∷ xs) zero y ys e = omega arith
there_within (x ∷ xs) (suc i) y ys e = let h = there_within xs i y ys e in omega (arith, h)

past_end : {X Y : Type 0} (xs : List X) (ws : List Y) (i : ℕ) (y : X) (ys : List X) → length xs ≡ length ws → drop i xs ≡ y ∷ ys → drop i ws ≡ [] → ⊥
past_end [] ws zero y ys l e f = absurd cc
past_end [] ws (suc i) y ys l e f = absurd cc
past_end (x ∷ xs) [] i y ys l e f = absurd (omega (arith, l))
past_end (x ∷ xs) (w ∷ ws) zero y ys l e f = absurd cc
past_end (x ∷ xs) (w ∷ ws) (suc i) y ys l e f = past_end xs ws i y ys (omega (arith, l)) e f

-- from a place on, each value is that of its name
lines_at : (ns : List Name) (vs : List (Option ℕ)) (xs : List Name) (ws : List (Option ℕ)) (i : ℕ) → AreSlots ns vs → drop i ns ≡ xs → drop i vs ≡ ws
    → text_of (map (λ x. value_line x (temps_of ns vs x)) xs) ≡ slot_lines xs ws
lines_at ns vs [] ws i are ex ew = refl
lines_at ns vs (x ∷ xs) [] i are ex ew = absurd (past_end ns vs i x xs are.long ex ew)
lines_at ns vs (x ∷ xs) (w ∷ ws) i are ex ew =
    let name : name_at ns i ≡ x = ap (λ o. unwrap_or o []) (there ns i x xs ex) in
    let value : get_or vs i None ≡ w = get_or_from_slice_get vs i w None (there vs i w ws ew) in
    let here : temps_of ns vs x ≡ w = ap (temps_of ns vs) (sym name) ∙ (sym (slot_read ns vs i are (there_within vs i w ws ew)) ∙ value) in
    let rest : text_of (map (λ y. value_line y (temps_of ns vs y)) xs) ≡ slot_lines xs ws = lines_at ns vs xs ws (suc i) are (behind ns i x xs ex) (behind vs i w ws ew) in
    ap (λ v. value_line x v ++ text_of (map (λ y. value_line y (temps_of ns vs y)) xs)) here ∙ ap (λ t. value_line x w ++ t) rest

pub lines_are : (ns : List Name) (vs : List (Option ℕ)) → AreSlots ns vs → text_of (map (λ x. value_line x (temps_of ns vs x)) ns) ≡ slot_lines ns vs
lines_are ns vs are = lines_at ns vs ns vs 0 are refl refl

-- ---- all of them

pub temps_none : {A : Type 0} (p : Program A) (fs : List SlotFrame) → None ≡ slice_get fs 0 → temps_shown p (frames_state p fs) ≡ line (codes "no: no frame")
temps_none p [] e = refl
temps_none p (f ∷ fs) e = absurd cc

shown_by : (ns names : List Name) (vs : List (Option ℕ)) → AreSlots ns vs → names ≡ ns → vs ≡ [] → or_none (map (λ x. value_line x (temps_of ns vs x)) names) ≡ line (codes "none")
shown_by [] names vs are e none = ap (λ (l : List Name). or_none (map (λ x. value_line x (temps_of [] vs x)) l)) e
shown_by (n ∷ ns) names [] are e none = absurd (omega (arith, are.long))
shown_by (n ∷ ns) names (v ∷ vs) are e none = absurd cc

pub temps_empty : {A : Type 0} (p : Program A) (fs : List SlotFrame) (f : SlotFrame) → FramesFit p fs → Finds p → Some f ≡ slice_get fs 0 → f.slots ≡ [] → temps_shown p (frames_state p fs) ≡ line (codes "none")
temps_empty p [] f fits finds e none = absurd cc
temps_empty p (g ∷ gs) f fits finds e none =
    shown_by (names_of p g.func) (temps_of_frame p (frame_state p gs g)) g.slots (are_slots p g fits.0) (names_here p gs g finds fits.0) (ap (λ (h : SlotFrame). h.slots) (head_same f g e) ∙ none)

some_shown : (ns names : List Name) (vs : List (Option ℕ)) → AreSlots ns vs → names ≡ ns → (vs ≡ [] → ⊥) → or_none (map (λ x. value_line x (temps_of ns vs x)) names) ≡ slot_lines ns vs
some_shown [] names [] are e some = absurd (some refl)
some_shown [] names (v ∷ vs) are e some = absurd (omega (arith, are.long))
some_shown (n ∷ ns) names vs are e some = ap (λ (l : List Name). or_none (map (λ x. value_line x (temps_of (n ∷ ns) vs x)) l)) e ∙ lines_are (n ∷ ns) vs are

pub temps_some : {A : Type 0} (p : Program A) (fs : List SlotFrame) (f : SlotFrame) → FramesFit p fs → Finds p → Some f ≡ slice_get fs 0 → (f.slots ≡ [] → ⊥)
    → temps_shown p (frames_state p fs) ≡ slot_lines (names_of p f.func) f.slots
temps_some p [] f fits finds e some = absurd cc
temps_some p (g ∷ gs) f fits finds e some =
    let same : g ≡ f = head_same f g e in
    some_shown (names_of p g.func) (temps_of_frame p (frame_state p gs g)) g.slots (are_slots p g fits.0) (names_here p gs g finds fits.0) (λ none. some (ap (λ (h : SlotFrame). h.slots) (sym same) ∙ none))
    ∙ ap (λ (h : SlotFrame). slot_lines (names_of p h.func) h.slots) same

pub slots_long : {A : Type 0} (p : Program A) (fs : List SlotFrame) (f : SlotFrame) → FramesFit p fs → Some f ≡ slice_get fs 0 → length (names_of p f.func) ≡ length f.slots
slots_long p [] f fits e = absurd cc
slots_long p (g ∷ gs) f fits e = subst (λ (h : SlotFrame). length (names_of p h.func) ≡ length h.slots) (head_same f g e) fits.0.slots

empty_list : {X : Type 0} (xs : List X) → length xs ≡ 0 → xs ≡ []
empty_list [] e = refl
empty_list (x ∷ xs) e = absurd (omega (arith, e))

no_names : {A : Type 0} (p : Program A) (fs : List SlotFrame) (f : SlotFrame) → FramesFit p fs → Some f ≡ slice_get fs 0 → length (names_of p f.func) ≡ 0 → f.slots ≡ []
no_names p fs f fits e none = let l = slots_long p fs f fits e in empty_list f.slots (omega (arith, l, none))

-- where the function names none, there is none
pub temps_unnamed : {A : Type 0} (p : Program A) (fs : List SlotFrame) (f : SlotFrame) → FramesFit p fs → Finds p → Some f ≡ slice_get fs 0 → length (names_of p f.func) ≡ 0 → temps_shown p (frames_state p fs) ≡ line (codes "none")
temps_unnamed p fs f fits finds e none = temps_empty p fs f fits finds e (no_names p fs f fits e none)

pub temps_named : {A : Type 0} (p : Program A) (fs : List SlotFrame) (f : SlotFrame) → FramesFit p fs → Finds p → Some f ≡ slice_get fs 0 → (length (names_of p f.func) ≡ 0 → ⊥)
    → temps_shown p (frames_state p fs) ≡ slot_lines (names_of p f.func) f.slots
temps_named {A} p fs f fits finds e some =
    let l = slots_long p fs f fits e in
    temps_some p fs f fits finds e (λ none. some (l ∙ ap (λ (vs : List (Option ℕ)). length vs) none))

-- one line more
slot_lines_next : (ns : List Name) (vs : List (Option ℕ)) (i : ℕ) (d : Option ℕ) → length ns ≡ length vs → i < length vs
    → slot_lines (drop i ns) (drop i vs) ≡ value_line (name_at ns i) (get_or vs i d) ++ slot_lines (drop (suc i) ns) (drop (suc i) vs)
slot_lines_next [] [] i d l h = absurd (omega (arith, h))
slot_lines_next [] (v ∷ vs) i d l h = absurd (omega (arith, l))
slot_lines_next (n ∷ ns) [] i d l h = absurd (omega (arith, l))
slot_lines_next (n ∷ ns) (v ∷ vs) zero d l h = refl
slot_lines_next (n ∷ ns) (v ∷ vs) (suc i) d l h = slot_lines_next ns vs i d (omega (arith, l)) (omega (arith, h))

pub slot_lines_step : (ns : List Name) (vs : List (Option ℕ)) (i : ℕ) (d : Option ℕ) → length ns ≡ length vs → i < length vs
    → slot_lines (drop i ns) (drop i vs) ≡ value_line (name_at ns i) (get_or vs i d) ++ slot_lines (drop (i + 1) ns) (drop (i + 1) vs)
slot_lines_step ns vs i d l h = let one : suc i ≡ i + 1 = omega arith in slot_lines_next ns vs i d l h ∙ ap (λ n. value_line (name_at ns i) (get_or vs i d) ++ slot_lines (drop n ns) (drop n vs)) one
