-- Lines of lists: phis, instructions, bytes, frames.
use Rattle.std.proofs.Common.{◌≡◌, refl, sym, ap, ◌∙◌, ℕ, zero, suc, ◌+◌, ◌-◌, ◌<◌, ◌≤◌, Some, None, codes, List, [], ◌∷◌, ◌++◌, length, drop, map, reverse, arith}
use Rattle.std.specs.Prelude.{get_or, slice_get, unwrap_or}
use Rattle.std.specs.List.{flat_map}
use Rattle.std.proofs.lemmas.List.{get_or-reverse, drop_all}
use Rattle.qil_tree.specs.declared.tree.Inst.{Inst}
use Rattle.qil_tree.specs.declared.tree.Program.{Program}
use Rattle.qil_printer.specs.Canonical.{inst_text}
use Rattle.qil_streams.specs.Text.{line}
use Rattle.qil_frames.specs.Frames.{SlotFrame}
use Rattle.qil_state.specs.State.{frame_state, frames_state}
use Rattle.qil_fragments.specs.Texts.{text_of}
use Rattle.qil_render.specs.Texts.{frame_line}
use Rattle.qil_render.specs.Shown.{frames_shown}
use Rattle.qil_render.specs.Listing.{row, inst_rows}
use Rattle.qil_render.specs.Frames.{frame_lines}

-- one more of a list
flat_next : {X : Type 0} (f : X → List ℕ) (xs : List X) (i : ℕ) (d : X) → i < length xs → flat_map f (drop i xs) ≡ f (get_or xs i d) ++ flat_map f (drop (suc i) xs)
flat_next f [] i d h = absurd (omega (arith, h))
flat_next f (x ∷ xs) zero d h = refl
flat_next f (x ∷ xs) (suc i) d h = flat_next f xs i d (omega (arith, h))

pub flat_step : {X : Type 0} (f : X → List ℕ) (xs : List X) (i : ℕ) (d : X) → i < length xs → flat_map f (drop i xs) ≡ f (get_or xs i d) ++ flat_map f (drop (i + 1) xs)
flat_step f xs i d h = let one : suc i ≡ i + 1 = omega arith in flat_next f xs i d h ∙ ap (λ n. f (get_or xs i d) ++ flat_map f (drop n xs)) one

-- the same, of the element that stands there
pub flat_at : {X : Type 0} (f : X → List ℕ) (xs : List X) (i : ℕ) (x : X) → x ≡ get_or xs i x → i < length xs → flat_map f (drop i xs) ≡ f x ++ flat_map f (drop (i + 1) xs)
flat_at f xs i x e h = flat_step f xs i x h ∙ ap (λ y. f y ++ flat_map f (drop (i + 1) xs)) (sym e)

-- one instruction more
rows_next : {A : Type 0} (at n : ℕ) (xs : List (Inst A)) (i : ℕ) (d : Inst A) → i < length xs → inst_rows at n (drop i xs) ≡ row at n (inst_text (get_or xs i d)) ++ inst_rows at (suc n) (drop (suc i) xs)
rows_next at n [] i d h = absurd (omega (arith, h))
rows_next at n (x ∷ xs) zero d h = refl
rows_next at n (x ∷ xs) (suc i) d h = rows_next at n xs i d (omega (arith, h))

pub rows_step : {A : Type 0} (at : ℕ) (xs : List (Inst A)) (i : ℕ) (d : Inst A) → i < length xs
    → inst_rows at i (drop i xs) ≡ row at i (inst_text (get_or xs i d)) ++ inst_rows at (i + 1) (drop (i + 1) xs)
rows_step at xs i d h = let one : suc i ≡ i + 1 = omega arith in rows_next at i xs i d h ∙ ap (λ n. row at i (inst_text (get_or xs i d)) ++ inst_rows at n (drop n xs)) one

-- the same, of the instruction that stands there
pub rows_at : {A : Type 0} (at : ℕ) (xs : List (Inst A)) (i : ℕ) (x : Inst A) → x ≡ get_or xs i x → i < length xs
    → inst_rows at i (drop i xs) ≡ row at i (inst_text x) ++ inst_rows at (i + 1) (drop (i + 1) xs)
rows_at at xs i x e h = rows_step at xs i x h ∙ ap (λ y. row at i (inst_text y) ++ inst_rows at (i + 1) (drop (i + 1) xs)) (sym e)

pub rows_end : {A : Type 0} (at : ℕ) (xs : List (Inst A)) (i : ℕ) → length xs ≤ i → inst_rows at i (drop i xs) ≡ []
rows_end at xs i h = ap (inst_rows at i) (drop_all i xs h)

-- ---- frames

lines_of_frames : {A : Type 0} (p : Program A) (fs : List SlotFrame) → text_of (map frame_line (frames_state p fs)) ≡ frame_lines p fs
lines_of_frames p [] = refl
lines_of_frames p (f ∷ fs) = ap (λ t. frame_line (frame_state p fs f) ++ t) (lines_of_frames p fs)

pub frames_none : {A : Type 0} (p : Program A) (fs : List SlotFrame) → None ≡ slice_get fs 0 → frames_shown (frames_state p fs) ≡ line (codes "none")
frames_none p [] e = refl
frames_none p (f ∷ fs) e = absurd cc

pub frames_some : {A : Type 0} (p : Program A) (fs : List SlotFrame) (f : SlotFrame) → Some f ≡ slice_get fs 0 → frames_shown (frames_state p fs) ≡ frame_lines p fs
frames_some p [] f e = absurd cc
frames_some p (g ∷ gs) f e = lines_of_frames p (g ∷ gs)

frames_next : {A : Type 0} (p : Program A) (fs : List SlotFrame) (i : ℕ) (x : SlotFrame) → slice_get fs i ≡ Some x
    → frame_lines p (drop i fs) ≡ frame_line (frame_state p (drop (suc i) fs) x) ++ frame_lines p (drop (suc i) fs)
frames_next p [] i x e = absurd cc
frames_next p (f ∷ fs) zero x e = ap (λ (g : SlotFrame). frame_line (frame_state p fs g) ++ frame_lines p fs) (ap (λ o. unwrap_or o f) e)
frames_next p (f ∷ fs) (suc i) x e = frames_next p fs i x e

pub frames_step : {A : Type 0} (p : Program A) (fs : List SlotFrame) (i : ℕ) (x : SlotFrame) → slice_get fs i ≡ Some x
    → frame_lines p (drop i fs) ≡ frame_line (frame_state p (drop (i + 1) fs) x) ++ frame_lines p (drop (i + 1) fs)
frames_step p fs i x e = let one : suc i ≡ i + 1 = omega arith in frames_next p fs i x e ∙ ap (λ n. frame_line (frame_state p (drop n fs) x) ++ frame_lines p (drop n fs)) one

pub frames_end : {A : Type 0} (p : Program A) (fs : List SlotFrame) (i : ℕ) → length fs ≤ i → frame_lines p (drop i fs) ≡ []
frames_end p fs i h = ap (frame_lines p) (drop_all i fs h)

-- from the end of the outermost first
pub from_last : {X : Type 0} (xs : List X) (i : ℕ) (d : X) → i < length xs → get_or (reverse xs) (length xs - 1 - i) d ≡ get_or xs i d
from_last xs i d h =
    get_or-reverse xs (length xs - 1 - i) d (omega (arith, h))
    ∙ ap (λ n. get_or xs n d) (omega (arith, h))

slice_get_from_get_or : {X : Type 0} (xs : List X) (i : ℕ) (d : X) → i < length xs → slice_get xs i ≡ Some (get_or xs i d)
slice_get_from_get_or [] i d h = absurd (omega (arith, h))
slice_get_from_get_or (x ∷ xs) zero d h = refl
slice_get_from_get_or (x ∷ xs) (suc i) d h = slice_get_from_get_or xs i d (omega (arith, h))

pub reversed_at : {X : Type 0} (xs : List X) (i : ℕ) (x : X) → i < length xs → x ≡ get_or (reverse xs) (length xs - 1 - i) x → slice_get xs i ≡ Some x
reversed_at xs i x h e = slice_get_from_get_or xs i x h ∙ ap (λ y. Some y) (sym (e ∙ from_last xs i x h))
