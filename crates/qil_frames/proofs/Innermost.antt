-- The innermost frame stands last in the code's list.
use Rattle.std.proofs.Common.{◌≡◌, refl, ◌↔◌, Bool, IsTrue, ℕ, ◌-◌, List, [], ◌∷◌, ◌++◌, length, get_or, reverse, slice_set, sym, ap, ◌∙◌, arith, None}
use Rattle.std.proofs.lemmas.List.{reverse-reverse, reverse-append, length-append}
use Rattle.std.proofs.Math.Seq.{set-append_seam, get_or-append_seam}
use Rattle.qil_frames.specs.Frames.{SlotFrame, HasFrame, HasSlot, on_innermost, held}
use Rattle.qil_code.specs.declared.numbered.Slot.{Slot}

reverse_cons : {X : Type 0} (x : X) (xs : List X) → reverse (x ∷ xs) ≡ reverse xs ++ x ∷ []
reverse_cons x xs = reverse-append (x ∷ []) xs

reverse_push : {X : Type 0} (xs : List X) (x : X) → reverse (xs ++ x ∷ []) ≡ x ∷ reverse xs
reverse_push xs x = reverse-append xs (x ∷ [])

pub on_last : (xs zs : List SlotFrame) (g : SlotFrame → SlotFrame) (n : ℕ) (old w : SlotFrame) → reverse xs ≡ zs → HasFrame zs → n ≡ length xs - 1 → old ≡ get_or xs n old → w ≡ g old → reverse (slice_set xs n w) ≡ on_innermost g zs
on_last xs [] g n old w e h en eo ew = absurd h
on_last xs (f ∷ fs) g n old w e h en eo ew =
    let shape : xs ≡ reverse fs ++ f ∷ [] = sym (reverse-reverse xs) ∙ ap reverse e ∙ reverse_cons f fs in
    let at : n ≡ length (reverse fs) = omega (arith, ap length shape, length-append (reverse fs) (f ∷ [])) in
    let was : old ≡ f = eo ∙ ap (λ k. get_or xs k old) at ∙ ap (λ l. get_or l (length (reverse fs)) old) shape ∙ get_or-append_seam (reverse fs) f [] old in
    let same : slice_set xs n w ≡ reverse fs ++ w ∷ [] = ap (λ k. slice_set xs k w) at ∙ ap (λ l. slice_set l (length (reverse fs)) w) shape ∙ set-append_seam (reverse fs) f [] w in
    let new : w ≡ g f = ew ∙ ap g was in
    ap reverse same ∙ reverse_push (reverse fs) w ∙ ap (λ l. w ∷ l) (reverse-reverse fs) ∙ ap (λ u. u ∷ fs) new

-- what is done to the innermost frame in one go is what is done to it one after the other
pub twice_on_innermost : (g h : SlotFrame → SlotFrame) (fs : List SlotFrame) → on_innermost (λ f. g (h f)) fs ≡ on_innermost g (on_innermost h fs)
twice_on_innermost g h [] = refl
twice_on_innermost g h (f ∷ fs) = refl

pub has_frame : (fs : List SlotFrame) (s : Slot) → HasSlot fs s → HasFrame fs
has_frame [] s h = h
has_frame (f ∷ fs) s h = tt

-- the frame that stands last is the innermost
pub last_is : (xs : List SlotFrame) (f : SlotFrame) (fs : List SlotFrame) (n : ℕ) (old : SlotFrame) → reverse xs ≡ f ∷ fs → n ≡ length xs - 1 → old ≡ get_or xs n old → old ≡ f
last_is xs f fs n old e en eo =
    let shape : xs ≡ reverse fs ++ f ∷ [] = sym (reverse-reverse xs) ∙ ap reverse e ∙ reverse_cons f fs in
    let at : n ≡ length (reverse fs) = omega (arith, ap length shape, length-append (reverse fs) (f ∷ [])) in
    eo ∙ ap (λ k. get_or xs k old) at ∙ ap (λ l. get_or l (length (reverse fs)) old) shape ∙ get_or-append_seam (reverse fs) f [] old

pub last_held : (xs zs : List SlotFrame) (n : ℕ) (old : SlotFrame) (s : Slot) → reverse xs ≡ zs → HasFrame zs → n ≡ length xs - 1 → old ≡ get_or xs n old → get_or old.slots s.index None ≡ held zs s
last_held xs [] n old s e h en eo = absurd h
last_held xs (f ∷ fs) n old s e h en eo = ap (λ (k : SlotFrame). get_or k.slots s.index None) (last_is xs f fs n old e en eo)

-- lists are equal where the same lists from the other end are
pub same_reversed : {X : Type 0} (b : Bool) (xs ys ps qs zs ws : List X) → ps ≡ xs → qs ≡ ys → reverse xs ≡ zs → reverse ys ≡ ws → (IsTrue b ↔ (ps ≡ qs)) → IsTrue b ↔ (zs ≡ ws)
same_reversed b xs ys ps qs zs ws ea eb ex ey h = (
  (λ t. sym ex ∙ ap reverse (sym ea ∙ h.0 t ∙ eb) ∙ ey),
  (λ e. h.1 (ea ∙ sym (reverse-reverse xs) ∙ ap reverse (ex ∙ e ∙ sym ey) ∙ reverse-reverse ys ∙ sym eb)),
)

-- the frame that stands last, and those below it, whatever is set in its place
pub record IsInnermost (xs zs : List SlotFrame) (n : ℕ) (old : SlotFrame) : Type 0 where
  pub callers : List SlotFrame
  pub was : zs ≡ old ∷ callers
  pub now : (w : SlotFrame) → reverse (slice_set xs n w) ≡ w ∷ callers

pub stands_last : (xs zs : List SlotFrame) (n : ℕ) (old : SlotFrame) → reverse xs ≡ zs → HasFrame zs → n ≡ length xs - 1 → old ≡ get_or xs n old → IsInnermost xs zs n old
stands_last xs [] n old e h en eo = absurd h
stands_last xs (f ∷ fs) n old e h en eo =
    record {
      callers = fs;
      was = ap (λ u. u ∷ fs) (sym (last_is xs f fs n old e en eo));
      now = λ w. on_last xs (f ∷ fs) (λ _. w) n old w e tt en eo refl;
    }
