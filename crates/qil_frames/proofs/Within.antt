-- Whether one slot is there, or two.
use Rattle.std.proofs.Common.{◌≡◌, ◌↔◌, ℕ, ◌<◌, ◌≤◌, List, [], ◌∷◌, IsTrue, nat_lt, arith}
use Rattle.std.proofs.lemmas.Bool.{ltb-true, lt-ltb}
use Rattle.std.proofs.lemmas.List.Elements.{All-nil, All-cons, All-head, All-tail}
use Rattle.qil_frames.specs.declared.saved.SavedSlot.{SavedSlot}
use Rattle.qil_frames.specs.Enter.{AreSlots}

abbrev below : ℕ → SavedSlot → Type 0
below n k = k.slot.index < n

pub alone_is_there : (x : SavedSlot) (ks : List SavedSlot) (n : ℕ) → ks ≡ x ∷ [] → IsTrue (nat_lt x.slot.index n) ↔ AreSlots ks n
alone_is_there x ks n e = (
  (λ t. rw e (All-cons (below n) x [] (ltb-true x.slot.index n t) (All-nil (below n)))),
  (λ a. let b : AreSlots (x ∷ []) n = rw e at a in lt-ltb x.slot.index n (All-head (below n) x [] b)),
)

pub alone_below : (x : SavedSlot) (ks : List SavedSlot) (n : ℕ) → ks ≡ x ∷ [] → AreSlots ks n → x.slot.index < n
alone_below x ks n e a = let b : AreSlots (x ∷ []) n = rw e at a in All-head (below n) x [] b

-- where the first is there, it turns on the second
pub first_is_there : (x y : SavedSlot) (ks : List SavedSlot) (n : ℕ) → ks ≡ x ∷ y ∷ [] → x.slot.index < n → IsTrue (nat_lt y.slot.index n) ↔ AreSlots ks n
first_is_there x y ks n e h = (
  (λ t. rw e (All-cons (below n) x (y ∷ []) h (All-cons (below n) y [] (ltb-true y.slot.index n t) (All-nil (below n))))),
  (λ a. let b : AreSlots (x ∷ y ∷ []) n = rw e at a in lt-ltb y.slot.index n (All-head (below n) y [] (All-tail (below n) x (y ∷ []) b))),
)

pub first_is_not : (x y : SavedSlot) (ks : List SavedSlot) (n : ℕ) → ks ≡ x ∷ y ∷ [] → n ≤ x.slot.index → IsTrue (nat_lt x.slot.index n) ↔ AreSlots ks n
first_is_not x y ks n e h = (
  (λ t. let l : x.slot.index < n = ltb-true x.slot.index n t in absurd (omega arith)),
  (λ a. let b : AreSlots (x ∷ y ∷ []) n = rw e at a in lt-ltb x.slot.index n (All-head (below n) x (y ∷ []) b)),
)

pub first_below : (x y : SavedSlot) (ks : List SavedSlot) (n : ℕ) → ks ≡ x ∷ y ∷ [] → AreSlots ks n → x.slot.index < n
first_below x y ks n e a = let b : AreSlots (x ∷ y ∷ []) n = rw e at a in All-head (below n) x (y ∷ []) b

pub second_below : (x y : SavedSlot) (ks : List SavedSlot) (n : ℕ) → ks ≡ x ∷ y ∷ [] → AreSlots ks n → y.slot.index < n
second_below x y ks n e a = let b : AreSlots (x ∷ y ∷ []) n = rw e at a in All-head (below n) y [] (All-tail (below n) x (y ∷ []) b)
