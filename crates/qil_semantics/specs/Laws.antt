-- What the laws say.
use Rattle.std.specs.Prelude.{◌≡◌, ◌⊎◌, ℕ, zero, suc, ◌+◌, List, [], ◌∷◌, Some, None, Ok}
use Rattle.qil_tree.specs.declared.ops.Class.{Class}
use Rattle.qil_tree.specs.declared.tree.Operand.TheVariants as operands
use Rattle.qil_tree.specs.declared.tree.Program.{Program}
use Rattle.qil_ops.specs.Values.{width, low_bits}
use Rattle.qil_memory.specs.Live.{Live}
use Rattle.qil_semantics.specs.State.{Name, Frame, Fault, Status, faulted, State}
use Rattle.qil_semantics.specs.Step.{PhiMove, merges}

abbrev pub IsWhole : Status → Type 0
IsWhole (faulted fault) = ⊥
IsWhole status = Unit {0}

-- no fault, or the old state with a fault, and nothing else changed
abbrev pub Settles : State → State → Type 0
Settles s t = IsWhole t.status ⊎ ((fault : Fault) × (t ≡ record s { status = faulted fault }))

-- these bytes, none of them zero, stand from an address on, and a zero byte after them
abbrev pub IsText : Live → ℕ → List ℕ → Type 0
IsText m a [] = m a ≡ Some 0
IsText m a (zero ∷ bs) = ⊥
IsText m a (suc b ∷ bs) = (m a ≡ Some (suc b)) × IsText m (a + 1) bs

-- k bytes that aren't zero stand from an address on, and a dead byte after them
abbrev pub IsCutAfter : Live → ℕ → ℕ → Type 0
IsCutAfter m a zero = m a ≡ None
IsCutAfter m a (suc k) = (b : ℕ) × (m a ≡ Some (suc b)) × IsCutAfter m (a + 1) k

-- two phis, each of which takes the temporary of the other
abbrev pub swap : Class → Name → Name → List PhiMove
swap c a b =
    record { target = record { name = a; class = c }; value = operands.Temp b }
    ∷ (record { target = record { name = b; class = c }; value = operands.Temp a } ∷ [])

-- after them, the two temporaries, which had the values x and y, have y and x
pub record Swapped {A : Type 0} (p : Program A) (f : Frame) (c : Class) (a b : Name) (x y : ℕ) : Type 0 where
  pub after : Frame
  pub merged : merges p f (swap c a b) ≡ Ok after
  pub first : after.temps a ≡ Some (low_bits (width c) y)
  pub second : after.temps b ≡ Some (low_bits (width c) x)
