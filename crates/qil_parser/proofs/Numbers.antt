-- What is kept of the number tokens that are left: each is a number of 64 bits.
use Rattle.std.proofs.Common.{◌≡◌, ℕ, zero, suc, ◌-◌, ◌<◌, ◌≤◌, ◌==◌, ◌^◌, Bool, true, false, List, [], ◌∷◌, MatchBool, take, drop, slice_index_or, arith, length, sym, subst}
use Rattle.std.proofs.Props.{props}
use Rattle.std.proofs.Math.Logic.{∥∥₁_elim, ∥∥₁_prop}
use Rattle.std.specs.List.{AllByRecursion}
use Rattle.qil_lexer.specs.declared.token.TokenKind.TheVariants as kinds
use Rattle.qil_lexer.specs.declared.token.Token.{Token}
use Rattle.qil_lexer.specs.Shape.{HasShape, IsInRange, decimal}
use Rattle.qil_lexer.specs.Cut.{CutsBetween, Cuts, end_of}
use Rattle.qil_parser.specs.Token.{HasNumbers}

are_prop : (p : ℕ → Bool) (bytes : List ℕ) → IsProp (AllByRecursion (λ b. p b ≡ true) bytes)
are_prop p [] = hlevel props
are_prop p (b ∷ bytes) = hlevel (props, are_prop p bytes)

shape_prop : (text : List ℕ) → IsProp (HasShape kinds.Number text)
shape_prop [] = hlevel props
shape_prop (b ∷ bytes) = hlevel (props, are_prop)

either_prop : (c : Bool) (P Q : Type 0) → IsProp P → IsProp Q → IsProp (MatchBool c P Q)
either_prop true P Q p q = p
either_prop false P Q p q = q

range_prop : (text : List ℕ) → IsProp (IsInRange text)
range_prop [] = hlevel props
range_prop (b ∷ digits) = either_prop (b == 45) (decimal digits ≤ 2 ^ 63) (decimal (b ∷ digits) < 2 ^ 64) (hlevel props) (hlevel props)

numbers_drop : (ts : List Token) → HasNumbers ts → HasNumbers (drop 1 ts)
numbers_drop [] h = tt
numbers_drop (t ∷ ts) h = h.1

numbers_take : (n : ℕ) (ts : List Token) → HasNumbers ts → HasNumbers (take n ts)
numbers_take zero ts h = tt
numbers_take (suc n) [] h = tt
numbers_take (suc n) (t ∷ ts) h = (h.0, numbers_take n ts h.1)

pub numbers_left : (ts : List Token) → ∥ HasNumbers ts ∥₁ → ∥ HasNumbers (take (length ts - 1) (drop 1 ts)) ∥₁
numbers_left ts h = ∥∥₁_elim h ∥∥₁_prop (λ k. ∣ numbers_take (length ts - 1) (drop 1 ts) (numbers_drop ts k) ∣₁)

pub first_shape : (ts : List Token) (d : Token) → 1 ≤ length ts → (slice_index_or ts 0 d).kind ≡ kinds.Number → ∥ HasNumbers ts ∥₁ → HasShape kinds.Number (slice_index_or ts 0 d).text.now
first_shape [] d le e h = absurd (omega arith)
first_shape (t ∷ ts) d le e h = ∥∥₁_elim h (shape_prop t.text.now) (λ k. (k.0 e).0)

pub first_range : (ts : List Token) (d : Token) → 1 ≤ length ts → (slice_index_or ts 0 d).kind ≡ kinds.Number → ∥ HasNumbers ts ∥₁ → IsInRange (slice_index_or ts 0 d).text.now
first_range [] d le e h = absurd (omega arith)
first_range (t ∷ ts) d le e h = ∥∥₁_elim h (range_prop t.text.now) (λ k. (k.0 e).1)

from_shapes : (text : List ℕ) (from : ℕ) (ts : List Token) (to : ℕ) → CutsBetween text from ts to → HasNumbers ts
from_shapes text from [] to c = tt
from_shapes text from (t ∷ ts) to c = (λ e. (subst (λ (k : _). HasShape k t.text.now) e (subst (λ (l : List ℕ). HasShape t.kind l) (sym c.1.slice) c.1.longest.shape), c.1.in_range e), from_shapes text (end_of t) ts to c.2)

pub cut_numbers : (text : List ℕ) (ts : List Token) → Cuts text ts → ∥ HasNumbers ts ∥₁
cut_numbers text ts c = ∣ from_shapes text 0 ts (length text) c ∣₁
