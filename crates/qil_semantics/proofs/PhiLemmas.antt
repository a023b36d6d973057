-- Two phis that swap their values.
use Rattle.std.proofs.Common.{◌≡◌, refl, ℕ, true, false, [], ◌∷◌, Some, arith}
use Rattle.std.specs.Str.{bytes_eq}
use Rattle.std.proofs.lemmas.Slice.Eq.{bytes_eq-Decides}
use Rattle.qil_tree.specs.declared.ops.Class.{Class}
use Rattle.qil_tree.specs.declared.tree.Program.{Program}
use Rattle.qil_ops.specs.Values.{width, low_bits}
use Rattle.qil_semantics.specs.State.{Name, Frame}
use Rattle.qil_semantics.specs.Temps.{by_name, overlay}
use Rattle.qil_semantics.specs.Laws.{Swapped}

same_name : (x : Name) → bytes_eq x x ≡ true
same_name x = grind (arith, bytes_eq-Decides x x)

turned : (x y : Name) → bytes_eq x y ≡ false → bytes_eq y x ≡ false
turned x y e = grind (arith, e, bytes_eq-Decides x y, bytes_eq-Decides y x)

pub swaps : {A : Type 0} (p : Program A) (f : Frame) (c : Class) (a b : Name) (x y : ℕ) → bytes_eq a b ≡ false → f.temps a ≡ Some x → f.temps b ≡ Some y → Swapped p f c a b x y
unfolding by_name overlay
swaps p f c a b x y apart first second = record {
  after = record f { temps = overlay (by_name ((a, low_bits (width c) y) ∷ ((b, low_bits (width c) x) ∷ []))) f.temps };
  merged = rw second (rw first refl);
  first = rw (same_name a) (rw (turned a b apart) refl);
  second = rw (same_name b) refl;
}
