-- Lines of items, or `none` where there is no item.
use Rattle.std.proofs.Common.{◌≡◌, refl, ap, ℕ, List, [], ◌∷◌, ◌++◌, length, map}
use Rattle.std.specs.Prelude.{codes}
use Rattle.std.specs.List.{flat_map}
use Rattle.qil_streams.specs.Text.{line}
use Rattle.qil_fragments.specs.Texts.{text_of}
use Rattle.qil_render.specs.Shown.{or_none}

lines_of : {X : Type 0} (f : X → List ℕ) (xs : List X) → text_of (map f xs) ≡ flat_map f xs
lines_of f [] = refl
lines_of f (x ∷ xs) = ap (λ t. f x ++ t) (lines_of f xs)

pub lines_none : {X : Type 0} (f : X → List ℕ) (xs : List X) → length xs ≡ 0 → or_none (map f xs) ≡ line (codes "none")
lines_none f [] e = refl
lines_none f (x ∷ xs) e = absurd cc

pub lines_some : {X : Type 0} (f : X → List ℕ) (xs : List X) → (length xs ≡ 0 → ⊥) → or_none (map f xs) ≡ flat_map f xs
lines_some f [] h = absurd (h refl)
lines_some f (x ∷ xs) h = lines_of f (x ∷ xs)
