-- Tables next to blocks: what holds of each pair holds with one pair more.
use Rattle.std.proofs.Common.{◌≡◌, ◌∙◌, sym, ℕ, ◌<◌, ◌⊎◌, inl, inr, List, [], ◌∷◌, ◌++◌, length, get_or, Some, subst}
use Rattle.std.specs.Prelude.{slice_get}
use Rattle.std.proofs.lemmas.Option.{slice_get_read}
use Rattle.qil_resolution.proofs.Parts.{last_or_before, is_there}

-- P holds of each element and what stands next to it
abbrev pub NextTo : {X Y : Type 0} → (X → Y → Type 0) → List X → List Y → Type 0
NextTo {X} {Y} P xs ys = (i : ℕ) (x : X) → slice_get xs i ≡ Some x → (y : Y) → slice_get ys i ≡ Some y → P x y

pub one_more : {X Y : Type 0} (P : X → Y → Type 0) (xs : List X) (ys zs : List Y) (k : ℕ) (x : X) (y : Y)
    → length ys ≡ k → x ≡ get_or xs k x → zs ≡ ys ++ y ∷ [] → P x y → NextTo P xs ys → NextTo P xs zs
one_more {X} {Y} P xs ys zs k x y len is more here all = λ i v at w there. by i v at w (last_or_before ys y w i (subst (λ l. slice_get l i ≡ Some w) more there))
  where
    by : (i : ℕ) (v : X) → slice_get xs i ≡ Some v → (w : Y) → (slice_get ys i ≡ Some w) ⊎ ((i ≡ length ys) × (w ≡ y)) → P v w
    by i v at w (inl e) = all i v at w e
    by i v at w (inr e) =
        let place : i ≡ k = e.0 ∙ len in
        let same : v ≡ x = is_there xs k x v is (subst (λ n. slice_get xs n ≡ Some v) place at) in
        subst (λ a. P a w) (sym same) (subst (λ b. P x b) (sym e.1) here)

-- what is read next to an element is what P says of it
pub read_there : {X Y : Type 0} (P : X → Y → Type 0) (xs : List X) (ys : List Y) (i : ℕ) (x : X) (y : Y) → length ys ≡ length xs → i < length xs → y ≡ get_or ys i y → slice_get xs i ≡ Some x → NextTo P xs ys → P x y
read_there P xs ys i x y len lt is at all = all i x at y (slice_get_read ys (length xs) i y (sym len) lt is)
