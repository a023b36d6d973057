-- Fragments of a text that were put so far, and those that are left.
use Rattle.std.proofs.Common.{◌≡◌, ℕ, suc, ◌+◌, ◌<◌, ◌≤◌, List, [], ◌∷◌, ◌++◌, length, take, drop, get_or, ap, sym, subst, ◌∙◌}
use Rattle.std.specs.Prelude.{Option, Result, Err, IsErrAnd}
use Rattle.std.specs.List.{flat_map}
use Rattle.std.specs.Io.KnownBytes.{Appends}
use Rattle.std.proofs.lemmas.List.{take_more, take_all, append-nil}
use Rattle.std.proofs.lemmas.Grind.{flat_map-append}
use Rattle.std.proofs.Math.Seq.{split_at}
use Rattle.qil_streams.specs.Device.{Puts}
use Rattle.qil_streams.proofs.DeviceLemmas.{Appends-append}
use Rattle.qil_streams.proofs.TextLemmas.{Puts-append, Puts-stop}

flat_map-take_more : {T : Type 0} (f : T → List ℕ) (xs : List T) (i : ℕ) (d : T) → i < length xs →
    flat_map f (take (i + 1) xs) ≡ flat_map f (take i xs) ++ f (get_or xs i d)
flat_map-take_more f xs i d h =
    ap (λ v. flat_map f v) (take_more xs i d h) ∙ flat_map-append f (take i xs) (get_or xs i d ∷ [])
    ∙ ap (λ v. flat_map f (take i xs) ++ v) (append-nil (f (get_or xs i d)))

flat_map-split : {T : Type 0} (f : T → List ℕ) (xs : List T) (i : ℕ) (d : T) → i < length xs →
    flat_map f xs ≡ flat_map f (take i xs) ++ (f (get_or xs i d) ++ flat_map f (drop (suc i) xs))
flat_map-split f xs i d h = ap (λ v. flat_map f v) (split_at xs i d h) ∙ flat_map-append f (take i xs) (get_or xs i d ∷ drop (suc i) xs)

-- one fragment more was put
pub put_more : {T : Type 0} (f : T → List ℕ) (xs : List T) (i : ℕ) (d : T) (a b c : Option (List ℕ)) → i < length xs →
    Appends a b (flat_map f (take i xs)) → Appends b c (f (get_or xs i d)) → Appends a c (flat_map f (take (i + 1) xs))
put_more f xs i d a b c h p q =
    subst (λ (text : List ℕ). Appends a c text) (sym (flat_map-take_more f xs i d h)) (Appends-append a b c (flat_map f (take i xs)) (f (get_or xs i d)) p q)

-- a fragment stopped
pub put_stop : {T R E F : Type 0} (f : T → List ℕ) (xs : List T) (i : ℕ) (d : T) (a b c : Option (List ℕ)) → i < length xs →
    (Q : E → Type 0) (r : Result R E) → IsErrAnd r Q → (e : F) →
    Appends a b (flat_map f (take i xs)) → Puts {T = R} (Err e) b c (f (get_or xs i d)) → Puts r a c (flat_map f xs)
put_stop f xs i d a b c h Q r is e p q =
    let rest = flat_map f (drop (suc i) xs) in
    subst (λ (text : List ℕ). Puts r a c text) (sym (flat_map-split f xs i d h))
    (Puts-append r a b c (flat_map f (take i xs)) (f (get_or xs i d) ++ rest) p (Puts-stop Q r is e b c (f (get_or xs i d)) rest q))

-- all fragments were put
pub put_all : {T : Type 0} (f : T → List ℕ) (xs : List T) (i : ℕ) (a b : Option (List ℕ)) → length xs ≤ i →
    Appends a b (flat_map f (take i xs)) → Appends a b (flat_map f xs)
put_all f xs i a b h p = subst (λ part. Appends a b (flat_map f part)) (take_all i xs h) p
