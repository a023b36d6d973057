-- Canonical texts that are put fragment by fragment.
use Rattle.std.proofs.Common.{◌≡◌, ℕ, ◌+◌, ◌-◌, ◌<◌, ◌≤◌, List, [], ◌∷◌, ◌++◌, length, take, drop, get_or, slice_index_or, arith, Option, Result, Ok, Err, refl, sym, ap, subst, ◌∙◌}
use Rattle.std.specs.Prelude.{IsErrAnd}
use Rattle.std.specs.List.{flat_map}
use Rattle.std.specs.Io.KnownBytes.{Appends}
use Rattle.std.proofs.lemmas.List.{take_all}
use Rattle.std.proofs.lemmas.Grind.{flat_map-append}
use Rattle.qil_streams.specs.Device.{HasPut, Puts}
use Rattle.qil_streams.proofs.FragmentLemmas.{put_more, put_stop}
use Rattle.qil_streams.proofs.TextLemmas.{HasPut-as, HasPut-append, HasPut-stop}
use Rattle.qil_printer.specs.Canonical.{Written, written, text_of}

-- ---- a loop over items, each of which has a text

module _ {T : Type 0} (f : T → List ℕ) (xs : List T) (i : ℕ) (x : T) (text : List ℕ) (h : i < length xs) (is : x ≡ get_or xs i x) (same : text ≡ f x) where
  there : text ≡ f (get_or xs i x)
  there = same ∙ ap f is

  pub item_more : (a b c : Option (List ℕ)) → Appends a b (flat_map f (take i xs)) → Appends b c text → Appends a c (flat_map f (take (i + 1) xs))
  item_more a b c p q = put_more f xs i x a b c h p (subst (λ (t : List ℕ). Appends b c t) there q)

  pub item_stop : {R E F : Type 0} (a b c : Option (List ℕ)) (Q : E → Type 0) (r : Result R E) → IsErrAnd r Q → (e : F) → Appends a b (flat_map f (take i xs)) → Puts {T = R} (Err e) b c text → Puts r a c (flat_map f xs)
  item_stop {R} a b c Q r k e p q = put_stop f xs i x a b c h Q r k e p (subst (λ (t : List ℕ). Puts {T = R} (Err e) b c t) there q)

-- ---- texts of words in a row

pub text_append : (xs ys : List Written) → text_of (xs ++ ys) ≡ text_of xs ++ text_of ys
text_append xs ys = flat_map-append written xs ys

pub texts_of_each : {T : Type 0} (words : T → List Written) (xs : List T) → text_of (flat_map words xs) ≡ flat_map (λ x. text_of (words x)) xs
texts_of_each words [] = refl
texts_of_each words (x ∷ xs) = text_append (words x) (flat_map words xs) ∙ ap (λ (t : List ℕ). text_of (words x) ++ t) (texts_of_each words xs)

module _ {S : Type 0} {bytes : S → Option (List ℕ)} {stops goes_to : S → ℕ} (xs ys : List Written) where
  pub words_put : {R F T E : Type 0} (v : R) (r : Result T E) (a b c : S) →
      HasPut {T = R} {E = F} bytes stops goes_to (Ok v) a b (text_of xs) → HasPut bytes stops goes_to r b c (text_of ys) → HasPut bytes stops goes_to r a c (text_of (xs ++ ys))
  words_put v r a b c p q = HasPut-as (sym (text_append xs ys)) (HasPut-append v r a b c (text_of xs) (text_of ys) p q)

  pub words_stop : {R F T E : Type 0} (Q : E → Type 0) (r : Result T E) → IsErrAnd r Q → (e : F) (a b : S) →
      HasPut {T = R} {E = F} bytes stops goes_to (Err e) a b (text_of xs) → HasPut bytes stops goes_to r a b (text_of (xs ++ ys))
  words_stop Q r k e a b p = HasPut-as (sym (text_append xs ys)) (HasPut-stop Q r k e a b (text_of xs) (text_of ys) p)

-- ---- a first item and others

tail_is : {T : Type 0} (y : T) (ys : List T) → take (length (y ∷ ys) - 1) ys ≡ ys
tail_is y ys = ap (λ (n : ℕ). take n ys) (omega arith) ∙ take_all (length ys) ys (omega arith)

parted : {T : Type 0} (xs : List T) (x : T) → 1 ≤ length xs → x ≡ slice_index_or xs 0 x → xs ≡ x ∷ take (length xs - 1) (drop 1 xs)
parted [] x le is = absurd (omega arith)
parted (y ∷ ys) x le is = ap (λ (z : _). z ∷ ys) (sym is) ∙ ap (λ (l : List _). x ∷ l) (sym (tail_is y ys))

module _ {T : Type 0} (first more : T → List Written) (all : List T → List Written) (made : (x : T) (others : List T) → all (x ∷ others) ≡ first x ++ flat_map more others) (xs : List T) (x : T) (le : 1 ≤ length xs) (is : x ≡ slice_index_or xs 0 x) where
  abbrev others : List T
  others = take (length xs - 1) (drop 1 xs)

  all_is : all xs ≡ first x ++ flat_map more others
  all_is = ap all (parted xs x le is) ∙ made x others

  text_is : text_of (first x ++ flat_map more others) ≡ text_of (all xs)
  text_is = ap text_of (sym all_is)

  pub listed_put : {S R F U E : Type 0} {bytes : S → Option (List ℕ)} {stops goes_to : S → ℕ} (v : R) (r : Result U E) (a b c : S) →
      HasPut {T = R} {E = F} bytes stops goes_to (Ok v) a b (text_of (first x)) → HasPut bytes stops goes_to r b c (flat_map (λ y. text_of (more y)) others) → HasPut bytes stops goes_to r a c (text_of (all xs))
  listed_put v r a b c p q = HasPut-as text_is (words_put (first x) (flat_map more others) v r a b c p (HasPut-as (sym (texts_of_each more others)) q))

  pub listed_stop : {S R F U E : Type 0} {bytes : S → Option (List ℕ)} {stops goes_to : S → ℕ} (Q : E → Type 0) (r : Result U E) → IsErrAnd r Q → (e : F) (a b : S) →
      HasPut {T = R} {E = F} bytes stops goes_to (Err e) a b (text_of (first x)) → HasPut bytes stops goes_to r a b (text_of (all xs))
  listed_stop Q r k e a b p = HasPut-as text_is (words_stop (first x) (flat_map more others) Q r k e a b p)
