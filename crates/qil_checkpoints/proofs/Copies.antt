-- Copies of a walk's states: which are found, and what they are where the pokes are others.
use Rattle.std.proofs.Common.{◌≡◌, refl, sym, ap, ◌∙◌, subst, ℕ, zero, suc, ◌+◌, ◌<◌, ◌≤◌, List, [], ◌∷◌, length, take, drop, map, get_or, Some, ◌⊎◌, inl, inr, arith}
use Rattle.std.specs.Prelude.{slice_get}
use Rattle.std.proofs.lemmas.Option.{slice_get-get_or, slice_get_within}
use Rattle.qil_tree.specs.declared.tree.Program.{Program}
use Rattle.qil_semantics.specs.State.{State}
use Rattle.qil_checkpoints.specs.declared.poked.Poked.{Poked}
use Rattle.qil_checkpoints.specs.Walk.{ArePoked, count_before, walk, AreMoves}
use Rattle.qil_checkpoints.specs.Held.{first_of, FromStart, AreUpTo, AreComeTo, IsKept}
use Rattle.qil_checkpoints.proofs.Parts.{front-poked}
use Rattle.qil_checkpoints.proofs.AlongWalks.{SamePokes, same-below, walk-zero, walk-same, moves-same, moves-below}

-- ---- what is found

-- the first is of the start
pub start-there : (positions : List ℕ) → FromStart positions → slice_get positions 0 ≡ Some 0
start-there [] start = absurd start
start-there (k ∷ ks) start = ap (λ n. Some n) start

pub there-as : (positions : List ℕ) (i j k m d : ℕ) → i < length positions → j ≡ i → k ≡ get_or positions i d → slice_get positions j ≡ Some k
there-as positions i j k m d lt e f = ap (slice_get positions) e ∙ slice_get-get_or positions i d lt ∙ ap (λ n. Some n) (sym f)

copy_there : (f : ℕ → State) (ks : List ℕ) (i k : ℕ) (x : State) → slice_get ks i ≡ Some k → slice_get (map f ks) i ≡ Some x → x ≡ f k
copy_there f [] i k x at e = absurd cc
copy_there f (j ∷ ks) zero k x at e = let same : f j ≡ x = cc in let here : j ≡ k = cc in sym same ∙ ap f here
copy_there f (j ∷ ks) (suc i) k x at e = copy_there f ks i k x at e

-- the state of a copy is that of its position
pub kept-there : {A : Type 0} (p : Program A) (kept : List State) (positions : List ℕ) (pokes : List Poked) (n i k : ℕ) (x : State) → IsKept p kept positions pokes n → slice_get positions i ≡ Some k → slice_get kept i ≡ Some x
    → x ≡ walk p (first_of kept) pokes k
kept-there p kept positions pokes n i k x is at e = copy_there (λ k. walk p (first_of kept) pokes k) positions i k x at (ap (λ (xs : List State). slice_get xs i) (sym is.copies) ∙ e)

come_at : {A : Type 0} (p : Program A) (s : State) (pokes : List Poked) (positions : List ℕ) (i k : ℕ) → AreComeTo p s pokes positions → slice_get positions i ≡ Some k → AreMoves p s pokes k
come_at p s pokes [] i k are at = absurd cc
come_at {A} p s pokes (j ∷ ks) zero k are at = let here : j ≡ k = cc in subst (λ n. AreMoves p s pokes n) here are.0
come_at p s pokes (j ∷ ks) (suc i) k are at = come_at p s pokes ks i k are.1 at

-- and moves lead to it
pub kept-moves : {A : Type 0} (p : Program A) (kept : List State) (positions : List ℕ) (pokes : List Poked) (n i k : ℕ) → IsKept p kept positions pokes n → slice_get positions i ≡ Some k → AreMoves p (first_of kept) pokes k
kept-moves p kept positions pokes n i k is at = come_at p (first_of kept) pokes positions i k is.come_to at

length_map : (f : ℕ → State) (ks : List ℕ) → length (map f ks) ≡ length ks
length_map f [] = refl
length_map f (k ∷ ks) = ap suc (length_map f ks)

pub kept-length : {A : Type 0} (p : Program A) (kept : List State) (positions : List ℕ) (pokes : List Poked) (n : ℕ) → IsKept p kept positions pokes n → length kept ≡ length positions
kept-length p kept positions pokes n is = ap (λ (xs : List State). length xs) is.copies ∙ length_map (λ k. walk p (first_of kept) pokes k) positions

pub kept-within : {A : Type 0} (p : Program A) (kept : List State) (positions : List ℕ) (pokes : List Poked) (n i k : ℕ) → IsKept p kept positions pokes n → slice_get positions i ≡ Some k → i < length kept
kept-within p kept positions pokes n i k is at = let same = kept-length p kept positions pokes n is in let inside = slice_get_within positions i k at in omega (arith, same, inside)

-- ---- positions that aren't above another

pub upto-all : (positions : List ℕ) (n : ℕ) → FromStart positions → AreUpTo n (drop 1 positions) → AreUpTo n positions
upto-all [] n start rest = absurd start
upto-all (k ∷ ks) n start rest = (let first : k ≡ 0 = start in omega (arith, first), rest)

-- on these two functions are the same
map_same : (f g : ℕ → State) (ks : List ℕ) (n : ℕ) → AreUpTo n ks → ((k : ℕ) → k ≤ n → f k ≡ g k) → map f ks ≡ map g ks
map_same f g [] n up same = refl
map_same f g (k ∷ ks) n up same = ap (λ (s : State). s ∷ map f ks) (same k up.0) ∙ ap (λ (ss : List State). g k ∷ ss) (map_same f g ks n up.1 same)

come_same : {A : Type 0} (p : Program A) (s : State) (a b : List Poked) (ks : List ℕ) (n : ℕ) → SamePokes a b n → AreUpTo n ks → AreComeTo p s a ks → AreComeTo p s b ks
come_same p s a b [] n same up are = tt
come_same p s a b (k ∷ ks) n same up are = (moves-same p s a b k (same-below a b n k same up.0) are.0, come_same p s a b ks n same up.1 are.1)

-- with other pokes behind it
pub kept-same : {A : Type 0} (p : Program A) (kept : List State) (positions : List ℕ) (a b : List Poked) (n : ℕ) → SamePokes a b n → AreUpTo n positions → kept ≡ map (λ k. walk p (first_of kept) a k) positions
    → kept ≡ map (λ k. walk p (first_of kept) b k) positions
kept-same p kept positions a b n same up copies =
    copies ∙ map_same (λ k. walk p (first_of kept) a k) (λ k. walk p (first_of kept) b k) positions n up (λ k under. walk-same p (first_of kept) a b k (same-below a b n k same under))

pub come-same : {A : Type 0} (p : Program A) (kept : List State) (positions : List ℕ) (a b : List Poked) (n : ℕ) → SamePokes a b n → AreUpTo n positions → AreComeTo p (first_of kept) a positions → AreComeTo p (first_of kept) b positions
come-same p kept positions a b n same up are = come_same p (first_of kept) a b positions n same up are

-- ---- fewer moves

-- where a poke is the first that goes, and no copy is behind it
pub kept-cut : {A : Type 0} (p : Program A) (kept : List State) (positions : List ℕ) (pokes fewer : List Poked) (n m first : ℕ) → IsKept p kept positions pokes n → m ≤ n → m ≤ first → fewer ≡ take (count_before m pokes) pokes
    → SamePokes pokes fewer first → AreUpTo first positions → IsKept p kept positions fewer m
kept-cut {A} p kept positions pokes fewer n m first is le under cut same up = record {
  copies = kept-same p kept positions pokes fewer first same up is.copies;
  start = is.start;
  come_to = come-same p kept positions pokes fewer first same up is.come_to;
  poked = subst (λ (qs : List Poked). ArePoked 0 qs m) (sym cut) (front-poked 0 pokes n m is.poked (omega arith));
  moves = moves-same p (first_of kept) pokes fewer m (same-below pokes fewer first m same under) (moves-below p (first_of kept) pokes n m is.moves le);
}

-- where none goes
pub kept-less : {A : Type 0} (p : Program A) (kept : List State) (positions : List ℕ) (pokes fewer : List Poked) (n m : ℕ) → IsKept p kept positions pokes n → m ≤ n → fewer ≡ take (count_before m pokes) pokes → fewer ≡ pokes
    → IsKept p kept positions fewer m
kept-less {A} p kept positions pokes fewer n m is le cut all = subst (λ (qs : List Poked). IsKept p kept positions qs m) (sym all) (record {
  copies = is.copies;
  start = is.start;
  come_to = is.come_to;
  poked = subst (λ (qs : List Poked). ArePoked 0 qs m) (sym cut ∙ all) (front-poked 0 pokes n m is.poked (omega arith));
  moves = moves-below p (first_of kept) pokes n m is.moves le;
})

-- ---- the first

pub kept-begun : {A : Type 0} (p : Program A) (s : State) (kept : List State) (positions : List ℕ) → kept ≡ s ∷ [] → positions ≡ 0 ∷ [] → IsKept p kept positions [] 0
kept-begun {A} p s kept positions e f = subst (λ (ss : List State). IsKept p ss positions [] 0) (sym e) (subst (λ ks. IsKept p (s ∷ []) ks [] 0) (sym f) (record {
  copies = ap (λ (t : State). t ∷ []) (sym (walk-zero p s []));
  start = refl;
  come_to = (λ j lt. absurd (omega (arith, lt)), tt);
  poked = omega arith;
  moves = λ j lt. absurd (omega (arith, lt));
}))
