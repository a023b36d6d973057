-- Another choice of copies: one more, or one less. The walk stays.
use Rattle.std.proofs.Common.{◌≡◌, refl, sym, ap, ◌∙◌, subst, ℕ, zero, suc, ◌+◌, ◌<◌, ◌≤◌, false, List, [], ◌∷◌, ◌++◌, length, take, drop, map, get_or, Result, Ok, Err, arith}
use Rattle.std.specs.Prelude.{remove, OnOk, is_err}
use Rattle.std.proofs.lemmas.Bool.{false≢true}
use Rattle.std.proofs.lemmas.List.{drop_more}
use Rattle.qil_tree.specs.declared.tree.Program.{Program}
use Rattle.qil_semantics.specs.State.{State}
use Rattle.qil_state.specs.State.{Whole, state_of}
use Rattle.qil_checkpoints.specs.declared.poked.Poked.{Poked}
use Rattle.qil_checkpoints.specs.Walk.{walk, timeline_at, AreMoves}
use Rattle.qil_checkpoints.specs.Held.{first_of, FromStart, AreUpTo, AreComeTo, IsKept, Holds, StillKept}
use Rattle.qil_checkpoints.proofs.AlongWalks.{moves-below}
use Rattle.qil_checkpoints.proofs.Copies.{kept-length}

pub on-ok : {T E P : Type 0} (r : Result T E) → is_err r ≡ false → OnOk r P → P
on-ok (Ok x) e h = h
on-ok (Err x) e h = absurd (false≢true (sym e))

-- ---- one position more

from_push : (positions : List ℕ) (n : ℕ) → FromStart positions → FromStart (positions ++ n ∷ [])
from_push [] n start = absurd start
from_push (k ∷ ks) n start = start

come_push : {A : Type 0} (p : Program A) (s : State) (pokes : List Poked) (ks : List ℕ) (n : ℕ) → AreComeTo p s pokes ks → AreMoves p s pokes n → AreComeTo p s pokes (ks ++ n ∷ [])
come_push p s pokes [] n are moves = (moves, tt)
come_push p s pokes (k ∷ ks) n are moves = (are.0, come_push p s pokes ks n are.1 moves)

map_push : (f : ℕ → State) (ks : List ℕ) (n : ℕ) → map f (ks ++ n ∷ []) ≡ map f ks ++ f n ∷ []
map_push f [] n = refl
map_push f (k ∷ ks) n = ap (λ (ss : List State). f k ∷ ss) (map_push f ks n)

-- ---- one position less

from_remove : (positions : List ℕ) (i : ℕ) → 0 < i → FromStart positions → FromStart (remove positions i)
from_remove [] i lt start = absurd start
from_remove (k ∷ ks) zero lt start = absurd (omega (arith, lt))
from_remove (k ∷ ks) (suc i) lt start = start

come_remove : {A : Type 0} (p : Program A) (s : State) (pokes : List Poked) (ks : List ℕ) (i : ℕ) → AreComeTo p s pokes ks → AreComeTo p s pokes (remove ks i)
come_remove p s pokes [] zero are = are
come_remove p s pokes [] (suc i) are = are
come_remove p s pokes (k ∷ ks) zero are = are.1
come_remove p s pokes (k ∷ ks) (suc i) are = (are.0, come_remove p s pokes ks i are.1)

remove_map : (f : ℕ → State) (ks : List ℕ) (i : ℕ) → take i (map f ks) ++ drop (suc i) (map f ks) ≡ map f (remove ks i)
remove_map f [] zero = refl
remove_map f [] (suc i) = refl
remove_map f (k ∷ ks) zero = refl
remove_map f (k ∷ ks) (suc i) = ap (λ (ss : List State). f k ∷ ss) (remove_map f ks i)

-- ---- the first copy

first_push : (kept : List State) (s : State) → 0 < length kept → first_of (kept ++ s ∷ []) ≡ first_of kept
first_push [] s some = absurd (omega (arith, some))
first_push (k ∷ kept) s some = refl

first_forget : (kept : List State) (i : ℕ) → 0 < i → first_of (take i kept ++ drop (suc i) kept) ≡ first_of kept
first_forget kept zero some = absurd (omega (arith, some))
first_forget [] (suc i) some = refl
first_forget (s ∷ kept) (suc i) some = refl

some_position : (positions : List ℕ) → FromStart positions → 0 < length positions
some_position [] start = absurd start
some_position (k ∷ ks) start = omega arith

-- ---- all that is kept

-- copies of the same walk, at other positions
still : {A : Type 0} (p : Program A) (kept other : List State) (positions more : List ℕ) (pokes : List Poked) (n : ℕ) → IsKept p kept positions pokes n → first_of other ≡ first_of kept
    → other ≡ map (λ k. walk p (first_of kept) pokes k) more → FromStart more → AreComeTo p (first_of kept) pokes more → StillKept p kept other more pokes n
still {A} p kept other positions more pokes n is first copies start come = record {
  is_kept = record {
    copies = copies ∙ ap (λ (s : State). map (λ k. walk p s pokes k) more) (sym first);
    start = start;
    come_to = subst (λ (s : State). AreComeTo p s pokes more) (sym first) come;
    poked = is.poked;
    moves = subst (λ (s : State). AreMoves p s pokes n) (sym first) is.moves;
  };
  first = first;
}

pub still-same : {A : Type 0} (p : Program A) (kept other : List State) (positions more : List ℕ) (pokes : List Poked) (n : ℕ) → other ≡ kept → more ≡ positions → IsKept p kept positions pokes n → StillKept p kept other more pokes n
still-same {A} p kept other positions more pokes n e f is =
    subst (λ (ss : List State). StillKept p kept ss more pokes n) (sym e) (subst (λ ks. StillKept p kept kept ks pokes n) (sym f) (record { is_kept = is; first = refl }))

pub still-pushed : {A : Type 0} (p : Program A) (kept other : List State) (s : State) (positions more : List ℕ) (pokes : List Poked) (n k : ℕ) → other ≡ kept ++ s ∷ [] → more ≡ positions ++ k ∷ []
    → IsKept p kept positions pokes n → k ≤ n → s ≡ walk p (first_of kept) pokes k → StillKept p kept other more pokes n
still-pushed {A} p kept other s positions more pokes n k pushed added is le at =
    let f : ℕ → State = λ k. walk p (first_of kept) pokes k in
    let some : 0 < length kept = let l : length kept ≡ length positions = kept-length p kept positions pokes n is in let m = some_position positions is.start in omega (arith, l, m) in
    let first : first_of other ≡ first_of kept = ap (λ (ss : List State). first_of ss) pushed ∙ first_push kept s some in
    let copies : other ≡ map f (positions ++ k ∷ []) =
    pushed ∙ ap (λ (ss : List State). ss ++ s ∷ []) is.copies ∙ ap (λ (t : State). map f positions ++ t ∷ []) at ∙ sym (map_push f positions k) in
    subst (λ ks. StillKept p kept other ks pokes n) (sym added)
    (still p kept other positions (positions ++ k ∷ []) pokes n is first copies (from_push positions k is.start)
    (come_push p (first_of kept) pokes positions k is.come_to (moves-below p (first_of kept) pokes n k is.moves le)))

pub still-forgot : {A : Type 0} (p : Program A) (kept other : List State) (positions more : List ℕ) (pokes : List Poked) (n i : ℕ) → 0 < i → other ≡ take i kept ++ drop (i + 1) kept → more ≡ remove positions i → IsKept p kept positions pokes n
    → StillKept p kept other more pokes n
still-forgot {A} p kept other positions more pokes n i some forgot removed is =
    let f : ℕ → State = λ k. walk p (first_of kept) pokes k in
    let one : i + 1 ≡ suc i = omega arith in
    let less : other ≡ take i kept ++ drop (suc i) kept = forgot ∙ ap (λ j. take i kept ++ drop j kept) one in
    let first : first_of other ≡ first_of kept = ap (λ (ss : List State). first_of ss) less ∙ first_forget kept i some in
    let copies : other ≡ map f (remove positions i) = less ∙ ap (λ (ss : List State). take i ss ++ drop (suc i) ss) is.copies ∙ remove_map f positions i in
    subst (λ ks. StillKept p kept other ks pokes n) (sym removed)
    (still p kept other positions (remove positions i) pokes n is first copies (from_remove positions i some is.start) (come_remove p (first_of kept) pokes positions i is.come_to))

-- one choice after another
pub still-then : {A : Type 0} (p : Program A) (kept other third : List State) (positions more : List ℕ) (pokes : List Poked) (n : ℕ) → StillKept p kept other positions pokes n → (IsKept p other positions pokes n → StillKept p other third more pokes n)
    → StillKept p kept third more pokes n
still-then p kept other third positions more pokes n one next =
    let two : StillKept p other third more pokes n = next one.is_kept in
    record { is_kept = two.is_kept; first = two.first ∙ one.first }

-- by other names of the program and of the copies before
pub still-as : {A : Type 0} (p q : Program A) (kept was other : List State) (positions : List ℕ) (pokes : List Poked) (n : ℕ) → q ≡ p → was ≡ kept → StillKept q was other positions pokes n → StillKept p kept other positions pokes n
still-as {A} p q kept was other positions pokes n e f h =
    subst (λ (r : Program A). StillKept r kept other positions pokes n) e (subst (λ (ss : List State). StillKept q ss other positions pokes n) f h)

pub kept-by : {A : Type 0} (p q : Program A) (kept was : List State) (positions : List ℕ) (pokes : List Poked) (n : ℕ) → q ≡ p → was ≡ kept → IsKept p kept positions pokes n → IsKept q was positions pokes n
kept-by {A} p q kept was positions pokes n e f is =
    subst (λ (r : Program A). IsKept r was positions pokes n) (sym e) (subst (λ (ss : List State). IsKept p ss positions pokes n) (sym f) is)

-- ---- the machine stands where it stood

pub held-still : {A : Type 0} (w : Whole A) (kept other : List State) (positions more : List ℕ) (pokes : List Poked) (n : ℕ) → Holds w kept positions pokes n → StillKept w.program kept other more pokes n → Holds w other more pokes n
held-still {A} w kept other positions more pokes n h still = record { is_kept = still.is_kept; now = h.now ∙ ap (λ (s : State). walk w.program s pokes n) (sym still.first) }

pub timeline-still : {A : Type 0} (p : Program A) (kept other : List State) (more : List ℕ) (pokes : List Poked) (n : ℕ) → StillKept p kept other more pokes n → timeline_at p (first_of other) pokes n ≡ timeline_at p (first_of kept) pokes n
timeline-still p kept other more pokes n h = ap (λ (s : State). timeline_at p s pokes n) h.first

-- ---- of those that are looked through from the last on, each one stays that isn't too late

drop_remove : (ks : List ℕ) (i : ℕ) → i < length ks → drop i (remove ks i) ≡ drop (suc i) ks
drop_remove [] i lt = absurd (omega (arith, lt))
drop_remove (k ∷ ks) zero lt = refl
drop_remove (k ∷ ks) (suc i) lt = drop_remove ks i (omega (arith, lt))

pub upto-removed : (last : ℕ) (ks more : List ℕ) (i j : ℕ) → j < length ks → i ≡ j + 1 → more ≡ remove ks j → AreUpTo last (drop i ks) → AreUpTo last (drop j more)
upto-removed last ks more i j lt e removed up =
    let one : i ≡ suc j = omega (arith, e) in
    subst (λ xs. AreUpTo last (drop j xs)) (sym removed) (subst (λ xs. AreUpTo last xs) (ap (λ n. drop n ks) one ∙ sym (drop_remove ks j lt)) up)

length_remove : (ks : List ℕ) (i : ℕ) → i < length ks → suc (length (remove ks i)) ≡ length ks
length_remove [] i lt = absurd (omega (arith, lt))
length_remove (k ∷ ks) zero lt = refl
length_remove (k ∷ ks) (suc i) lt = ap suc (length_remove ks i (omega (arith, lt)))

pub upto-left : (ks more : List ℕ) (j : ℕ) → j < length ks → more ≡ remove ks j → j ≤ length more
upto-left ks more j lt removed =
    let long : suc (length (remove ks j)) ≡ length ks = length_remove ks j lt in
    let same : length more ≡ length (remove ks j) = ap (λ xs. length xs) removed in
    omega (arith, lt, long, same)

pub upto-stays : (last : ℕ) (ks : List ℕ) (i j x : ℕ) → j < length ks → i ≡ j + 1 → x ≡ get_or ks j x → x ≤ last → AreUpTo last (drop i ks) → AreUpTo last (drop j ks)
upto-stays last ks i j x lt e at under up =
    subst (λ xs. AreUpTo last xs) (sym (drop_more ks j x lt)) ((subst (λ n. n ≤ last) at under, subst (λ n. AreUpTo last (drop n ks)) e up))

pub upto-more : (last : ℕ) (ks : List ℕ) (i : ℕ) → i ≤ 1 → AreUpTo last (drop i ks) → AreUpTo last (drop 1 ks)
upto-more last [] i le up = tt
upto-more last (k ∷ ks) zero le up = up.1
upto-more last (k ∷ ks) (suc zero) le up = up
upto-more last (k ∷ ks) (suc (suc i)) le up = absurd (omega (arith, le))

-- one choice after another, of a machine that stays as it is
pub still-next : {A : Type 0} (first was : Whole A) (kept other third : List State) (positions more : List ℕ) (pokes : List Poked) (n : ℕ) → was ≡ first → StillKept first.program kept other positions pokes n
    → (IsKept was.program other positions pokes n → StillKept was.program other third more pokes n) → StillKept first.program kept third more pokes n
still-next {A} first was kept other third positions more pokes n e one next =
    still-then first.program kept other third positions more pokes n one
    (subst (λ (w : Whole A). IsKept w.program other positions pokes n → StillKept w.program other third more pokes n) e next)
