-- Runs of a machine along a walk.
use Rattle.std.proofs.Common.{◌≡◌, refl, sym, ap, ◌∙◌, subst, ℕ, zero, suc, ◌+◌, ◌<◌, ◌≤◌, true, false, List, ◌∷◌, length, get_or, drop, Option, Some, None, Ok, ◌⊎◌, inl, inr, arith}
use Rattle.std.proofs.lemmas.Bool.{cases_lt, false≢true}
use Rattle.qil_tree.specs.declared.tree.Program.{Program}
use Rattle.qil_semantics.specs.State.{State, is_final}
use Rattle.qil_semantics.specs.Step.{step_of}
use Rattle.qil_semantics.specs.Targets.{after}
use Rattle.qil_checkpoints.specs.declared.poked.KeptPoke.{KeptPoke}
use Rattle.qil_checkpoints.specs.declared.poked.Poked.{Poked}
use Rattle.qil_checkpoints.proofs.Parts.{poked-le, rest-next, rest-part, part-none, part-here, part-next}
use Rattle.qil_checkpoints.specs.Walk.{after_poke, poke_at, ArePoked, IsPart, next_by, walk, walked, IsMove, AreMoves}

-- ---- one move

pub walk-suc : {A : Type 0} (p : Program A) (s : State) (pokes : List Poked) (n : ℕ) → walk p s pokes (suc n) ≡ next_by p (poke_at pokes n) (walk p s pokes n)
unfolding walk
walk-suc p s pokes n = refl

pub walk-zero : {A : Type 0} (p : Program A) (s : State) (pokes : List Poked) → walk p s pokes 0 ≡ s
unfolding walk
walk-zero p s pokes = refl

pub walk-step : {A : Type 0} (p : Program A) (s : State) (pokes : List Poked) (n : ℕ) → poke_at pokes n ≡ None → walk p s pokes (suc n) ≡ step_of p (walk p s pokes n)
walk-step p s pokes n none = walk-suc p s pokes n ∙ ap (λ (o : Option KeptPoke). next_by p o (walk p s pokes n)) none

-- a move that isn't a poke is from a state that runs
pub runs-there : {A : Type 0} (p : Program A) (s : State) (pokes : List Poked) (n j : ℕ) → AreMoves p s pokes n → j < n → poke_at pokes j ≡ None → is_final (walk p s pokes j).status ≡ false
runs-there {A} p s pokes n j moves lt none =
    let move : IsMove p None (walk p s pokes j) (walk p s pokes (suc j)) = subst (λ (o : Option KeptPoke). IsMove p o (walk p s pokes j) (walk p s pokes (suc j))) none (moves j lt) in
    move.0

-- a poke gives the next state
pub poked-there : {A : Type 0} (p : Program A) (s : State) (pokes : List Poked) (n j : ℕ) (poke : KeptPoke) → AreMoves p s pokes n → j < n → poke_at pokes j ≡ Some poke → after_poke p (walk p s pokes j) poke ≡ Ok (walk p s pokes (suc j))
poked-there {A} p s pokes n j poke moves lt some = subst (λ (o : Option KeptPoke). IsMove p o (walk p s pokes j) (walk p s pokes (suc j))) some (moves j lt)

-- ---- several steps

-- without a poke the walk goes by steps
pub walk-after : {A : Type 0} (p : Program A) (s : State) (pokes : List Poked) (n k : ℕ) → ((j : ℕ) → n ≤ j → j < n + k → poke_at pokes j ≡ None) → walk p s pokes (n + k) ≡ after p (walk p s pokes n) k
walk-after p s pokes n zero none = let e : n + 0 ≡ n = omega arith in ap (walk p s pokes) e
walk-after p s pokes n (suc k) none =
    let e : n + suc k ≡ suc (n + k) = omega arith in
    ap (walk p s pokes) e
    ∙ walk-step p s pokes (n + k) (none (n + k) (omega arith) (omega arith))
    ∙ ap (step_of p) (walk-after p s pokes n k (λ j ge lt. none j ge (omega (arith, lt))))

-- a machine that ran so far along the walk and could go on isn't at its end
cut_short : {A : Type 0} (p : Program A) (s new : State) (pokes : List Poked) (n k r : ℕ) → ((j : ℕ) → n ≤ j → j < n + k → poke_at pokes j ≡ None) → AreMoves p s pokes (n + k) → r < k
    → new ≡ after p (walk p s pokes n) r → is_final new.status ≡ true → ⊥
cut_short p s new pokes n k r none moves lt ran over =
    let there : walk p s pokes (n + r) ≡ after p (walk p s pokes n) r = walk-after p s pokes n r (λ j ge below. none j ge (omega (arith, below, lt))) in
    let runs : is_final (walk p s pokes (n + r)).status ≡ false = runs-there p s pokes (n + k) (n + r) moves (omega (arith, lt)) (none (n + r) (omega arith) (omega (arith, lt))) in
    false≢true (sym (ap (λ (t : State). is_final t.status) (ran ∙ sym there) ∙ runs) ∙ over)

-- so a run along the walk makes all steps
pub run-along : {A : Type 0} (p : Program A) (s now new : State) (pokes : List Poked) (n k r : ℕ) → ((j : ℕ) → n ≤ j → j < n + k → poke_at pokes j ≡ None) → AreMoves p s pokes (n + k) → now ≡ walk p s pokes n
    → r ≤ k → new ≡ after p now r → (r ≡ k) ⊎ (is_final new.status ≡ true) → new ≡ walk p s pokes (n + k)
run-along p s now new pokes n k r none moves at le ran (inl all) =
    ran ∙ ap (after p now) all ∙ ap (λ (t : State). after p t k) at ∙ sym (walk-after p s pokes n k none)
run-along p s now new pokes n k r none moves at le ran (inr over) = elim (cases_lt r k) [
  | inl lt ↦ absurd (cut_short p s new pokes n k r none moves lt (ran ∙ ap (λ (t : State). after p t r) at) over)
  | inr ge ↦ (let all : r ≡ k = omega (arith, le, ge) in ran ∙ ap (after p now) all ∙ ap (λ (t : State). after p t k) at ∙ sym (walk-after p s pokes n k none))
]

-- the same, to a position
pub run-to : {A : Type 0} (p : Program A) (s now new : State) (pokes : List Poked) (from to r : ℕ) → from ≤ to → ((j : ℕ) → from ≤ j → j < to → poke_at pokes j ≡ None) → AreMoves p s pokes to
    → now ≡ walk p s pokes from → (k : ℕ) → from + k ≡ to → r ≤ k → new ≡ after p now r → (r ≡ k) ⊎ (is_final new.status ≡ true) → new ≡ walk p s pokes to
run-to {A} p s now new pokes from to r le none moves at k e few ran over =
    run-along p s now new pokes from k r (λ j ge lt. none j ge (omega (arith, lt, e))) (subst (λ n. AreMoves p s pokes n) (sym e) moves) at few ran over
    ∙ ap (walk p s pokes) e

pub moves-below : {A : Type 0} (p : Program A) (s : State) (pokes : List Poked) (n m : ℕ) → AreMoves p s pokes n → m ≤ n → AreMoves p s pokes m
moves-below p s pokes n m moves le = λ j lt. moves j (omega (arith, lt, le))

-- ---- the same pokes

abbrev pub SamePokes : List Poked → List Poked → ℕ → Type 0
SamePokes a b n = (j : ℕ) → j < n → poke_at a j ≡ poke_at b j

pub same-below : (a b : List Poked) (n m : ℕ) → SamePokes a b n → m ≤ n → SamePokes a b m
same-below a b n m same le = λ j lt. same j (omega (arith, lt, le))

pub walk-same : {A : Type 0} (p : Program A) (s : State) (a b : List Poked) (n : ℕ) → SamePokes a b n → walk p s a n ≡ walk p s b n
walk-same p s a b zero same = walk-zero p s a ∙ sym (walk-zero p s b)
walk-same p s a b (suc n) same =
    walk-suc p s a n
    ∙ ap (λ (o : Option KeptPoke). next_by p o (walk p s a n)) (same n (omega arith))
    ∙ ap (λ (t : State). next_by p (poke_at b n) t) (walk-same p s a b n (same-below a b (suc n) n same (omega arith)))
    ∙ sym (walk-suc p s b n)

pub walked-same : {A : Type 0} (p : Program A) (s : State) (a b : List Poked) (n : ℕ) → SamePokes a b n → walked p s a n ≡ walked p s b n
unfolding walked
walked-same p s a b zero same = refl
walked-same p s a b (suc n) same =
    let less : SamePokes a b n = same-below a b (suc n) n same (omega arith) in
    ap (λ (t : State). t ∷ walked p s a n) (walk-same p s a b n less) ∙ ap (λ (ts : List State). walk p s b n ∷ ts) (walked-same p s a b n less)

pub moves-same : {A : Type 0} (p : Program A) (s : State) (a b : List Poked) (n : ℕ) → SamePokes a b n → AreMoves p s a n → AreMoves p s b n
moves-same {A} p s a b n same moves = λ j lt.
    let here : walk p s a j ≡ walk p s b j = walk-same p s a b j (same-below a b n j same (omega (arith, lt))) in
    let next : walk p s a (suc j) ≡ walk p s b (suc j) = walk-same p s a b (suc j) (same-below a b n (suc j) same (omega (arith, lt))) in
    subst (λ (o : Option KeptPoke). IsMove p o (walk p s b j) (walk p s b (suc j))) (same j lt)
    (subst (λ (t : State). IsMove p (poke_at a j) t (walk p s b (suc j))) here (subst (λ (t : State). IsMove p (poke_at a j) (walk p s a j) t) next (moves j lt)))

-- ---- what a machine says by its own program

pub by-program : {A : Type 0} (q p : Program A) (s x y : State) (pokes : List Poked) (from to : ℕ) → q ≡ p → (AreMoves q s pokes to → x ≡ walk q s pokes from → y ≡ walk q s pokes to)
    → AreMoves p s pokes to → x ≡ walk p s pokes from → y ≡ walk p s pokes to
by-program {A} q p s x y pokes from to e says = subst (λ (r : Program A). AreMoves r s pokes to → x ≡ walk r s pokes from → y ≡ walk r s pokes to) e says

-- the same, of the moves up to a later position
pub by-program-to : {A : Type 0} (q p : Program A) (s x y : State) (pokes : List Poked) (from to last : ℕ) → q ≡ p → (AreMoves q s pokes last → x ≡ walk q s pokes from → y ≡ walk q s pokes to)
    → AreMoves p s pokes last → x ≡ walk p s pokes from → y ≡ walk p s pokes to
by-program-to {A} q p s x y pokes from to last e says = subst (λ (r : Program A). AreMoves r s pokes last → x ≡ walk r s pokes from → y ≡ walk r s pokes to) e says

-- up to the next poke of a part and through it
pub gone-through : {A : Type 0} (p q : Program A) (s now new : State) (pokes part : List Poked) (i at to : ℕ) (d : Poked) (n : ℕ) → i < length part → ArePoked at (drop i part) to → q ≡ p → n ≡ (get_or part i d).position + 1
    → AreMoves p s pokes to → IsPart pokes (drop i part) at to → now ≡ walk p s pokes at
    → (((j : ℕ) → at ≤ j → j < (get_or part i d).position → poke_at pokes j ≡ None) → poke_at pokes (get_or part i d).position ≡ Some (get_or part i d).poke → AreMoves q s pokes ((get_or part i d).position + 1)
    → now ≡ walk q s pokes at → new ≡ walk q s pokes ((get_or part i d).position + 1))
    → IsPart pokes (drop (i + 1) part) n to × (new ≡ walk p s pokes n)
gone-through {A} p q s now new pokes part i at to d n lt poked e reached moves is here says =
    let made : Poked = get_or part i d in
    let after : List Poked = drop (i + 1) part in
    let next : ArePoked at (made ∷ after) to = rest-next part i at to d lt poked in
    let rest : IsPart pokes (made ∷ after) at to = rest-part pokes part i at to d lt is in
    let under : made.position + 1 ≤ to = poked-le (made.position + 1) after to next.2 in
    let there : new ≡ walk p s pokes (made.position + 1) =
    by-program q p s now new pokes at (made.position + 1) e (λ steps. says (part-none pokes made after at to rest next) (part-here pokes made after at to rest next) steps) (moves-below p s pokes to (made.position + 1) moves under) here in
    (subst (λ m. IsPart pokes after m to) (sym reached) (part-next pokes made after at to rest next), there ∙ ap (walk p s pokes) (sym reached))

-- a poke that is made again leads to the next state
pub poke-along : {A : Type 0} (q p : Program A) (s now new : State) (pokes : List Poked) (n : ℕ) (poke : KeptPoke) → q ≡ p → now ≡ walk p s pokes n → AreMoves p s pokes (n + 1) → poke_at pokes n ≡ Some poke
    → ((next : State) → after_poke q now poke ≡ Ok next → new ≡ next) → new ≡ walk p s pokes (n + 1)
poke-along {A} q p s now new pokes n poke e at moves some says =
    let one : suc n ≡ n + 1 = omega arith in
    says (walk p s pokes (suc n)) (ap (λ (r : Program A). after_poke r now poke) e ∙ ap (λ (t : State). after_poke p t poke) at ∙ poked-there p s pokes (n + 1) n poke moves (omega arith) some)
    ∙ ap (walk p s pokes) one
