-- Pokes at rising positions: which is found where, and the parts of such a list.
use Rattle.std.proofs.Common.{◌≡◌, refl, sym, ap, ◌∙◌, subst, ℕ, zero, suc, ◌+◌, ◌<◌, ◌≤◌, Bool, true, false, cond, List, [], ◌∷◌, ◌++◌, length, get_or, take, drop, Option, Some, None, inl, inr, eq-eqb, arith}
use Rattle.std.proofs.lemmas.Bool.{ne_eqb, cases_lt}
use Rattle.std.proofs.lemmas.List.{drop_more, drop_all}
use Rattle.std.proofs.lemmas.List.Sums.{prefix_len_is}
use Rattle.std.proofs.lemmas.Bool.Decides.{nat_tests, Decides-eqb}
use Rattle.std.specs.Prelude.{◌==◌, nat_lt, slice_get}
use Rattle.std.specs.List.Sorted.{IsPartitionedBy, IsPartitionPoint}
use Rattle.qil_checkpoints.specs.declared.poked.KeptPoke.{KeptPoke}
use Rattle.qil_checkpoints.specs.declared.poked.KeptPoke.TheVariants.{Bytes}
use Rattle.qil_checkpoints.specs.declared.poked.Poked.{Poked}
use Rattle.qil_checkpoints.specs.Walk.{HasWidth, poke_at, ArePoked, AreRising, is_before, count_before, part_of, IsPart}
use Rattle.qil_checkpoints.specs.Hits.{IsNextStand}

-- ---- one poke

pub poke-here : (q : Poked) (qs : List Poked) (j : ℕ) → q.position ≡ j → poke_at (q ∷ qs) j ≡ Some q.poke
poke-here q qs j e = ap (λ b. cond b (Some q.poke) (poke_at qs j)) (eq-eqb q.position j e)

pub poke-past : (q : Poked) (qs : List Poked) (j : ℕ) → (q.position ≡ j → ⊥) → poke_at (q ∷ qs) j ≡ poke_at qs j
poke-past q qs j other = ap (λ b. cond b (Some q.poke) (poke_at qs j)) (ne_eqb q.position j other)

-- ---- outside of the range of a list there is none

pub poked-le : (low : ℕ) (pokes : List Poked) (high : ℕ) → ArePoked low pokes high → low ≤ high
poked-le low [] high poked = poked
poked-le low (q ∷ qs) high poked =
    let first : low ≤ q.position = poked.0 in
    let deep : q.position + 1 ≤ high = poked-le (q.position + 1) qs high poked.2 in
    omega (arith, first, deep)

pub none-below : (low : ℕ) (pokes : List Poked) (high j : ℕ) → ArePoked low pokes high → j < low → poke_at pokes j ≡ None
none-below low [] high j poked lt = refl
none-below low (q ∷ qs) high j poked lt =
    let first : low ≤ q.position = poked.0 in
    poke-past q qs j (λ e. omega (arith, e, lt, first)) ∙ none-below (q.position + 1) qs high j poked.2 (omega (arith, lt, first))

pub none-above : (low : ℕ) (pokes : List Poked) (high j : ℕ) → ArePoked low pokes high → high ≤ j → poke_at pokes j ≡ None
none-above low [] high j poked le = refl
none-above low (q ∷ qs) high j poked le =
    let under : q.position + 1 ≤ high = poked-le (q.position + 1) qs high poked.2 in
    poke-past q qs j (λ e. omega (arith, e, le, under)) ∙ none-above (q.position + 1) qs high j poked.2 le

pub poked-raise : (low : ℕ) (pokes : List Poked) (high more : ℕ) → ArePoked low pokes high → high ≤ more → ArePoked low pokes more
poked-raise low [] high more poked le = let h : low ≤ high = poked in omega (arith, h, le)
poked-raise low (q ∷ qs) high more poked le = (poked.0, poked.1, poked-raise (q.position + 1) qs high more poked.2 le)

-- ---- one poke more

pub poked-push : (low : ℕ) (pokes : List Poked) (high : ℕ) (q : Poked) → ArePoked low pokes high → q.position ≡ high → HasWidth q.poke → ArePoked low (pokes ++ q ∷ []) (high + 1)
poked-push low [] high q poked e wide = let h : low ≤ high = poked in (omega (arith, h, e), wide, omega (arith, e))
poked-push low (r ∷ qs) high q poked e wide = (poked.0, poked.1, poked-push (r.position + 1) qs high q poked.2 e wide)

pub push-before : (pokes : List Poked) (q : Poked) (j : ℕ) → j < q.position → poke_at (pokes ++ q ∷ []) j ≡ poke_at pokes j
push-before [] q j lt = poke-past q [] j (λ e. omega (arith, e, lt))
push-before (r ∷ qs) q j lt = ap (λ (o : Option KeptPoke). cond (r.position == j) (Some r.poke) o) (push-before qs q j lt)

pub push-here : (low : ℕ) (pokes : List Poked) (high : ℕ) (q : Poked) → ArePoked low pokes high → q.position ≡ high → poke_at (pokes ++ q ∷ []) high ≡ Some q.poke
push-here low [] high q poked e = poke-here q [] high e
push-here low (r ∷ qs) high q poked e =
    let under : r.position + 1 ≤ high = poked-le (r.position + 1) qs high poked.2 in
    poke-past r (qs ++ q ∷ []) high (λ f. omega (arith, f, under)) ∙ push-here (r.position + 1) qs high q poked.2 e

-- ---- those from a position on, and those before one

one_more : (k : ℕ) → 1 + k ≡ suc k
one_more k = omega arith

rest_cases : (low : ℕ) (q : Poked) (qs : List Poked) (high n : ℕ) (b : Bool) → nat_lt q.position n ≡ b → ArePoked low (q ∷ qs) high → (ArePoked (q.position + 1) qs high → ArePoked n (drop (count_before n qs) qs) high)
    → ArePoked n (drop (count_before n (q ∷ qs)) (q ∷ qs)) high
rest_cases low q qs high n true e poked deep = rw (e, one_more (count_before n qs)) (deep poked.2)
rest_cases low q qs high n false e poked deep = rw e ((grind (arith, nat_tests, e), poked.1, poked.2))

pub rest-poked : (low : ℕ) (pokes : List Poked) (high n : ℕ) → ArePoked low pokes high → n ≤ high → ArePoked n (drop (count_before n pokes) pokes) high
rest-poked low [] high n poked le = le
rest-poked low (q ∷ qs) high n poked le = rest_cases low q qs high n (nat_lt q.position n) refl poked (λ deep. rest-poked (q.position + 1) qs high n deep le)

front_cases : (low : ℕ) (q : Poked) (qs : List Poked) (high n : ℕ) (b : Bool) → nat_lt q.position n ≡ b → ArePoked low (q ∷ qs) high → low ≤ n
    → (q.position + 1 ≤ n → ArePoked (q.position + 1) (take (count_before n qs) qs) n)
    → ArePoked low (take (count_before n (q ∷ qs)) (q ∷ qs)) n
front_cases low q qs high n true e poked le deep = let lt : q.position + 1 ≤ n = grind (arith, nat_tests, e) in rw (e, one_more (count_before n qs)) ((poked.0, poked.1, deep lt))
front_cases low q qs high n false e poked le deep = rw e le

pub front-poked : (low : ℕ) (pokes : List Poked) (high n : ℕ) → ArePoked low pokes high → low ≤ n → ArePoked low (take (count_before n pokes) pokes) n
front-poked low [] high n poked le = le
front-poked low (q ∷ qs) high n poked le = front_cases low q qs high n (nat_lt q.position n) refl poked le (λ lt. front-poked (q.position + 1) qs high n poked.2 lt)

front_same_cases : (low : ℕ) (q : Poked) (qs : List Poked) (high n j : ℕ) (b : Bool) → nat_lt q.position n ≡ b → ArePoked low (q ∷ qs) high → j < n → poke_at (take (count_before n qs) qs) j ≡ poke_at qs j
    → poke_at (take (count_before n (q ∷ qs)) (q ∷ qs)) j ≡ poke_at (q ∷ qs) j
front_same_cases low q qs high n j true e poked lt deep = rw (e, one_more (count_before n qs)) (ap (λ (o : Option KeptPoke). cond (q.position == j) (Some q.poke) o) deep)
front_same_cases low q qs high n j false e poked lt deep =
    let over : n ≤ q.position = grind (arith, nat_tests, e) in
    let from : ArePoked n (q ∷ qs) high = (over, poked.1, poked.2) in
    rw e (sym (none-below n (q ∷ qs) high j from lt))

pub front-same : (low : ℕ) (pokes : List Poked) (high n j : ℕ) → ArePoked low pokes high → j < n → poke_at (take (count_before n pokes) pokes) j ≡ poke_at pokes j
front-same low [] high n j poked lt = refl
front-same low (q ∷ qs) high n j poked lt = front_same_cases low q qs high n j (nat_lt q.position n) refl poked lt (front-same (q.position + 1) qs high n j poked.2 lt)

rest_same_cases : (q : Poked) (qs : List Poked) (n j : ℕ) (b : Bool) → nat_lt q.position n ≡ b → n ≤ j → poke_at (drop (count_before n qs) qs) j ≡ poke_at qs j
    → poke_at (drop (count_before n (q ∷ qs)) (q ∷ qs)) j ≡ poke_at (q ∷ qs) j
rest_same_cases q qs n j true e le deep =
    let lt : q.position < n = grind (arith, nat_tests, e) in
    rw (e, one_more (count_before n qs)) (deep ∙ sym (poke-past q qs j (λ f. omega (arith, f, lt, le))))
rest_same_cases q qs n j false e le deep = rw e refl

pub rest-same : (pokes : List Poked) (n j : ℕ) → n ≤ j → poke_at (drop (count_before n pokes) pokes) j ≡ poke_at pokes j
rest-same [] n j le = refl
rest-same (q ∷ qs) n j le = rest_same_cases q qs n j (nat_lt q.position n) refl le (rest-same qs n j le)

pub part-poked : (pokes : List Poked) (high from to : ℕ) → ArePoked 0 pokes high → from ≤ to → to ≤ high → ArePoked from (part_of pokes from to) to
part-poked pokes high from to poked le under = front-poked from (drop (count_before from pokes) pokes) high to (rest-poked 0 pokes high from poked (omega (arith, le, under))) le

pub part-is : (pokes : List Poked) (high from to : ℕ) → ArePoked 0 pokes high → from ≤ to → to ≤ high → IsPart pokes (part_of pokes from to) from to
part-is pokes high from to poked le under = λ j ge lt.
    sym (front-same from (drop (count_before from pokes) pokes) high to j (rest-poked 0 pokes high from poked (omega (arith, le, under))) lt ∙ rest-same pokes from j ge)

-- ---- the first poke that is not before a position

counts : (q : Poked) (qs : List Poked) (n c : ℕ) → nat_lt q.position n ≡ true → count_before n qs ≡ c → count_before n (q ∷ qs) ≡ suc c
counts q qs n c e f = rw (e, f) (one_more c)

-- with one that is before it in front
at_later : (q : Poked) (qs : List Poked) (m c : ℕ) (d : Poked) → count_before m (q ∷ qs) ≡ suc c → nat_lt q.position (get_or qs c d).position ≡ true → m ≤ (get_or qs c d).position → count_before (get_or qs c d).position qs ≡ c
    → (m ≤ (get_or (q ∷ qs) (count_before m (q ∷ qs)) d).position) × (count_before (get_or (q ∷ qs) (count_before m (q ∷ qs)) d).position (q ∷ qs) ≡ count_before m (q ∷ qs))
at_later q qs m c d e under le same =
    subst (λ i. (m ≤ (get_or (q ∷ qs) i d).position) × (count_before (get_or (q ∷ qs) i d).position (q ∷ qs) ≡ i)) (sym e) ((le, counts q qs (get_or qs c d).position c under same))

at_first : (q : Poked) (qs : List Poked) (m : ℕ) (d : Poked) → count_before m (q ∷ qs) ≡ 0 → nat_lt q.position q.position ≡ false → m ≤ q.position
    → (m ≤ (get_or (q ∷ qs) (count_before m (q ∷ qs)) d).position) × (count_before (get_or (q ∷ qs) (count_before m (q ∷ qs)) d).position (q ∷ qs) ≡ count_before m (q ∷ qs))
at_first q qs m d e not le =
    subst (λ i. (m ≤ (get_or (q ∷ qs) i d).position) × (count_before (get_or (q ∷ qs) i d).position (q ∷ qs) ≡ i)) (sym e) ((le, none q qs not))
  where
    none : (q : Poked) (qs : List Poked) → nat_lt q.position q.position ≡ false → count_before q.position (q ∷ qs) ≡ 0
    none q qs not = rw not refl

at_cases : (q : Poked) (qs : List Poked) (m : ℕ) (d : Poked) (b : Bool) → nat_lt q.position m ≡ b → count_before m (q ∷ qs) < length (q ∷ qs)
    → (count_before m qs < length qs → (m ≤ (get_or qs (count_before m qs) d).position) × (count_before (get_or qs (count_before m qs) d).position qs ≡ count_before m qs))
    → (m ≤ (get_or (q ∷ qs) (count_before m (q ∷ qs)) d).position) × (count_before (get_or (q ∷ qs) (count_before m (q ∷ qs)) d).position (q ∷ qs) ≡ count_before m (q ∷ qs))
at_cases q qs m d true e lt deep =
    let more : count_before m (q ∷ qs) ≡ suc (count_before m qs) = counts q qs m (count_before m qs) e refl in
    let less : count_before m qs < length qs = omega (arith, more, lt) in
    let there : (m ≤ (get_or qs (count_before m qs) d).position) × (count_before (get_or qs (count_before m qs) d).position qs ≡ count_before m qs) = deep less in
    let le : m ≤ (get_or qs (count_before m qs) d).position = there.0 in
    let under : nat_lt q.position (get_or qs (count_before m qs) d).position ≡ true = grind (arith, nat_tests, e, le) in
    at_later q qs m (count_before m qs) d more under le there.1
at_cases q qs m d false e lt deep =
    at_first q qs m d (rw e refl) (grind (arith, nat_tests)) (grind (arith, nat_tests, e))

count_at : (pokes : List Poked) (m : ℕ) (d : Poked) → count_before m pokes < length pokes
    → (m ≤ (get_or pokes (count_before m pokes) d).position) × (count_before (get_or pokes (count_before m pokes) d).position pokes ≡ count_before m pokes)
count_at [] m d lt = absurd (omega (arith, lt))
count_at (q ∷ qs) m d lt = at_cases q qs m d (nat_lt q.position m) refl lt (λ less. count_at qs m d less)

-- up to it the pokes before the position are all
pub cut-same : (pokes fewer : List Poked) (high m r first : ℕ) (d : Poked) → ArePoked 0 pokes high → r ≡ count_before m pokes → r < length pokes → first ≡ (get_or pokes r d).position → fewer ≡ take r pokes
    → (m ≤ first) × ((j : ℕ) → j < first → poke_at pokes j ≡ poke_at fewer j)
cut-same pokes fewer high m r first d poked count lt at cut =
    let inside : count_before m pokes < length pokes = omega (arith, count, lt) in
    let there : (m ≤ (get_or pokes (count_before m pokes) d).position) × (count_before (get_or pokes (count_before m pokes) d).position pokes ≡ count_before m pokes) = count_at pokes m d inside in
    let here : first ≡ (get_or pokes (count_before m pokes) d).position = at ∙ ap (λ i. (get_or pokes i d).position) count in
    let long : count_before first pokes ≡ r = ap (λ n. count_before n pokes) here ∙ there.1 ∙ sym count in
    let same : take (count_before first pokes) pokes ≡ fewer = ap (λ i. take i pokes) long ∙ sym cut in
    let le : m ≤ (get_or pokes (count_before m pokes) d).position = there.0 in
    (omega (arith, le, here), λ j below. sym (front-same 0 pokes high first j poked below) ∙ ap (λ (qs : List Poked). poke_at qs j) same)

-- ---- the first poke of a part

pub part-none : (pokes : List Poked) (q : Poked) (qs : List Poked) (from to : ℕ) → IsPart pokes (q ∷ qs) from to → ArePoked from (q ∷ qs) to → (j : ℕ) → from ≤ j → j < q.position → poke_at pokes j ≡ None
part-none pokes q qs from to part poked j ge lt =
    let under : q.position + 1 ≤ to = poked-le (q.position + 1) qs to poked.2 in
    let same : ArePoked q.position (q ∷ qs) to = (omega arith, poked.1, poked.2) in
    part j ge (omega (arith, lt, under)) ∙ none-below q.position (q ∷ qs) to j same lt

pub part-here : (pokes : List Poked) (q : Poked) (qs : List Poked) (from to : ℕ) → IsPart pokes (q ∷ qs) from to → ArePoked from (q ∷ qs) to → poke_at pokes q.position ≡ Some q.poke
part-here pokes q qs from to part poked =
    let under : q.position + 1 ≤ to = poked-le (q.position + 1) qs to poked.2 in
    part q.position poked.0 (omega (arith, under)) ∙ poke-here q qs q.position refl

pub part-next : (pokes : List Poked) (q : Poked) (qs : List Poked) (from to : ℕ) → IsPart pokes (q ∷ qs) from to → ArePoked from (q ∷ qs) to → IsPart pokes qs (q.position + 1) to
part-next pokes q qs from to part poked = λ j ge lt.
    let first : from ≤ q.position = poked.0 in
    part j (omega (arith, first, ge)) lt ∙ poke-past q qs j (λ e. omega (arith, e, ge))

-- ---- in a loop over a part

pub rest-next : (part : List Poked) (i at to : ℕ) (d : Poked) → i < length part → ArePoked at (drop i part) to → ArePoked at (get_or part i d ∷ drop (i + 1) part) to
rest-next part i at to d lt poked = subst (λ (qs : List Poked). ArePoked at qs to) (drop_more part i d lt) poked

pub rest-part : (pokes part : List Poked) (i at to : ℕ) (d : Poked) → i < length part → IsPart pokes (drop i part) at to → IsPart pokes (get_or part i d ∷ drop (i + 1) part) at to
rest-part pokes part i at to d lt is = subst (λ (qs : List Poked). IsPart pokes qs at to) (drop_more part i d lt) is

pub rest-end : (pokes part : List Poked) (i at to : ℕ) → length part ≤ i → IsPart pokes (drop i part) at to → (j : ℕ) → at ≤ j → j < to → poke_at pokes j ≡ None
rest-end pokes part i at to le is j ge lt = is j ge lt ∙ ap (λ (qs : List Poked). poke_at qs j) (drop_all i part le)

-- what the next poke of a part is known to be
pub next-made : (part : List Poked) (i at to top : ℕ) (d : Poked) → i < length part → ArePoked at (drop i part) to → to < top → (at ≤ (get_or part i d).position) × ((get_or part i d).position + 1 < top) × HasWidth (get_or part i d).poke
next-made part i at to top d lt poked fits =
    let next : ArePoked at (get_or part i d ∷ drop (i + 1) part) to = rest-next part i at to d lt poked in
    let under : (get_or part i d).position + 1 ≤ to = poked-le ((get_or part i d).position + 1) (drop (i + 1) part) to next.2 in
    (next.0, omega (arith, under, fits), next.1)

pub next-poked : (part : List Poked) (i at to : ℕ) (d : Poked) (n : ℕ) → i < length part → ArePoked at (drop i part) to → n ≡ (get_or part i d).position + 1 → ArePoked n (drop (i + 1) part) to
next-poked part i at to d n lt poked e = subst (λ m. ArePoked m (drop (i + 1) part) to) (sym e) (rest-next part i at to d lt poked).2

-- ---- the poke of the first position of a part, or none

first_at : (q : Poked) (qs : List Poked) (at to : ℕ) (b : Bool) → (q.position == at) ≡ b → ArePoked at (q ∷ qs) to → (poke : KeptPoke) → poke_at (q ∷ qs) at ≡ Some poke → (q.position ≡ at) × (q.poke ≡ poke)
first_at q qs at to true e poked poke some = ((Decides-eqb q.position at).0 e, let same : Some q.poke ≡ Some poke = ap (λ b. cond b (Some q.poke) (poke_at qs at)) (sym e) ∙ some in from_some q.poke poke same)
  where
    from_some : (a b : KeptPoke) → Some a ≡ Some b → a ≡ b
    from_some a b e = cc
first_at q qs at to false e poked poke some =
    let first : at ≤ q.position = poked.0 in
    let none : poke_at qs at ≡ None = none-below (q.position + 1) qs to at poked.2 (omega (arith, first)) in
    let not : poke_at (q ∷ qs) at ≡ None = ap (λ b. cond b (Some q.poke) (poke_at qs at)) e ∙ none in
    let both : None ≡ Some poke = sym not ∙ some in
    absurd (no_some poke both)
  where
    no_some : (a : KeptPoke) → None ≡ Some a → ⊥
    no_some a e = cc

-- the first poke of a part is of a later position
same_poke : (a b : Poked) → Some a ≡ Some b → a ≡ b
same_poke a b e = cc

pub first-other : (rest : List Poked) (q : Poked) (at to : ℕ) → slice_get rest 0 ≡ Some q → (q.position ≡ at → ⊥) → ArePoked at rest to → None ≡ poke_at rest at
first-other [] q at to e other poked = refl
first-other (r ∷ rs) q at to e other poked =
    let same : r ≡ q = same_poke r q e in
    let apart : r.position ≡ at → ⊥ = λ f. other (ap (λ (x : Poked). x.position) (sym same) ∙ f) in
    let first : at ≤ r.position = poked.0 in
    sym (poke-past r rs at apart ∙ none-below (r.position + 1) rs to at poked.2 (omega (arith, first)))

pub some-length : (rest : List Poked) (at : ℕ) (poke : KeptPoke) → poke_at rest at ≡ Some poke → 1 ≤ length rest
some-length [] at poke some = absurd (no_some poke some)
  where
    no_some : (a : KeptPoke) → None ≡ Some a → ⊥
    no_some a e = cc
some-length (q ∷ qs) at poke some = omega arith

pub some-wide : (rest : List Poked) (at to : ℕ) (poke : KeptPoke) → ArePoked at rest to → poke_at rest at ≡ Some poke → HasWidth poke
some-wide [] at to poke poked some = let le : 1 ≤ 0 = some-length [] at poke some in absurd (omega (arith, le))
some-wide (q ∷ qs) at to poke poked some = subst (λ (k : KeptPoke). HasWidth k) (first_at q qs at to (q.position == at) refl poked poke some).1 poked.1

pub some-rest : (rest : List Poked) (at to : ℕ) (poke : KeptPoke) → ArePoked at rest to → poke_at rest at ≡ Some poke → ArePoked (at + 1) (drop 1 rest) to
some-rest [] at to poke poked some = let le : 1 ≤ 0 = some-length [] at poke some in absurd (omega (arith, le))
some-rest (q ∷ qs) at to poke poked some = subst (λ n. ArePoked (n + 1) qs to) (first_at q qs at to (q.position == at) refl poked poke some).0 poked.2

pub some-part : (pokes rest : List Poked) (at to : ℕ) (poke : KeptPoke) → ArePoked at rest to → poke_at rest at ≡ Some poke → IsPart pokes rest at to → IsPart pokes (drop 1 rest) (at + 1) to
some-part pokes [] at to poke poked some part = λ j ge lt. part j (omega (arith, ge)) lt
some-part pokes (q ∷ qs) at to poke poked some part = λ j ge lt.
    let here : q.position ≡ at = (first_at q qs at to (q.position == at) refl poked poke some).0 in
    part j (omega (arith, ge)) lt ∙ poke-past q qs j (λ e. omega (arith, e, ge, here))

-- ---- up to the next poke

pub stand-none : (rest : List Poked) (at to : ℕ) → slice_get rest 0 ≡ None → at < to → IsNextStand rest at to to
stand-none [] at to e lt = record { later = lt; within = omega arith; none = λ j ge under. refl; poked = omega arith }
stand-none (q ∷ qs) at to e lt = absurd cc

pub stand-some : (rest : List Poked) (q : Poked) (at to : ℕ) → slice_get rest 0 ≡ Some q → ArePoked at rest to → poke_at rest at ≡ None → IsNextStand rest at to q.position
stand-some [] q at to e poked none = absurd cc
stand-some (r ∷ rs) q at to e poked none =
    let same : r ≡ q = same_poke r q e in
    let below : (r.position ≡ at → ⊥) = λ f. no_some r.poke (sym none ∙ poke-here r rs at f) in
    let first : at ≤ r.position = poked.0 in
    let later : at < r.position = elim (cases_lt at r.position) [
      | inl lt ↦ lt
      | inr ge ↦ absurd (below (omega (arith, ge, first)))
    ] in
    let under : r.position + 1 ≤ to = poked-le (r.position + 1) rs to poked.2 in
    subst (λ (x : Poked). IsNextStand (r ∷ rs) at to x.position) same (record {
      later = later;
      within = omega (arith, under);
      none = λ j ge lt. none-below r.position (r ∷ rs) to j (omega arith, poked.1, poked.2) lt;
      poked = (omega arith, poked.1, poked.2);
    })
  where
    no_some : (k : KeptPoke) → None ≡ Some k → ⊥
    no_some k e = cc

-- from an earlier position on
pub poked-lower : (low less : ℕ) (pokes : List Poked) (high : ℕ) → ArePoked low pokes high → less ≤ low → ArePoked less pokes high
poked-lower low less [] high le under = omega (arith, le, under)
poked-lower low less (q ∷ qs) high poked under = (let first : low ≤ q.position = poked.0 in omega (arith, first, under), poked.1, poked.2)

-- ---- the pokes rise, so a binary search finds how many come before a position

-- none was made before low
no_earlier : (low : ℕ) (pokes : List Poked) (high i : ℕ) (d : Poked) → ArePoked low pokes high → i < length pokes → low ≤ (get_or pokes i d).position
no_earlier low [] high i d poked lt = absurd (omega arith)
no_earlier low (q ∷ qs) high zero d poked lt = poked.0
no_earlier low (q ∷ qs) high (suc i) d poked lt =
    let deep : q.position + 1 ≤ (get_or qs i d).position = no_earlier (q.position + 1) qs high i d poked.2 (omega arith) in
    let first = poked.0 in
    omega (arith, deep, first)

pub are_rising : (low : ℕ) (pokes : List Poked) (high : ℕ) → ArePoked low pokes high → AreRising pokes
are_rising low [] high poked i j d le lt = absurd (omega arith)
are_rising low (q ∷ qs) high poked zero zero d le lt = omega arith
are_rising low (q ∷ qs) high poked zero (suc j) d le lt =
    let deep : q.position + 1 ≤ (get_or qs j d).position = no_earlier (q.position + 1) qs high j d poked.2 (omega arith) in omega (arith, deep)
are_rising low (q ∷ qs) high poked (suc i) zero d le lt = absurd (omega (arith, le))
are_rising low (q ∷ qs) high poked (suc i) (suc j) d le lt = are_rising (q.position + 1) qs high poked.2 i j d (omega (arith, le)) (omega (arith, lt))

-- none that was made before a position comes after one that wasn't
pub are_parted : (pokes : List Poked) (n : ℕ) → AreRising pokes → IsPartitionedBy (is_before n) pokes
are_parted pokes n rising i j d le lt before =
    let order : (get_or pokes i d).position ≤ (get_or pokes j d).position = rising i j d le lt in
    grind (arith, nat_tests, before, order)

nowhere_poked : Poked
nowhere_poked = record { position = 0; poke = Bytes 0 1 0 }

pub found_count : (pokes : List Poked) (n r : ℕ) → r ≤ length pokes → IsPartitionPoint (λ q. is_before n q ≡ true) (λ q. is_before n q ≡ false) pokes r → r ≡ count_before n pokes
found_count pokes n r bound point =
    sym (prefix_len_is (is_before n) pokes r nowhere_poked bound (λ k l. point.0 k nowhere_poked (omega arith) l) (λ l. point.1 r nowhere_poked (omega arith) l))
