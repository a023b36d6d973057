-- Where going back along a walk stops: by the hits of its parts, and by the moves that are counted back.
use Rattle.std.proofs.Common.{◌≡◌, refl, sym, ap, ◌∙◌, subst, ℕ, zero, suc, ◌+◌, ◌-◌, ◌<◌, ◌≤◌, Bool, true, false, cond, List, [], find, Option, Some, None, eq-eqb, inl, inr, arith}
use Rattle.std.proofs.lemmas.Bool.{ne_eqb, cases_lt, false≢true}
use Rattle.std.proofs.lemmas.Bool.Decides.{nat_tests, Decides-eqb}
use Rattle.std.specs.Prelude.{◌==◌, not, is_some}
use Rattle.std.specs.Option.{option_map, option_or}
use Rattle.std.specs.Str.{bytes_eq}
use Rattle.std.proofs.lemmas.Slice.Eq.{bytes_eq-Decides}
use Rattle.qil_tree.specs.declared.tree.Program.{Program}
use Rattle.qil_semantics.specs.State.{State}
use Rattle.qil_semantics.specs.Timeline.{Timeline, gone}
use Rattle.qil_semantics.specs.Stops.{Reading, dead, unset, bytes_read, value_read, same_reading, reading, Stop, break_at, watch, Numbered, differs, first_watch, stopped}
use Rattle.qil_semantics.specs.Runs.{if_holds, bottom, stop_back, stopping, RunsBack}
use Rattle.qil_semantics.specs.declared.reason.Reason.{Reason}
use Rattle.qil_semantics.specs.declared.reason.Reason.TheVariants.{Start, Limit}
use Rattle.qil_stops.specs.declared.stop.NumberedStop.{NumberedStop}
use Rattle.qil_stops.specs.Named.{named_stops}
use Rattle.qil_stops.proofs.OnWay.{Passes, least_at, least_limit, stopped-plain, none-stopped}
use Rattle.qil_checkpoints.specs.declared.hit.Hit.{Hit}
use Rattle.qil_checkpoints.specs.declared.poked.Poked.{Poked}
use Rattle.qil_checkpoints.specs.Walk.{walk, timeline_at, AreMoves}
use Rattle.qil_checkpoints.specs.Hits.{stop_at, IsLastHit, later_hit, hit_or_lowest}
use Rattle.qil_checkpoints.proofs.WalkTimelines.{walked-length, gone-walk}

-- ---- a watch that reads otherwise does so both ways

both_ways : (a b : Bool) → (a ≡ true → b ≡ true) → (b ≡ true → a ≡ true) → a ≡ b
both_ways true true f g = refl
both_ways false false f g = refl
both_ways true false f g = sym (f refl)
both_ways false true f g = g refl

turned_number : (v w : ℕ) → (v == w) ≡ (w == v)
turned_number v w = both_ways (v == w) (w == v) (λ e. eq-eqb w v (sym ((Decides-eqb v w).0 e))) (λ e. eq-eqb v w (sym ((Decides-eqb w v).0 e)))

turned_bytes : (bs cs : List ℕ) → bytes_eq bs cs ≡ bytes_eq cs bs
turned_bytes bs cs =
    both_ways (bytes_eq bs cs) (bytes_eq cs bs) (λ e. (bytes_eq-Decides cs bs).1 (sym ((bytes_eq-Decides bs cs).0 e))) (λ e. (bytes_eq-Decides bs cs).1 (sym ((bytes_eq-Decides cs bs).0 e)))

turned_reading : (r q : Reading) → same_reading r q ≡ same_reading q r
turned_reading dead dead = refl
turned_reading dead unset = refl
turned_reading dead (bytes_read cs) = refl
turned_reading dead (value_read w) = refl
turned_reading unset dead = refl
turned_reading unset unset = refl
turned_reading unset (bytes_read cs) = refl
turned_reading unset (value_read w) = refl
turned_reading (bytes_read bs) dead = refl
turned_reading (bytes_read bs) unset = refl
turned_reading (bytes_read bs) (bytes_read cs) = turned_bytes bs cs
turned_reading (bytes_read bs) (value_read w) = refl
turned_reading (value_read v) dead = refl
turned_reading (value_read v) unset = refl
turned_reading (value_read v) (bytes_read cs) = refl
turned_reading (value_read v) (value_read w) = turned_number v w

turned_stop : (a b : State) (stop : Stop) → differs a b stop ≡ differs b a stop
turned_stop a b (watch w) = ap not (turned_reading (reading w a) (reading w b))
turned_stop a b (break_at place) = refl

pub watch-turned : (a b : State) (stops : List Numbered) → first_watch a b stops ≡ first_watch b a stops
unfolding first_watch
watch-turned a b stops = λ i. option_map (λ (one : Numbered). one.number) (find (λ (one : Numbered). turned_stop a b one.stop i) stops)

-- ---- a part, position by position

pub hit-begun : (stop : ℕ → Option Reason) (from : ℕ) → IsLastHit stop from from None
hit-begun stop from = λ j ge lt. absurd (omega (arith, ge, lt))

hit_past : (stop : ℕ → Option Reason) (from to : ℕ) (last : Option Hit) → IsLastHit stop from to last → stop to ≡ None → IsLastHit stop from (to + 1) last
hit_past stop from to None is none = λ j ge lt. elim (cases_lt j to) [
  | inl below ↦ is j ge below
  | inr over ↦ (let e : to ≡ j = omega (arith, over, lt) in ap stop (sym e) ∙ none)
]
hit_past stop from to (Some hit) is none = (
  is.0,
  let lt : hit.position < to = is.1 in omega (arith, lt),
  is.2,
  λ j above lt. elim (cases_lt j to) [
    | inl below ↦ is.3 j above below
    | inr over ↦ (let e : to ≡ j = omega (arith, over, lt) in ap stop (sym e) ∙ none)
  ],
)

pub hit-more : (stop : ℕ → Option Reason) (from to : ℕ) (last : Option Hit) (found : Option Reason) → from ≤ to → IsLastHit stop from to last → found ≡ stop to → IsLastHit stop from (to + 1) (later_hit last to found)
hit-more stop from to last None le is e = hit_past stop from to last is (sym e)
hit-more stop from to last (Some reason) le is e = (le, omega arith, sym e, λ j above lt. absurd (omega (arith, above, lt)))

-- ---- part after part

-- a hit of a part, behind which there is none
pub hit-found : (stop : ℕ → Option Reason) (lowest from end now : ℕ) (hit : Hit) → IsLastHit stop from end (Some hit) → lowest ≤ from → end ≤ now → ((j : ℕ) → end ≤ j → j < now → stop j ≡ None) → IsLastHit stop lowest now (Some hit)
hit-found stop lowest from end now hit is le under none = (
  let ge : from ≤ hit.position = is.0 in omega (arith, ge, le),
  let lt : hit.position < end = is.1 in omega (arith, lt, under),
  is.2,
  λ j above lt. elim (cases_lt j end) [
    | inl below ↦ is.3 j above below
    | inr over ↦ none j over lt
  ],
)

pub hit-none : (stop : ℕ → Option Reason) (from end now : ℕ) → IsLastHit stop from end None → ((j : ℕ) → end ≤ j → j < now → stop j ≡ None) → (j : ℕ) → from ≤ j → j < now → stop j ≡ None
hit-none stop from end now is none j ge lt = elim (cases_lt j end) [
  | inl below ↦ is j ge below
  | inr over ↦ none j over lt
]

-- with no stops there is no hit
pub hit-unwatched : {A : Type 0} (p : Program A) (s : State) (pokes : List Poked) (stops : List Numbered) (lowest now : ℕ) → [] ≡ stops → IsLastHit (stop_at p stops s pokes) lowest now None
hit-unwatched p s pokes stops lowest now e = λ j ge lt.
    ap (λ (l : List Numbered). stopped l (walk p s pokes (suc j)) (walk p s pokes j)) (sym e) ∙ sym (none-stopped (walk p s pokes (suc j)) (walk p s pokes j))

-- ---- counted back from the end of a walk

bottom_walk : {A : Type 0} (p : Program A) (s : State) (pokes : List Poked) (n k : ℕ) → bottom (timeline_at p s pokes n) k ≡ if_holds (n == k) Start
bottom_walk p s pokes n k = ap (λ l. if_holds (l == k) Start) (walked-length p s pokes n)

no_bottom : {A : Type 0} (p : Program A) (s : State) (pokes : List Poked) (n k : ℕ) → k < n → bottom (timeline_at p s pokes n) k ≡ None
no_bottom p s pokes n k lt = bottom_walk p s pokes n k ∙ ap (λ b. if_holds b Start) (ne_eqb n k (λ e. omega (arith, e, lt)))

at_bottom : {A : Type 0} (p : Program A) (s : State) (pokes : List Poked) (n k : ℕ) → n ≡ k → bottom (timeline_at p s pokes n) k ≡ Some Start
at_bottom p s pokes n k e = bottom_walk p s pokes n k ∙ ap (λ b. if_holds b Start) (eq-eqb n k e)

-- so many moves back the stop is that of the position, or else of the bottom
back_at : {A : Type 0} (p : Program A) (stops : List Numbered) (s : State) (pokes : List Poked) (n i j : ℕ) → suc i + j ≡ n
    → stop_back stops (timeline_at p s pokes n) (suc i) ≡ option_or (stop_at p stops s pokes j) (bottom (timeline_at p s pokes n) (suc i))
unfolding stop_back
back_at p stops s pokes n i j e =
    let t : Timeline = timeline_at p s pokes n in
    ap (λ (u : Timeline). option_or (stopped stops u.now (gone (suc i) t).now) (bottom t (suc i))) (gone-walk p s pokes i (suc j) n (omega (arith, e)))
    ∙ ap (λ (u : Timeline). option_or (stopped stops (walk p s pokes (suc j)) u.now) (bottom t (suc i))) (gone-walk p s pokes (suc i) j n e)

back_zero : {A : Type 0} (p : Program A) (stops : List Numbered) (s : State) (pokes : List Poked) (n : ℕ) → stop_back stops (timeline_at p s pokes n) 0 ≡ bottom (timeline_at p s pokes n) 0
unfolding stop_back
back_zero p stops s pokes n = refl

-- fewer moves back than k, which leads to j, no stop holds
passed_back : {A : Type 0} (p : Program A) (stops : List Numbered) (s : State) (pokes : List Poked) (n k j : ℕ) → k + j ≡ n → ((i : ℕ) → j < i → i < n → stop_at p stops s pokes i ≡ None)
    → Passes (stop_back stops (timeline_at p s pokes n)) k
passed_back p stops s pokes n k j e none zero lt = back_zero p stops s pokes n ∙ no_bottom p s pokes n 0 (omega (arith, e, lt))
passed_back p stops s pokes n k j e none (suc i) lt =
    let there : suc i + (n - suc i) ≡ n = omega (arith, e, lt) in
    back_at p stops s pokes n i (n - suc i) there
    ∙ ap (λ o. option_or o (bottom (timeline_at p s pokes n) (suc i))) (none (n - suc i) (omega (arith, e, lt)) (omega (arith, e, lt)))
    ∙ no_bottom p s pokes n (suc i) (omega (arith, e, lt))

-- where no stop holds so many moves back the bottom is all that may
here_back : {A : Type 0} (p : Program A) (stops : List Numbered) (s : State) (pokes : List Poked) (n k j : ℕ) → k + j ≡ n → ((i : ℕ) → j ≤ i → i < n → stop_at p stops s pokes i ≡ None)
    → stop_back stops (timeline_at p s pokes n) k ≡ bottom (timeline_at p s pokes n) k
here_back p stops s pokes n zero j e none = back_zero p stops s pokes n
here_back p stops s pokes n (suc k) j e none =
    back_at p stops s pokes n k j e ∙ ap (λ o. option_or o (bottom (timeline_at p s pokes n) (suc k))) (none j (omega arith) (omega (arith, e)))

-- at a hit
back-hit : {A : Type 0} (p : Program A) (stops : List Numbered) (s : State) (pokes : List Poked) (n limit k : ℕ) (hit : Hit) → IsLastHit (stop_at p stops s pokes) (n - limit) n (Some hit) → k + hit.position ≡ n
    → RunsBack stops limit (timeline_at p s pokes n) hit.reason k (timeline_at p s pokes hit.position)
back-hit p stops s pokes n limit zero hit is e = let lt : hit.position < n = is.1 in absurd (omega (arith, lt, e))
back-hit p stops s pokes n limit (suc k) hit is e =
    let low : n - limit ≤ hit.position = is.0 in
    let plain : stopping hit.reason ≡ Some hit.reason = stopped-plain stops (walk p s pokes (suc hit.position)) (walk p s pokes hit.position) hit.reason (sym is.2) in
    record {
      moves = sym (gone-walk p s pokes (suc k) hit.position n e);
      no_memory = plain;
      least = least_at (stop_back stops (timeline_at p s pokes n)) limit (suc k) hit.reason (passed_back p stops s pokes n (suc k) hit.position e is.3) (omega (arith, low, e))
          (back_at p stops s pokes n k hit.position e ∙ ap (λ o. option_or o (bottom (timeline_at p s pokes n) (suc k))) is.2) plain;
    }

-- at the start, where no stop holds on the way
back-begin : {A : Type 0} (p : Program A) (stops : List Numbered) (s : State) (pokes : List Poked) (n limit k : ℕ) → ((i : ℕ) → 0 ≤ i → i < n → stop_at p stops s pokes i ≡ None) → k ≡ n → k ≤ limit
    → RunsBack stops limit (timeline_at p s pokes n) Start k (timeline_at p s pokes 0)
back-begin p stops s pokes n limit k none e le =
    let sum : k + 0 ≡ n = omega (arith, e) in
    record {
      moves = sym (gone-walk p s pokes k 0 n sum);
      no_memory = refl;
      least = least_at (stop_back stops (timeline_at p s pokes n)) limit k Start (passed_back p stops s pokes n k 0 sum (λ i above lt. none i (omega arith) lt)) le
          (here_back p stops s pokes n k 0 sum none ∙ at_bottom p s pokes n k (sym e)) refl;
    }

-- at the limit, where no stop holds on the way
back-limited : {A : Type 0} (p : Program A) (stops : List Numbered) (s : State) (pokes : List Poked) (n limit k low : ℕ) → ((i : ℕ) → low ≤ i → i < n → stop_at p stops s pokes i ≡ None) → k + low ≡ n → k ≡ limit → 0 < low
    → RunsBack stops limit (timeline_at p s pokes n) Limit k (timeline_at p s pokes low)
back-limited p stops s pokes n limit k low none sum e some = record {
  moves = sym (gone-walk p s pokes k low n sum);
  no_memory = refl;
  least = least_limit (stop_back stops (timeline_at p s pokes n)) limit k e (passed_back p stops s pokes n k low sum (λ i above lt. none i (omega (arith, above)) lt))
      (here_back p stops s pokes n k low sum none ∙ no_bottom p s pokes n k (omega (arith, sum, some)));
}

lowest_cases : {A : Type 0} (p : Program A) (stops : List Numbered) (s : State) (pokes : List Poked) (n limit k low : ℕ) (b : Bool) → (low == 0) ≡ b → low ≡ n - limit → ((i : ℕ) → low ≤ i → i < n → stop_at p stops s pokes i ≡ None)
    → k + low ≡ n → RunsBack stops limit (timeline_at p s pokes n) (cond b Start Limit) k (timeline_at p s pokes low)
lowest_cases {A} p stops s pokes n limit k low true e is none sum =
    let first : low ≡ 0 = (Decides-eqb low 0).0 e in
    subst (λ i. RunsBack stops limit (timeline_at p s pokes n) Start k (timeline_at p s pokes i)) (sym first)
    (back-begin p stops s pokes n limit k (λ i ge lt. none i (omega (arith, first)) lt) (omega (arith, sum, first)) (omega (arith, sum, first, is)))
lowest_cases p stops s pokes n limit k low false e is none sum =
    let some : 0 < low = grind (arith, nat_tests, e) in
    back-limited p stops s pokes n limit k low none sum (omega (arith, sum, is, some)) some

-- to the position that is gone to
pub back-to : {A : Type 0} (p : Program A) (stops : List Numbered) (s : State) (pokes : List Poked) (n limit k low : ℕ) (found : Option Hit) → low ≡ n - limit → IsLastHit (stop_at p stops s pokes) low n found
    → k + (hit_or_lowest low found).position ≡ n
    → RunsBack stops limit (timeline_at p s pokes n) (hit_or_lowest low found).reason k (timeline_at p s pokes (hit_or_lowest low found).position)
back-to p stops s pokes n limit k low None is none sum = lowest_cases p stops s pokes n limit k low (low == 0) refl is none sum
back-to {A} p stops s pokes n limit k low (Some hit) is hits sum =
    back-hit p stops s pokes n limit k hit (subst (λ i. IsLastHit (stop_at p stops s pokes) i n (Some hit)) is hits) sum

-- which isn't behind the end
pub hit-under : (stop : ℕ → Option Reason) (low n : ℕ) (found : Option Hit) → IsLastHit stop low n found → low ≤ n → (hit_or_lowest low found).position ≤ n
hit-under stop low n None is le = le
hit-under stop low n (Some hit) is le = let lt : hit.position < n = is.1 in omega (arith, lt)

-- ---- in the loops

-- a part that has a hit, and one that has none
pub hit-done : (stop : ℕ → Option Reason) (lowest from end now : ℕ) (found : Option Hit) → is_some found ≡ true → IsLastHit stop from end found → lowest ≤ from → end ≤ now → ((j : ℕ) → end ≤ j → j < now → stop j ≡ None) → IsLastHit stop lowest now found
hit-done stop lowest from end now None e is le under none = absurd (false≢true e)
hit-done stop lowest from end now (Some hit) e is le under none = hit-found stop lowest from end now hit is le under none

pub hit-passed : (stop : ℕ → Option Reason) (from end now : ℕ) (found : Option Hit) → is_some found ≡ false → IsLastHit stop from end found → ((j : ℕ) → end ≤ j → j < now → stop j ≡ None) → (j : ℕ) → from ≤ j → j < now → stop j ≡ None
hit-passed stop from end now None e is none = hit-none stop from end now is none
hit-passed stop from end now (Some hit) e is none = absurd (false≢true (sym e))

-- what a machine says by its own program
pub hit-by : {A : Type 0} (q p : Program A) (list : List NumberedStop) (s x : State) (pokes : List Poked) (from to : ℕ) (r : Option Hit) → q ≡ p
    → (AreMoves q s pokes to → x ≡ walk q s pokes from → IsLastHit (stop_at q (named_stops q list) s pokes) from to r)
    → AreMoves p s pokes to → x ≡ walk p s pokes from → IsLastHit (stop_at p (named_stops p list) s pokes) from to r
hit-by {A} q p list s x pokes from to r e says = subst (λ (o : Program A). AreMoves o s pokes to → x ≡ walk o s pokes from → IsLastHit (stop_at o (named_stops o list) s pokes) from to r) e says

-- ---- all that is held, at the position that is gone to

pub back-held : {A : Type 0} (p : Program A) (stops : List Numbered) (s : State) (pokes made : List Poked) (n limit low : ℕ) (found : Option Hit) (hit : Hit) (u : Timeline) → low ≡ n - limit → made ≡ pokes → IsLastHit (stop_at p stops s made) low n found
    → hit ≡ hit_or_lowest low found → ((k : ℕ) → k + hit.position ≡ n → u ≡ gone k (timeline_at p s pokes n)) → RunsBack stops limit (timeline_at p s pokes n) hit.reason (n - hit.position) u
back-held {A} p stops s pokes made n limit low found hit u is same hits e left =
    let all : IsLastHit (stop_at p stops s pokes) low n found = subst (λ (qs : List Poked). IsLastHit (stop_at p stops s qs) low n found) same hits in
    let under : hit.position ≤ n = subst (λ (h : Hit). h.position ≤ n) (sym e) (hit-under (stop_at p stops s pokes) low n found all (omega (arith, is))) in
    let k : ℕ = n - hit.position in
    let sum : k + hit.position ≡ n = omega (arith, under) in
    let there : u ≡ timeline_at p s pokes hit.position = left k sum ∙ gone-walk p s pokes k hit.position n sum in
    let run : RunsBack stops limit (timeline_at p s pokes n) hit.reason k (timeline_at p s pokes hit.position) =
    subst (λ (h : Hit). k + h.position ≡ n → RunsBack stops limit (timeline_at p s pokes n) h.reason k (timeline_at p s pokes h.position)) (sym e) (λ total. back-to p stops s pokes n limit k low found is all total) sum in
    subst (λ (v : Timeline). RunsBack stops limit (timeline_at p s pokes n) hit.reason k v) (sym there) run
