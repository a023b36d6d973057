-- Moves of which only the last may lead to a stop: forward, and as a part that is looked through backwards.
use Rattle.std.proofs.Common.{◌≡◌, refl, sym, ap, ◌∙◌, subst, ℕ, zero, suc, ◌+◌, ◌-◌, ◌<◌, ◌≤◌, true, false, List, length, drop, get_or, Option, Some, None, ◌⊎◌, inl, inr, arith}
use Rattle.std.specs.Prelude.{max, not, nat_eq}
use Rattle.std.specs.Option.{option_eq, option_map, option_or}
use Rattle.std.proofs.lemmas.Bool.{false≢true}
use Rattle.std.proofs.lemmas.Bool.Decides.{Decides-eqb}
use Rattle.qil_tree.specs.declared.tree.Program.{Program}
use Rattle.qil_semantics.specs.State.{State, is_final}
use Rattle.qil_semantics.specs.Targets.{after}
use Rattle.qil_semantics.specs.Timeline.{Timeline, forward, at_end, moved}
use Rattle.qil_semantics.specs.Stops.{Numbered, differs, first_watch, first_break, stopped}
use Rattle.qil_semantics.specs.declared.reason.Reason.{Reason}
use Rattle.qil_semantics.specs.declared.reason.Reason.TheVariants.{Watch, Break}
use Rattle.qil_semantics.proofs.OnLemmas.{now-after}
use Rattle.qil_state.specs.State.{Whole, state_of}
use Rattle.qil_stops.specs.declared.stop.NumberedStop.{NumberedStop}
use Rattle.qil_stops.specs.declared.stop.StopKind.TheVariants as kinds
use Rattle.qil_stops.specs.declared.stop.Watched.TheVariants as watched
use Rattle.qil_stops.specs.Named.{named_stops}
use Rattle.qil_stops.specs.Readings.{AllTell}
use Rattle.qil_stops.proofs.Naming.{first_by, first_watch-by, first-past, first-none}
use Rattle.qil_stops.proofs.Telling.{watch-test, by-none}
use Rattle.qil_stops.proofs.OnWay.{IsOnWay, on-more, or_none}
use Rattle.qil_checkpoints.specs.declared.hit.Hit.{Hit}
use Rattle.qil_checkpoints.specs.declared.poked.Poked.{Poked}
use Rattle.qil_checkpoints.specs.Walk.{AreMoves, IsPart, poke_at, timeline_at, walk}
use Rattle.qil_checkpoints.specs.Held.{first_of, Holds}
use Rattle.qil_checkpoints.specs.Hits.{stop_at, IsLastHit, IsNextStand, IsQuiet, later_hit}
use Rattle.qil_checkpoints.proofs.AlongWalks.{runs-there, walk-after}
use Rattle.qil_checkpoints.proofs.Hitting.{watch-turned, hit-more}

-- ---- where both states read the same no watch differs

some_stop : NumberedStop
some_stop = record { number = 0; kind = kinds.Watch (watched.Bytes 0 1) }

same_option : (v : Option ℕ) → not (option_eq nat_eq v v) ≡ false
same_option None = refl
same_option (Some n) = ap not ((Decides-eqb n n).1 refl)

none_from : {A : Type 0} (p : Program A) (a b : State) (stops : List NumberedStop) (values : List (Option ℕ)) (k i : ℕ) → length values ≡ length stops → AllTell p a stops values → AllTell p b stops values → i + k ≡ length stops
    → first_by p (differs a b) (drop i stops) ≡ None
none_from p a b stops values zero i count told now e = first-none p (differs a b) stops i (omega (arith, e))
none_from p a b stops values (suc k) i count told now e =
    let lt : i < length stops = omega (arith, e) in
    let v : Option ℕ = get_or values i None in
    first-past p (differs a b) stops i some_stop lt (watch-test p a b stops values i some_stop None (not (option_eq nat_eq v v)) v told lt count (now i some_stop lt) refl ∙ same_option v)
    ∙ none_from p a b stops values k (i + 1) count told now (omega (arith, e))

pub no-watch : {A : Type 0} (p : Program A) (a b : State) (stops : List NumberedStop) (values : List (Option ℕ)) → length values ≡ length stops → AllTell p a stops values → AllTell p b stops values → first_watch a b (named_stops p stops) ≡ None
no-watch p a b stops values count told now = first_watch-by p a b stops ∙ none_from p a b stops values (length stops) 0 count told now (omega arith)

-- ---- forward

quiet_none : {A : Type 0} (p : Program A) (states : ℕ → State) (stops : List NumberedStop) (values : List (Option ℕ)) (n j : ℕ) → length values ≡ length stops → IsQuiet p states stops values 0 n → suc j < n
    → None ≡ stopped (named_stops p stops) (states j) (states (suc j))
quiet_none p states stops values n j count quiet lt =
    by-none (named_stops p stops) (states j) (states (suc j)) (sym (no-watch p (states j) (states (suc j)) stops values count (quiet.told j (omega arith) (omega (arith, lt))) (quiet.told (suc j) (omega arith) (omega (arith, lt)))))
    (sym (quiet.unbroken (suc j) (omega arith) (omega (arith, lt))))

-- on the way up to the last of these moves
on_quiet : {A : Type 0} (p : Program A) (stops : List NumberedStop) (values : List (Option ℕ)) (k r n : ℕ) (t now : Timeline) → length values ≡ length stops → IsOnWay p (named_stops p stops) t k now
    → IsQuiet p (λ j. (moved p j now).now) stops values 0 r → ((j : ℕ) → j < r → at_end (moved p j now) ≡ false) → n < r → IsOnWay p (named_stops p stops) t (k + n) (moved p n now)
unfolding moved
on_quiet {A} p stops values k r zero t now count way quiet runs lt = let e : k ≡ k + 0 = omega arith in subst (λ i. IsOnWay p (named_stops p stops) t i now) e way
on_quiet {A} p stops values k r (suc n) t now count way quiet runs lt =
    let e : (k + n) + 1 ≡ k + suc n = omega arith in
    subst (λ i. IsOnWay p (named_stops p stops) t i (moved p (suc n) now)) e
    (on-more p (named_stops p stops) (k + n) t (moved p n now) (moved p (suc n) now) (on_quiet p stops values k r n t now count way quiet runs (omega (arith, lt))) (runs n (omega (arith, lt))) refl
    (quiet_none p (λ j. (moved p j now).now) stops values r n count quiet lt))

-- before the last of these moves: on the way, still running, and everything reads the same
pub record BeforeLast {A : Type 0} (p : Program A) (stops : List NumberedStop) (values : List (Option ℕ)) (t : Timeline) (k : ℕ) (mid new : Timeline) : Type 0 where
  pub way : IsOnWay p (named_stops p stops) t k mid
  pub runs : at_end mid ≡ false
  pub step : new ≡ forward p mid
  pub told : AllTell p mid.now stops values

last_step : {A : Type 0} (p : Program A) (r n : ℕ) (now new : Timeline) → suc n ≡ r → new ≡ moved p r now → new ≡ forward p (moved p n now)
unfolding moved
last_step p r n now new e is = is ∙ ap (λ i. moved p i now) (sym e)

pub before-last : {A : Type 0} (p : Program A) (stops : List NumberedStop) (values : List (Option ℕ)) (k r : ℕ) (t now new : Timeline) → length values ≡ length stops → 0 < r → IsOnWay p (named_stops p stops) t k now
    → IsQuiet p (λ j. (moved p j now).now) stops values 0 r → ((j : ℕ) → j < r → at_end (moved p j now) ≡ false) → new ≡ moved p r now → BeforeLast p stops values t (k + (r - 1)) (moved p (r - 1) now) new
before-last p stops values k r t now new count some way quiet runs is = record {
  way = on_quiet p stops values k r (r - 1) t now count way quiet runs (omega (arith, some));
  runs = runs (r - 1) (omega (arith, some));
  step = last_step p r (r - 1) now new (omega (arith, some)) is;
  told = quiet.told (r - 1) (omega arith) (omega (arith, some));
}

-- where none was made of some the run is over
pub ended : (count : ℕ) (now new : Timeline) → new ≡ now → 0 < count → (count ≡ 0) ⊎ (at_end new ≡ true) → at_end now ≡ true
ended count now new same some (inl none) = absurd (omega (arith, some, none))
ended count now new same some (inr over) = ap at_end (sym same) ∙ over

-- what a machine says by its own program
pub before-last-by : {A : Type 0} (q p : Program A) (stops : List NumberedStop) (values : List (Option ℕ)) (k r : ℕ) (t now new : Timeline) → q ≡ p → length values ≡ length stops → 0 < r → IsOnWay p (named_stops p stops) t k now
    → AllTell p now.now stops values → (AllTell q now.now stops values → IsQuiet q (λ j. (moved q j now).now) stops values 0 r) → ((j : ℕ) → j < r → at_end (moved q j now) ≡ false) → new ≡ moved q r now
    → BeforeLast p stops values t (k + (r - 1)) (moved p (r - 1) now) new
before-last-by {A} q p stops values k r t now new e count some way told says runs is =
    before-last p stops values k r t now new count some way
    (subst (λ (o : Program A). AllTell o now.now stops values → IsQuiet o (λ j. (moved o j now).now) stops values 0 r) e says told)
    (λ j lt. subst (λ (o : Program A). at_end (moved o j now) ≡ false) e (runs j lt))
    (subst (λ (o : Program A). new ≡ moved o r now) e is)

-- ---- what a machine says of its steps, on the timeline

pub quiet-run : {A : Type 0} (w : Whole A) (kept : List State) (positions : List ℕ) (pokes : List Poked) (n r : ℕ) (stops : List NumberedStop) (values : List (Option ℕ)) → Holds w kept positions pokes n
    → (AllTell w.program (state_of w) stops values → (j : ℕ) → j < r → AllTell w.program (after w.program (state_of w) j) stops values)
    → ((j : ℕ) → 0 < j → j < r → first_break (after w.program (state_of w) j) (named_stops w.program stops) ≡ None)
    → AllTell w.program (timeline_at w.program (first_of kept) pokes n).now stops values → IsQuiet w.program (λ j. (moved w.program j (timeline_at w.program (first_of kept) pokes n)).now) stops values 0 r
quiet-run {A} w kept positions pokes n r stops values h told unbroken now =
    let t : Timeline = timeline_at w.program (first_of kept) pokes n in
    record {
      told = λ j ge lt. subst (λ (s : State). AllTell w.program s stops values) (ap (λ (s : State). after w.program s j) h.now ∙ sym (now-after w.program j t))
          (told (subst (λ (s : State). AllTell w.program s stops values) (sym h.now) now) j (omega (arith, lt)));
      unbroken = λ j some lt. ap (λ (s : State). first_break s (named_stops w.program stops)) (now-after w.program j t ∙ ap (λ (s : State). after w.program s j) (sym h.now)) ∙ unbroken j some (omega (arith, lt));
    }

-- ---- backwards

-- of two neighbouring states that read the same only a breakpoint can be a stop, and where none holds only a watch
only_break : (stops : List Numbered) (a b : State) → first_watch a b stops ≡ None → stopped stops a b ≡ option_map Break (first_break b stops)
unfolding stopped
only_break stops a b e = ap (λ o. option_or (option_map Watch o) (option_map Break (first_break b stops))) e

only_watch : (stops : List Numbered) (a b : State) → first_break b stops ≡ None → stopped stops a b ≡ option_map Watch (first_watch a b stops)
unfolding stopped
only_watch stops a b e = ap (λ o. option_or (option_map Watch (first_watch a b stops)) (option_map Break o)) e ∙ or_none (option_map Watch (first_watch a b stops))

hit_passes : (stop : ℕ → Option Reason) (from to k : ℕ) (last : Option Hit) → from ≤ to → IsLastHit stop from to last → ((j : ℕ) → to ≤ j → j < to + k → stop j ≡ None) → IsLastHit stop from (to + k) last
hit_passes stop from to zero last le is none = let e : to ≡ to + 0 = omega arith in subst (λ n. IsLastHit stop from n last) e is
hit_passes stop from to (suc k) last le is none =
    let e : (to + k) + 1 ≡ to + suc k = omega arith in
    subst (λ n. IsLastHit stop from n last) e
    (hit-more stop from (to + k) last None (omega (arith, le)) (hit_passes stop from to k last le is (λ j ge lt. none j ge (omega (arith, lt)))) (sym (none (to + k) (omega arith) (omega arith))))

-- of one move
one_hit : (stops : List Numbered) (now new : State) (stop : ℕ → Option Reason) (from at : ℕ) (last : Option Hit) (held seen : Option ℕ) → from ≤ at → IsLastHit stop from at last → stop at ≡ stopped stops new now
    → held ≡ first_break now stops → seen ≡ first_watch now new stops → IsLastHit stop from (at + 1) (later_hit (later_hit last at (option_map Break held)) at (option_map Watch seen))
unfolding stopped
one_hit stops now new stop from at last held (Some n) le is here broke saw =
    hit-more stop from at last (Some (Watch n)) le is
    (sym (here ∙ ap (λ o. option_or (option_map Watch o) (option_map Break (first_break now stops))) (sym (watch-turned now new stops) ∙ sym saw)))
one_hit stops now new stop from at last held None le is here broke saw =
    hit-more stop from at last (option_map Break held) le is
    (sym (here ∙ only_break stops new now (sym (watch-turned now new stops) ∙ sym saw) ∙ ap (option_map Break) (sym broke)))

-- of more than one
more_hits : {A : Type 0} (p : Program A) (states : ℕ → State) (stops : List NumberedStop) (values : List (Option ℕ)) (stop : ℕ → Option Reason) (from at n : ℕ) (last : Option Hit) (held seen : Option ℕ) → length values ≡ length stops → from ≤ at
    → IsLastHit stop from at last → ((j : ℕ) → stop j ≡ stopped (named_stops p stops) (states (suc j)) (states j)) → IsQuiet p states stops values at (suc (suc n)) → held ≡ first_break (states at) (named_stops p stops)
    → seen ≡ first_watch (states (suc (at + n))) (states (suc (suc (at + n)))) (named_stops p stops)
    → IsLastHit stop from (suc (at + n) + 1) (later_hit (later_hit last at (option_map Break held)) (suc (at + n)) (option_map Watch seen))
more_hits p states stops values stop from at n last held seen count le is here quiet broke saw =
    let S : List Numbered = named_stops p stops in
    let first : Option Hit = later_hit last at (option_map Break held) in
    let one : IsLastHit stop from (at + 1) first =
    hit-more stop from at last (option_map Break held) le is
    (sym (here at ∙ only_break S (states (suc at)) (states at)
    (no-watch p (states (suc at)) (states at) stops values count (quiet.told (suc at) (omega arith) (omega arith)) (quiet.told at (omega arith) (omega arith))) ∙ ap (option_map Break) (sym broke))) in
    let middle : IsLastHit stop from ((at + 1) + n) first =
    hit_passes stop from (at + 1) n first (omega (arith, le)) one (λ j ge lt.
    here j ∙ only_break S (states (suc j)) (states j)
    (no-watch p (states (suc j)) (states j) stops values count (quiet.told (suc j) (omega (arith, ge)) (omega (arith, lt))) (quiet.told j (omega (arith, ge)) (omega (arith, lt))))
    ∙ ap (option_map Break) (quiet.unbroken j (omega (arith, ge)) (omega (arith, lt)))) in
    let e : (at + 1) + n ≡ suc (at + n) = omega arith in
    hit-more stop from (suc (at + n)) first (option_map Watch seen) (omega (arith, le)) (subst (λ i. IsLastHit stop from i first) e middle)
    (sym (here (suc (at + n)) ∙ only_watch S (states (suc (suc (at + n)))) (states (suc (at + n))) (quiet.unbroken (suc (at + n)) (omega arith) (omega arith))
    ∙ ap (option_map Watch) (watch-turned (states (suc (suc (at + n)))) (states (suc (at + n))) S ∙ sym saw)))

quiet_hits : {A : Type 0} (p : Program A) (states : ℕ → State) (stops : List NumberedStop) (values : List (Option ℕ)) (stop : ℕ → Option Reason) (from at n to : ℕ) (last : Option Hit) (held seen : Option ℕ) → length values ≡ length stops → 0 < n
    → from ≤ at → to ≡ at + n → IsLastHit stop from at last → ((j : ℕ) → stop j ≡ stopped (named_stops p stops) (states (suc j)) (states j)) → IsQuiet p states stops values at n → held ≡ first_break (states at) (named_stops p stops)
    → seen ≡ first_watch (states (to - 1)) (states to) (named_stops p stops) → IsLastHit stop from to (later_hit (later_hit last at (option_map Break held)) (to - 1) (option_map Watch seen))
quiet_hits p states stops values stop from at zero to last held seen count some le e is here quiet broke saw = absurd (omega (arith, some))
quiet_hits {A} p states stops values stop from at (suc zero) to last held seen count some le e is here quiet broke saw =
    let end : at + 1 ≡ to = omega (arith, e) in
    let back : at ≡ to - 1 = omega (arith, e) in
    let next : suc at ≡ to = omega (arith, e) in
    let first : Option Hit = later_hit last at (option_map Break held) in
    subst (λ i. IsLastHit stop from i (later_hit first (to - 1) (option_map Watch seen))) end
    (subst (λ i. IsLastHit stop from (at + 1) (later_hit first i (option_map Watch seen))) back
    (one_hit (named_stops p stops) (states at) (states (suc at)) stop from at last held seen le is (here at) broke
    (saw ∙ ap (λ i. first_watch (states i) (states to) (named_stops p stops)) (sym back) ∙ ap (λ i. first_watch (states at) (states i) (named_stops p stops)) (sym next))))
quiet_hits {A} p states stops values stop from at (suc (suc n)) to last held seen count some le e is here quiet broke saw =
    let end : suc (at + n) + 1 ≡ to = omega (arith, e) in
    let back : suc (at + n) ≡ to - 1 = omega (arith, e) in
    let next : suc (suc (at + n)) ≡ to = omega (arith, e) in
    let first : Option Hit = later_hit last at (option_map Break held) in
    subst (λ i. IsLastHit stop from i (later_hit first (to - 1) (option_map Watch seen))) end
    (subst (λ i. IsLastHit stop from (suc (at + n) + 1) (later_hit first i (option_map Watch seen))) back
    (more_hits p states stops values stop from at n last held seen count le is here quiet broke
    (saw ∙ ap (λ i. first_watch (states i) (states to) (named_stops p stops)) (sym back) ∙ ap (λ i. first_watch (states (suc (at + n))) (states i) (named_stops p stops)) (sym next))))

-- in the loop, by the hits that were told
pub hits-more : {A : Type 0} (p : Program A) (stops : List NumberedStop) (values : List (Option ℕ)) (s : State) (pokes : List Poked) (from at n to : ℕ) (last first next : Option Hit) (held seen : Option ℕ) → length values ≡ length stops → 0 < n → from ≤ at
    → to ≡ at + n → IsLastHit (stop_at p (named_stops p stops) s pokes) from at last → IsQuiet p (walk p s pokes) stops values at n → held ≡ first_break (walk p s pokes at) (named_stops p stops)
    → seen ≡ first_watch (walk p s pokes (to - 1)) (walk p s pokes to) (named_stops p stops) → first ≡ later_hit last at (option_map Break held) → next ≡ later_hit first (to - 1) (option_map Watch seen)
    → IsLastHit (stop_at p (named_stops p stops) s pokes) from to next
hits-more {A} p stops values s pokes from at n to last first next held seen count some le e is quiet broke saw one two =
    subst (λ (h : Option Hit). IsLastHit (stop_at p (named_stops p stops) s pokes) from to h) (sym (two ∙ ap (λ (h : Option Hit). later_hit h (to - 1) (option_map Watch seen)) one))
    (quiet_hits p (walk p s pokes) stops values (stop_at p (named_stops p stops) s pokes) from at n to last held seen count some le e is (λ j. refl) quiet broke saw)

-- ---- steps up to the next poke

-- there is no poke on the way
pub no-poke-between : (pokes rest : List Poked) (at to stand r j : ℕ) → IsPart pokes rest at to → IsNextStand rest at to stand → r ≤ stand - at → at ≤ j → j < at + r → poke_at pokes j ≡ None
no-poke-between pokes rest at to stand r j part is few ge lt =
    let later : at < stand = is.later in
    let within : stand ≤ to = is.within in
    part j ge (omega (arith, lt, few, later, within)) ∙ is.none j ge (omega (arith, lt, few, later))

-- and the run isn't over, so one was made
pub one-made : {A : Type 0} (p : Program A) (s now new : State) (pokes rest : List Poked) (at to stand r m : ℕ) → IsNextStand rest at to stand → IsPart pokes rest at to → AreMoves p s pokes to → now ≡ walk p s pokes at → new ≡ after p now r
    → (r ≡ 0 → (stand - at ≡ 0) ⊎ (is_final new.status ≡ true)) → m ≡ max r 1 → m ≡ r
one-made p s now new pokes rest at to stand (suc r) m is part moves here ran some e = omega (arith, e)
one-made {A} p s now new pokes rest at to stand zero m is part moves here ran some e =
    let later : at < stand = is.later in
    let within : stand ≤ to = is.within in
    let none : poke_at pokes at ≡ None = part at (omega arith) (omega (arith, later, within)) ∙ is.none at (omega arith) later in
    let runs : is_final (walk p s pokes at).status ≡ false = runs-there p s pokes to at moves (omega (arith, later, within)) none in
    elim (some refl) [
      | inl all ↦ absurd (omega (arith, all, later))
      | inr over ↦ absurd (false≢true (sym (ap (λ (t : State). is_final t.status) (ran ∙ here) ∙ runs) ∙ over))
    ]

pub steps-state : {A : Type 0} (p : Program A) (s now new : State) (pokes rest : List Poked) (at to stand r m : ℕ) → IsNextStand rest at to stand → IsPart pokes rest at to → now ≡ walk p s pokes at → new ≡ after p now r → r ≤ stand - at → m ≡ r
    → new ≡ walk p s pokes (at + m)
steps-state p s now new pokes rest at to stand r m is part here ran few e =
    ran ∙ ap (λ (t : State). after p t r) here ∙ sym (walk-after p s pokes at r (λ j ge lt. no-poke-between pokes rest at to stand r j part is few ge lt)) ∙ ap (λ n. walk p s pokes (at + n)) (sym e)

pub steps-quiet : {A : Type 0} (p : Program A) (s now : State) (pokes rest : List Poked) (stops : List NumberedStop) (values : List (Option ℕ)) (at to stand r m : ℕ) → IsNextStand rest at to stand → IsPart pokes rest at to → now ≡ walk p s pokes at
    → r ≤ stand - at → m ≡ r → ((j : ℕ) → j < r → AllTell p (after p now j) stops values) → ((j : ℕ) → 0 < j → j < r → first_break (after p now j) (named_stops p stops) ≡ None) → IsQuiet p (walk p s pokes) stops values at m
steps-quiet {A} p s now pokes rest stops values at to stand r m is part here few e told unbroken = record {
  told = λ j ge lt. subst (λ (t : State). AllTell p t stops values) (there j ge (omega (arith, lt, e))) (told (j - at) (omega (arith, lt, ge, e)));
  unbroken = λ j above lt. ap (λ (t : State). first_break t (named_stops p stops)) (sym (there j (omega (arith, above)) (omega (arith, lt, e)))) ∙ unbroken (j - at) (omega (arith, above)) (omega (arith, lt, above, e));
}
  where
    there : (j : ℕ) → at ≤ j → j < at + r → after p now (j - at) ≡ walk p s pokes j
    there j ge lt =
        let sum : at + (j - at) ≡ j = omega (arith, ge) in
        ap (λ (t : State). after p t (j - at)) here
        ∙ sym (walk-after p s pokes at (j - at) (λ i above below. no-poke-between pokes rest at to stand r i part is few above (omega (arith, below, lt, ge))))
        ∙ ap (walk p s pokes) sum

-- what a machine says by its own program
pub quiet-by : {A : Type 0} (q p : Program A) (s now : State) (pokes : List Poked) (stops : List NumberedStop) (values : List (Option ℕ)) (at n to : ℕ) → q ≡ p
    → (AreMoves q s pokes to → now ≡ walk q s pokes at → AllTell q now stops values → IsQuiet q (walk q s pokes) stops values at n)
    → AreMoves p s pokes to → now ≡ walk p s pokes at → AllTell p now stops values → IsQuiet p (walk p s pokes) stops values at n
quiet-by {A} q p s now pokes stops values at n to e says =
    subst (λ (o : Program A). AreMoves o s pokes to → now ≡ walk o s pokes at → AllTell o now stops values → IsQuiet o (walk o s pokes) stops values at n) e says

-- what reads otherwise after the last of the moves
pub seen-by : {A : Type 0} (q p : Program A) (s new : State) (pokes : List Poked) (stops : List NumberedStop) (values : List (Option ℕ)) (at n to : ℕ) (seen : Option ℕ) → q ≡ p → 0 < n → to ≡ at + n → IsQuiet p (walk p s pokes) stops values at n
    → new ≡ walk p s pokes to → ((old : State) → AllTell q old stops values → seen ≡ first_watch old new (named_stops q stops)) → seen ≡ first_watch (walk p s pokes (to - 1)) (walk p s pokes to) (named_stops p stops)
seen-by {A} q p s new pokes stops values at n to seen e some end quiet there says =
    let told : AllTell p (walk p s pokes (to - 1)) stops values = quiet.told (to - 1) (omega (arith, some, end)) (omega (arith, some, end)) in
    subst (λ (o : Program A). (old : State) → AllTell o old stops values → seen ≡ first_watch old new (named_stops o stops)) e says (walk p s pokes (to - 1)) told
    ∙ ap (λ (t : State). first_watch (walk p s pokes (to - 1)) t (named_stops p stops)) there

pub held-by : {A : Type 0} (q p : Program A) (s now : State) (pokes : List Poked) (stops : List NumberedStop) (at : ℕ) (held : Option ℕ) → q ≡ p → now ≡ walk p s pokes at → held ≡ first_break now (named_stops q stops)
    → held ≡ first_break (walk p s pokes at) (named_stops p stops)
held-by {A} q p s now pokes stops at held e here is = is ∙ ap (λ (o : Program A). first_break now (named_stops o stops)) e ∙ ap (λ (t : State). first_break t (named_stops p stops)) here
