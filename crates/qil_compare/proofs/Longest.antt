-- The events of two runs, however far they are run.
use Rattle.std.proofs.Common.{◌≡◌, refl, sym, ap, ◌∙◌, subst, ℕ, zero, suc, ◌+◌, ◌-◌, ◌<◌, ◌≤◌, true, false, List, [], ◌∷◌, ◌++◌, length, inl, inr, Some, append_assoc, arith}
use Rattle.std.specs.Prelude.{slice_get}
use Rattle.std.proofs.lemmas.Bool.{cases_lt, true≢false}
use Rattle.std.proofs.lemmas.List.{length-append, append-nil}
use Rattle.qil_tree.specs.declared.tree.Program.{Program}
use Rattle.qil_semantics.specs.State.{State, is_final}
use Rattle.qil_semantics.specs.Targets.{after}
use Rattle.qil_semantics.specs.Timeline.{Timeline, moved}
use Rattle.qil_state.proofs.Place.{some_same}
use Rattle.qil_compare.specs.declared.event.Kinds.{Kinds}
use Rattle.qil_compare.specs.declared.event.Found.{Found}
use Rattle.qil_compare.specs.declared.event.Found.TheVariants as founds
use Rattle.qil_compare.specs.declared.comparing.Verdict.{Verdict}
use Rattle.qil_compare.specs.declared.comparing.Verdict.TheVariants as verdicts
use Rattle.qil_compare.specs.declared.comparing.Answer.{Answer}
use Rattle.qil_compare.specs.Events.{Event, events_of, events_by}
use Rattle.qil_compare.specs.Next.{event_at}
use Rattle.qil_compare.specs.Answer.{Run, run_of, state_after, first_events, Stands, StandBehind, OneIs, Agrees, IsJudged, IsAnswered}
use Rattle.qil_compare.specs.Longest.{IsFront, HaveLongest, AreAll, HaveSame, AgreeSoFar}
use Rattle.qil_compare.proofs.Fronts.{events_next, events_at_most}
use Rattle.qil_compare.proofs.Walking.{after_at}

-- ---- events that there are stay, and more come behind them

record IsMore (xs ys : List Event) : Type 0 where
  more : List Event
  is : ys ≡ xs ++ more

events_more : {A : Type 0} (p q : Program A) (kinds : Kinds) (s : State) (d k : ℕ) → IsMore (events_by p q kinds s k) (events_by p q kinds s (d + k))
events_more p q kinds s zero k = let none : 0 + k ≡ k = omega arith in record { more = []; is = ap (events_by p q kinds s) none ∙ sym (append-nil (events_by p q kinds s k)) }
events_more p q kinds s (suc d) k =
    let deep : IsMore (events_by p q kinds s k) (events_by p q kinds s (d + k)) = events_more p q kinds s d k in
    let next : suc d + k ≡ suc (d + k) = omega arith in
    let last : List Event = events_of p q kinds (after p s (d + k)) in
    record {
      more = deep.more ++ last;
      is = ap (events_by p q kinds s) next ∙ events_next p q kinds s (d + k) ∙ ap (λ es. es ++ last) deep.is ∙ append_assoc (events_by p q kinds s k) deep.more last;
    }

-- ---- the element behind a list

behind_at : (xs : List Event) (x : Event) (ys : List Event) (n : ℕ) → length xs ≡ n → slice_get (xs ++ x ∷ ys) n ≡ Some x
behind_at [] x ys zero e = refl
behind_at [] x ys (suc n) e = absurd (omega (arith, e))
behind_at (z ∷ xs) x ys zero e = absurd (omega (arith, e))
behind_at (z ∷ xs) x ys (suc n) e = behind_at xs x ys n (omega (arith, e))

within_at : (xs ys : List Event) (n : ℕ) → n < length xs → slice_get (xs ++ ys) n ≡ slice_get xs n
within_at [] ys n lt = absurd (omega (arith, lt))
within_at (x ∷ xs) ys zero lt = refl
within_at (x ∷ xs) ys (suc n) lt = within_at xs ys n (omega (arith, lt))

-- ---- a side, however far it is run

-- so far as it has more than n events, the one behind the first n is this
abbrev HasAt : {A : Type 0} → Run A → ℕ → Event → Type 0
HasAt r n x = (k : ℕ) → n < length (first_events r k) → slice_get (first_events r k) n ≡ Some x

has_at : {A : Type 0} (p q : Program A) (kinds : Kinds) (s : State) (n k : ℕ) (common others : List Event) (x : Event) → length common ≡ n → events_by p q kinds s k ≡ common ++ x ∷ others
    → ((j : ℕ) → j < k → length (events_by p q kinds s j) ≤ length common) → HasAt (record { program = p; other = q; kinds = kinds; start = s }) n x
has_at p q kinds s n k common others x count has least i lt = elim (cases_lt i k) [
  | inl before ↦ (let few = least i before in absurd (omega (arith, few, count, lt)))
  | inr after ↦ by (events_more p q kinds s (i - k) k) (omega (arith, after))
]
  where
    by : IsMore (events_by p q kinds s k) (events_by p q kinds s ((i - k) + k)) → (i - k) + k ≡ i → slice_get (events_by p q kinds s i) n ≡ Some x
    by on sum =
        let all : events_by p q kinds s i ≡ common ++ x ∷ (others ++ on.more) =
        ap (events_by p q kinds s) (sym sum) ∙ on.is ∙ ap (λ es. es ++ on.more) has ∙ append_assoc common (x ∷ others) on.more in
        ap (λ es. slice_get es n) all ∙ behind_at common x (others ++ on.more) n count

-- so far as it runs it has n events at most
abbrev HasFew : {A : Type 0} → Run A → ℕ → Type 0
HasFew r n = (k : ℕ) → ((j : ℕ) → j < k → is_final (state_after r j).status ≡ false) → length (first_events r k) ≤ n

has_few : {A : Type 0} (p q : Program A) (kinds : Kinds) (s : State) (n k : ℕ) (common : List Event) → length common ≡ n → events_by p q kinds s k ≡ common → is_final (after p s k).status ≡ true
    → HasFew (record { program = p; other = q; kinds = kinds; start = s }) n
has_few p q kinds s n k common count has over i runs = elim (cases_lt k i) [
  | inl past ↦ absurd (true≢false (sym over ∙ runs k past))
  | inr within ↦
      let few = events_at_most p q kinds s i k within in
      let all : length (events_by p q kinds s k) ≡ n = ap length has ∙ count in
      omega (arith, few, all)
]

-- what is known of a side, by what was found of it
abbrev Knows : {A : Type 0} → Run A → ℕ → ℕ → Found → Type 0
Knows r n k (founds.Event e) = HasAt r n (event_at r.program (state_after r k) e)
Knows r n k founds.Over = HasFew r n
Knows r n k found = Unit {0}

knows : {A : Type 0} (p q : Program A) (kinds : Kinds) (s : State) (n k : ℕ) (common : List Event) (found : Found) → length common ≡ n → Stands (record { program = p; other = q; kinds = kinds; start = s }) k common found
    → Knows (record { program = p; other = q; kinds = kinds; start = s }) n k found
knows p q kinds s n k common (founds.Event e) count stands = has_at p q kinds s n k common stands.has.0 (event_at p (after p s k) e) count stands.has.1 stands.least
knows p q kinds s n k common founds.Over count stands = has_few p q kinds s n k common count stands.has.0 stands.has.1
knows p q kinds s n k common founds.Limit count stands = tt

front_of : {A : Type 0} (r : Run A) (k : ℕ) (common : List Event) (found : Found) → Stands r k common found → IsFront r common
front_of r k common (founds.Event e) stands = record { steps = k; runs = stands.runs; others = event_at r.program (state_after r k) e ∷ stands.has.0; has = stands.has.1 }
front_of r k common founds.Over stands = record { steps = k; runs = stands.runs; others = []; has = stands.has.0 ∙ sym (append-nil common) }
front_of r k common founds.Limit stands = record { steps = k; runs = stands.runs; others = stands.has.0; has = stands.has.1 }

-- ---- a front of both that is longer

longer_than : {A : Type 0} (r : Run A) (front : List Event) (of : IsFront r front) (n : ℕ) → n < length front → n < length (first_events r of.steps)
longer_than r front of n lt =
    let all : length (first_events r of.steps) ≡ length front + length of.others = ap length of.has ∙ length-append front of.others in
    omega (arith, lt, all)

-- its event behind the first n is that of the side
front_at : {A : Type 0} (r : Run A) (front : List Event) (of : IsFront r front) (n : ℕ) (x : Event) → HasAt r n x → n < length front → slice_get front n ≡ Some x
front_at r front of n x at lt = sym (within_at front of.others n lt) ∙ ap (λ es. slice_get es n) (sym of.has) ∙ at of.steps (longer_than r front of n lt)

front_few : {A : Type 0} (r : Run A) (front : List Event) (of : IsFront r front) (n : ℕ) → HasFew r n → length front ≤ n
front_few r front of n few =
    let all : length (first_events r of.steps) ≡ length front + length of.others = ap length of.has ∙ length-append front of.others in
    let most = few of.steps of.runs in
    omega (arith, all, most)

no_longer : {A : Type 0} (r q : Run A) (n k j : ℕ) (good bad : Found) (front : List Event) → Knows r n k good → Knows q n j bad → (OneIs founds.Limit good bad → ⊥)
    → (Agrees r.program q.program (state_after r k) (state_after q j) good bad → ⊥) → IsFront r front → IsFront q front → length front ≤ n
no_longer r q n k j founds.Limit bad front one other limit parts left right = absurd (limit (inl refl))
no_longer r q n k j founds.Over bad front one other limit parts left right = front_few r front left n one
no_longer r q n k j (founds.Event e) founds.Limit front one other limit parts left right = absurd (limit (inr refl))
no_longer r q n k j (founds.Event e) founds.Over front one other limit parts left right = front_few q front right n other
no_longer r q n k j (founds.Event e) (founds.Event d) front one other limit parts left right = elim (cases_lt n (length front)) [
  | inl more ↦ absurd (parts (some_same _ _ (sym (front_at r front left n _ one more) ∙ front_at q front right n _ other more)))
  | inr few ↦ few
]

-- ---- what an answer says

judged_part : {A : Type 0} (kinds : Kinds) (p q : Program A) (t u w v : Timeline) (n k j : ℕ) (good bad : Found) → u ≡ moved p k t → v ≡ moved q j w → StandBehind (run_of kinds p q t) (run_of kinds q p w) n k j good bad
    → IsJudged p q u.now v.now good bad verdicts.Part → HaveLongest (run_of kinds p q t) (run_of kinds q p w) n
judged_part {A} kinds p q t u w v n k j good bad eu ev stand judged =
    let parts : Agrees p q (after p t.now k) (after q w.now j) good bad → ⊥ =
    λ agree. judged.1 (subst (λ (s : State). Agrees p q s v.now good bad) (sym (after_at p k t u eu)) (subst (λ (s : State). Agrees p q (after p t.now k) s good bad) (sym (after_at q j w v ev)) agree)) in
    record {
      front = stand.common;
      count = stand.count;
      of_good = front_of (run_of kinds p q t) k stand.common good stand.good_side;
      of_bad = front_of (run_of kinds q p w) j stand.common bad stand.bad_side;
      longest = λ other left right. no_longer (run_of kinds p q t) (run_of kinds q p w) n k j good bad other
          (knows p q kinds t.now n k stand.common good stand.count stand.good_side) (knows q p kinds w.now n j stand.common bad stand.count stand.bad_side) judged.0 parts left right;
    }

all_of : {A : Type 0} (r : Run A) (k : ℕ) (common : List Event) (found : Found) → found ≡ founds.Over → Stands r k common found → AreAll r common
all_of {A} r k common found is stands =
    let over : Stands r k common founds.Over = subst (λ (f : Found). Stands r k common f) is stands in
    record { steps = k; runs = over.runs; over = over.has.1; all = over.has.0 }

pub answer_part : {A : Type 0} (kinds : Kinds) (limit : ℕ) (p q : Program A) (t u w v : Timeline) (answer : Answer) → IsAnswered kinds limit p q t u w v answer → answer.verdict ≡ verdicts.Part → HaveLongest (run_of kinds p q t) (run_of kinds q p w) answer.events
answer_part kinds limit p q t u w v answer answered is =
    judged_part kinds p q t u w v answer.events answered.good_moves answered.bad_moves answer.good answer.bad answered.good_is answered.bad_is answered.stand
    (subst (λ (verdict : Verdict). IsJudged p q u.now v.now answer.good answer.bad verdict) is answered.judged)

pub answer_same : {A : Type 0} (kinds : Kinds) (limit : ℕ) (p q : Program A) (t u w v : Timeline) (answer : Answer) → IsAnswered kinds limit p q t u w v answer → answer.verdict ≡ verdicts.Same → HaveSame (run_of kinds p q t) (run_of kinds q p w) answer.events
answer_same {A} kinds limit p q t u w v answer answered is =
    let over : IsJudged p q u.now v.now answer.good answer.bad verdicts.Same = subst (λ (verdict : Verdict). IsJudged p q u.now v.now answer.good answer.bad verdict) is answered.judged in
    record {
      events = answered.stand.common;
      count = answered.stand.count;
      of_good = all_of (run_of kinds p q t) answered.good_moves answered.stand.common answer.good over.0 answered.stand.good_side;
      of_bad = all_of (run_of kinds q p w) answered.bad_moves answered.stand.common answer.bad over.1 answered.stand.bad_side;
    }

pub answer_front : {A : Type 0} (kinds : Kinds) (limit : ℕ) (p q : Program A) (t u w v : Timeline) (answer : Answer) → IsAnswered kinds limit p q t u w v answer → AgreeSoFar (run_of kinds p q t) (run_of kinds q p w) answer.events
answer_front kinds limit p q t u w v answer answered = record {
  front = answered.stand.common;
  count = answered.stand.count;
  of_good = front_of (run_of kinds p q t) answered.good_moves answered.stand.common answer.good answered.stand.good_side;
  of_bad = front_of (run_of kinds q p w) answered.bad_moves answered.stand.common answer.bad answered.stand.bad_side;
}
