-- What is answered of two runs: how many events are the same from the start on, and what comes next on each side.
use Rattle.std.specs.Prelude.{◌≡◌, ◌⊎◌, ℕ, ◌+◌, ◌^◌, ◌<◌, ◌≤◌, true, false, List, ◌∷◌, ◌++◌, length, Option, Some, None}
use Rattle.qil_tree.specs.declared.tree.Program.{Program}
use Rattle.qil_semantics.specs.State.{State, is_final}
use Rattle.qil_semantics.specs.Targets.{after}
use Rattle.qil_semantics.specs.Timeline.{Timeline, moved, position}
use Rattle.qil_compare.specs.declared.event.Kinds.{Kinds}
use Rattle.qil_compare.specs.declared.event.Found.{Found}
use Rattle.qil_compare.specs.declared.event.Found.TheVariants as founds
use Rattle.qil_compare.specs.declared.comparing.Verdict.{Verdict}
use Rattle.qil_compare.specs.declared.comparing.Verdict.TheVariants as verdicts
use Rattle.qil_compare.specs.declared.comparing.Answer.{Answer}
use Rattle.qil_compare.specs.Events.{Event, events_by}
use Rattle.qil_compare.specs.Next.{event_at}

-- a side: its program and the other one, the kinds that are compared, and the first state of its run
pub record Run (A : Type 0) : Type 0 where
  pub program : Program A
  pub other : Program A
  pub kinds : Kinds
  pub start : State

-- the side of p against q, from where a timeline stands
abbrev pub run_of : {A : Type 0} → Kinds → Program A → Program A → Timeline → Run A
run_of kinds p q t = record { program = p; other = q; kinds = kinds; start = t.now }

abbrev pub state_after : {A : Type 0} → Run A → ℕ → State
state_after r k = after r.program r.start k

-- the events of the first k steps
abbrev pub first_events : {A : Type 0} → Run A → ℕ → List Event
first_events r k = events_by r.program r.other r.kinds r.start k

-- ---- where a side stands

-- these events of the first k steps come before what was found
abbrev pub Has : {A : Type 0} → Run A → ℕ → List Event → Found → Type 0
Has r k common (founds.Event e) = (others : List Event) × (first_events r k ≡ common ++ (event_at r.program (state_after r k) e ∷ others))
Has r k common founds.Over = (first_events r k ≡ common) × (is_final (state_after r k).status ≡ true)
Has r k common founds.Limit = (others : List Event) × (first_events r k ≡ common ++ others)

-- A side stands after k moves, each from a state whose run goes on: the least number after which it has more events than
-- these; or it has no more.
pub record Stands {A : Type 0} (r : Run A) (k : ℕ) (common : List Event) (found : Found) : Type 0 where
  pub runs : (j : ℕ) → j < k → is_final (state_after r j).status ≡ false
  pub has : Has r k common found
  pub least : (j : ℕ) → j < k → length (first_events r j) ≤ length common

-- after k and j moves both sides stand behind their first n events, which are the same ones
pub record StandBehind {A : Type 0} (r q : Run A) (n k j : ℕ) (good bad : Found) : Type 0 where
  pub common : List Event
  pub count : length common ≡ n
  pub good_side : Stands r k common good
  pub bad_side : Stands q j common bad

-- ---- at a limit

-- a side made so many moves since its last event, or since its start if it had none; no further event came, and its run goes on
pub record IsSpent {A : Type 0} (r : Run A) (limit k : ℕ) (common : List Event) : Type 0 where
  pub last : ℕ
  pub moves : k ≡ last + limit
  pub has_all : first_events r last ≡ common
  pub least : (j : ℕ) → j < last → length (first_events r j) < length common
  pub none : first_events r k ≡ common
  pub goes_on : is_final (state_after r k).status ≡ false

-- a side has made more moves than after which a further event is looked for; or there is no number for a further event
abbrev pub IsFar : ℕ → Timeline → Timeline → Type 0
IsFar n u v = (10 ^ 18 < position u) ⊎ ((10 ^ 18 < position v) ⊎ (2 ^ 64 ≤ n + 1))

-- the one or the other, where it is told of a side that it came to the limit
abbrev pub IsLimited : {A : Type 0} → Run A → ℕ → ℕ → List Event → ℕ → Timeline → Timeline → Found → Type 0
IsLimited r limit k common n u v found = found ≡ founds.Limit → IsSpent r limit k common ⊎ IsFar n u v

-- ---- what comes of that

-- what comes next on two sides is the same: an event, or that the run is over
abbrev pub Agrees : {A : Type 0} → Program A → Program A → State → State → Found → Found → Type 0
Agrees p q s t (founds.Event e) (founds.Event d) = event_at p s e ≡ event_at q t d
Agrees p q s t founds.Over founds.Over = Unit {0}
Agrees p q s t good bad = ⊥

-- one of the two came to this, or neither did
abbrev pub OneIs : Found → Found → Found → Type 0
OneIs found good bad = (good ≡ found) ⊎ (bad ≡ found)

abbrev pub NoneIs : Found → Found → Found → Type 0
NoneIs found good bad = OneIs found good bad → ⊥

abbrev pub IsJudged : {A : Type 0} → Program A → Program A → State → State → Found → Found → Verdict → Type 0
IsJudged p q s t good bad verdicts.Same = (good ≡ founds.Over) × (bad ≡ founds.Over)
IsJudged p q s t good bad verdicts.Part = NoneIs founds.Limit good bad × (Agrees p q s t good bad → ⊥)
IsJudged p q s t good bad verdicts.Limit = OneIs founds.Limit good bad

abbrev pub IsEvent : Found → Type 0
IsEvent (founds.Event e) = Unit {0}
IsEvent found = ⊥

-- a verdict, or both have the same event next
abbrev pub Judges : {A : Type 0} → Program A → Program A → State → State → Found → Found → Option Verdict → Type 0
Judges p q s t good bad None = IsEvent good × IsEvent bad × Agrees p q s t good bad
Judges p q s t good bad (Some verdict) = IsJudged p q s t good bad verdict

-- ---- the answer

-- Two runs, of p from t and of q from w, are compared, with so many moves at most from one event to the next. They went on to
-- u and v, each by moves forward alone.
pub record IsAnswered {A : Type 0} (kinds : Kinds) (limit : ℕ) (p q : Program A) (t u w v : Timeline) (answer : Answer) : Type 0 where
  pub good_moves : ℕ
  pub good_is : u ≡ moved p good_moves t
  pub bad_moves : ℕ
  pub bad_is : v ≡ moved q bad_moves w
  pub stand : StandBehind (run_of kinds p q t) (run_of kinds q p w) answer.events good_moves bad_moves answer.good answer.bad
  pub good_limit : IsLimited (run_of kinds p q t) limit good_moves stand.common answer.events u v answer.good
  pub bad_limit : IsLimited (run_of kinds q p w) limit bad_moves stand.common answer.events u v answer.bad
  pub judged : IsJudged p q u.now v.now answer.good answer.bad answer.verdict
