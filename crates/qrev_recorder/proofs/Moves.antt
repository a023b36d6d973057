-- Runs over calls as the `step` or the `back` that makes the same moves.
use Rattle.std.proofs.Common.{◌≡◌, refl, sym, ap, ◌∙◌, subst, ℕ, zero, suc, ◌+◌, ◌<◌, ◌≤◌, Bool, true, false, cond, List, [], ◌++◌, length, Option, Some, None, Ok, inl, min, arith}
use Rattle.std.specs.Prelude.{◌==◌}
use Rattle.std.specs.Option.{option_or}
use Rattle.std.proofs.lemmas.Bool.{true≢false}
use Rattle.std.proofs.lemmas.List.{append-nil}
use Rattle.std.proofs.lemmas.Bool.Decides.{nat_tests}
use Rattle.qil_tree.specs.declared.tree.Program.{Program}
use Rattle.std.specs.Prelude.{Result}
use Rattle.qil_commands.specs.declared.command.Command.{Command}
use Rattle.qil_commands.specs.declared.command.Refused.{Refused}
use Rattle.qil_commands.specs.declared.command.Command.TheVariants as commands
use Rattle.qil_semantics.specs.Timeline.{Timeline, position, oldest, at_end, moved, gone}
use Rattle.qil_semantics.specs.Moves.{forward_by, back_by}
use Rattle.qil_semantics.specs.Stops.{Numbered}
use Rattle.qil_semantics.specs.Runs.{if_holds, bottom, stop_on, stop_back}
use Rattle.qil_semantics.specs.declared.reason.Reason.{Reason}
use Rattle.qil_semantics.specs.declared.reason.Reason.TheVariants.{End, Start, Oldest}
use Rattle.qil_replies.specs.declared.reply.Reply.TheVariants as replies
use Rattle.qil_replies.specs.SessionState.{SessionState, text_in}
use Rattle.qil_replies.specs.Answers.{Answer, Replies, answer, IsValid, if_back, goes_to, refuses}
use Rattle.qil_replies.specs.Transcript.{Setup}
use Rattle.qil_stops.proofs.Walks.{IsWalked, walked-all}
use Rattle.qil_replies.proofs.ReachedLemmas.{none_valid}
use Rattle.qil_stops.specs.Depths.{RunsToDepth, RunsBackToDepth}
use Rattle.qil_stops.specs.Named.{named_stops}
use Rattle.qil_stops.specs.declared.depth_end.DepthEnd.{DepthEnd}
use Rattle.qil_stops.specs.declared.depth_end.DepthEnd.TheVariants.{Stopped}
use Rattle.qrev_recorder.specs.Record.{IsRecording, KeepsMoves}
use Rattle.qrev_recorder.specs.Done.{place_told, HasRunTo, HasRunBack}
use Rattle.qrev_recorder.proofs.Recording.{moves_kept}

-- ---- forward

first_none : (b : Bool) (reason : Reason) (o : Option Reason) → option_or (if_holds b reason) o ≡ None → b ≡ false
first_none true reason o e = absurd cc
first_none false reason o e = refl

no_end : (b : Bool) (reason : Reason) → if_holds b reason ≡ None → b ≡ false
no_end true reason e = absurd cc
no_end false reason e = refl

unstopped_runs : {A : Type 0} (p : Program A) (stops : List Numbered) (t : Timeline) (j : ℕ) → stop_on p stops t j ≡ None → at_end (moved p j t) ≡ false
unfolding stop_on moved
unstopped_runs p stops t zero e = no_end (at_end t) End e
unstopped_runs p stops t (suc j) e = first_none (at_end (moved p (suc j) t)) End _ e

start_runs : {A : Type 0} (p : Program A) (stops : List Numbered) (t : Timeline) → stop_on p stops t 0 ≡ None → at_end t ≡ false
unfolding stop_on
start_runs p stops t e = no_end (at_end t) End e

walked : {A : Type 0} (p : Program A) (stops : List Numbered) (n limit k : ℕ) (t u : Timeline) (end : DepthEnd) → RunsToDepth p stops n limit t end k u → IsWalked p t k u
walked p stops n limit k t u end run = record { moves = run.moves; runs = λ j lt. unstopped_runs p stops t j (run.passed.unstopped j lt) }

-- so many moves forward are what `step` makes
pub steps_replied : {A : Type 0} (s : SessionState A) (stops : List Numbered) (n limit k : ℕ) (u : Timeline) (end : DepthEnd) → RunsToDepth s.program stops n limit s.timeline end k u → 0 < k
    → Replies s (record s { timeline = u }) (Ok (Some (commands.Step k))) replies.Place
unfolding answer
steps_replied s stops n limit k u end run some =
    let way = walked s.program stops n limit k s.timeline u end run in
    let runs : at_end s.timeline ≡ false = start_runs s.program stops s.timeline (run.passed.unstopped 0 some) in
    let there : u ≡ forward_by s.program k s.timeline = walked-all s.program k k s.timeline u u way (omega arith) refl (λ lt. absurd (omega (arith, lt))) in
    record {
      shortage = None;
      valid = none_valid s _;
      reply = rw runs refl;
      left = rw (runs, there) refl;
    }

-- ---- back

bottom_away : (t : Timeline) (j : ℕ) → bottom t j ≡ None → (length t.past == j) ≡ false
bottom_away t j e = no_end (length t.past == j) _ e

second_none : {X : Type 0} (a b : Option X) → option_or a b ≡ None → b ≡ None
second_none None b e = e
second_none (Some x) b e = absurd cc

unstopped_kept : (stops : List Numbered) (t : Timeline) (j : ℕ) → stop_back stops t j ≡ None → (length t.past == j) ≡ false
unfolding stop_back
unstopped_kept stops t zero e = bottom_away t 0 e
unstopped_kept stops t (suc j) e = bottom_away t (suc j) (second_none _ (bottom t (suc j)) e)

-- if no number under k is that of the states that are kept, there are at least k
at_least : (m k : ℕ) → ((j : ℕ) → j < k → (m == j) ≡ false) → k ≤ m
at_least m zero away = omega arith
at_least m (suc k) away =
    let le = at_least m k (λ j lt. away j (omega (arith, lt))) in
    let other : (m == k) ≡ false = away k (omega arith) in
    grind (arith, nat_tests, le, other)

-- so many moves back are what `back` makes
pub backs_replied : {A : Type 0} (s : SessionState A) (stops : List Numbered) (n limit k : ℕ) (u : Timeline) (end : DepthEnd) → RunsBackToDepth stops n limit s.timeline end k u → 0 < k
    → Replies s (record s { timeline = u }) (Ok (Some (commands.Back k))) replies.Place
unfolding answer
backs_replied s stops n limit k u end run some =
    let kept : k ≤ length s.timeline.past = at_least (length s.timeline.past) k (λ j lt. unstopped_kept stops s.timeline j (run.passed.unstopped j lt)) in
    let away : (length s.timeline.past == 0) ≡ false = unstopped_kept stops s.timeline 0 (run.passed.unstopped 0 some) in
    let moved : (position s.timeline == 0) ≡ false = grind (arith, nat_tests, kept, some) in
    let all : k ≡ min k (length s.timeline.past) = omega (arith, kept) in
    let there : u ≡ back_by k s.timeline = run.moves ∙ ap (λ i. gone i s.timeline) all in
    record {
      shortage = None;
      valid = none_valid s _;
      reply = rw (moved, away) refl;
      left = rw (moved, away, there) refl;
    }

-- ---- in a record

positive : (n : ℕ) → (n ≡ 0 → ⊥) → 0 < n
positive n some = omega (arith, some)

-- no move was made
pub stays : {A : Type 0} (old new : SessionState A) (stops : List Numbered) (n limit k : ℕ) (end : DepthEnd) → RunsToDepth old.program stops n limit old.timeline end k new.timeline
    → new ≡ record old { timeline = new.timeline } → k ≡ 0 → new ≡ old
unfolding moved
stays old new stops n limit k end run rest none = rest ∙ ap (λ (t : Timeline). record old { timeline = t }) (run.moves ∙ ap (λ j. moved old.program j old.timeline) none)

pub stays_back : {A : Type 0} (old new : SessionState A) (stops : List Numbered) (n limit k : ℕ) (end : DepthEnd) → RunsBackToDepth stops n limit old.timeline end k new.timeline
    → new ≡ record old { timeline = new.timeline } → k ≡ 0 → new ≡ old
unfolding gone
stays_back old new stops n limit k end run rest none = rest ∙ ap (λ (t : Timeline). record old { timeline = t }) (run.moves ∙ ap (λ j. gone j old.timeline) none)

-- a run was kept as a line
pub run_kept : {A : Type 0} (s : Setup) (old new : SessionState A) (stops : List Numbered) (n limit k : ℕ) (end : DepthEnd) (script script' transcript transcript' : List ℕ)
    → IsRecording s old script transcript → RunsToDepth old.program stops n limit old.timeline end k new.timeline → new ≡ record old { timeline = new.timeline } → (k ≡ 0 → ⊥)
    → KeepsMoves (Ok (Some (commands.Step k))) new script script' transcript transcript' → IsRecording s new script' transcript'
run_kept {A} s old new stops n limit k end script script' transcript transcript' r run rest some kept =
    moves_kept s old new (Ok (Some (commands.Step k))) script script' transcript transcript' r refl
    (subst (λ (there : SessionState A). Replies old there (Ok (Some (commands.Step k))) replies.Place) (sym rest) (steps_replied old stops n limit k new.timeline end run (positive k some))) kept

pub run_back_kept : {A : Type 0} (s : Setup) (old new : SessionState A) (stops : List Numbered) (n limit k : ℕ) (end : DepthEnd) (script script' transcript transcript' : List ℕ)
    → IsRecording s old script transcript → RunsBackToDepth stops n limit old.timeline end k new.timeline → new ≡ record old { timeline = new.timeline } → (k ≡ 0 → ⊥)
    → KeepsMoves (Ok (Some (commands.Back k))) new script script' transcript transcript' → IsRecording s new script' transcript'
run_back_kept {A} s old new stops n limit k end script script' transcript transcript' r run rest some kept =
    moves_kept s old new (Ok (Some (commands.Back k))) script script' transcript transcript' r refl
    (subst (λ (there : SessionState A). Replies old there (Ok (Some (commands.Back k))) replies.Place) (sym rest) (backs_replied old stops n limit k new.timeline end run (positive k some))) kept

-- ---- what a run tells

none_told : {A : Type 0} (new : SessionState A) (k : ℕ) (transcript : List ℕ) → k ≡ 0 → transcript ≡ transcript ++ place_told k new
none_told new k transcript none = sym (append-nil transcript) ∙ ap (λ n. transcript ++ place_told n new) (sym none)

place_is_told : {A : Type 0} (new : SessionState A) (k : ℕ) → (k ≡ 0 → ⊥) → text_in new replies.Place ≡ place_told k new
place_is_told new zero some = absurd (some refl)
place_is_told new (suc k) some = refl

-- nothing is done at the end
pub ran_at_end : {A : Type 0} (s : SessionState A) (transcript : List ℕ) (n : ℕ) → at_end s.timeline ≡ true → HasRunTo s s transcript transcript n (Stopped End)
unfolding stop_on moved
ran_at_end s transcript n over = record {
  moves = 0;
  run = record {
    moves = refl;
    few = omega arith;
    passed = record { unstopped = λ j lt. absurd (omega (arith, lt)); deep = λ j lt some. absurd (omega (arith, lt)) };
    ends = inl (ap (λ b. if_holds b End) over);
  };
  rest = refl;
  told = sym (append-nil transcript);
}

pub ran_nowhere : {A : Type 0} (old new : SessionState A) (transcript : List ℕ) (n k : ℕ) (end : DepthEnd) → RunsToDepth old.program (named_stops old.program old.stops.kept) n old.limit old.timeline end k new.timeline
    → new ≡ record old { timeline = new.timeline } → k ≡ 0 → HasRunTo old new transcript transcript n end
ran_nowhere old new transcript n k end run rest none = record { moves = k; run = run; rest = rest; told = none_told new k transcript none }

pub ran_on : {A : Type 0} (old new : SessionState A) (said : Result (Option Command) Refused) (script script' transcript transcript' : List ℕ) (n k : ℕ) (end : DepthEnd)
    → RunsToDepth old.program (named_stops old.program old.stops.kept) n old.limit old.timeline end k new.timeline → new ≡ record old { timeline = new.timeline } → (k ≡ 0 → ⊥)
    → KeepsMoves said new script script' transcript transcript' → HasRunTo old new transcript transcript' n end
ran_on old new said script script' transcript transcript' n k end run rest some kept =
    record { moves = k; run = run; rest = rest; told = kept.told ∙ ap (λ (text : List ℕ). transcript ++ text) (place_is_told new k some) }

pub none_named : {A : Type 0} (p : Program A) → named_stops p [] ≡ []
unfolding named_stops
none_named p = refl

pub ran_back_nowhere : {A : Type 0} (old new : SessionState A) (stops : List Numbered) (transcript : List ℕ) (n k : ℕ) (end : DepthEnd) → RunsBackToDepth stops n old.limit old.timeline end k new.timeline
    → new ≡ record old { timeline = new.timeline } → k ≡ 0 → HasRunBack old new transcript transcript stops n end
ran_back_nowhere old new stops transcript n k end run rest none = record { moves = k; run = run; rest = rest; told = none_told new k transcript none }

pub ran_back : {A : Type 0} (old new : SessionState A) (stops : List Numbered) (said : Result (Option Command) Refused) (script script' transcript transcript' : List ℕ) (n k : ℕ) (end : DepthEnd)
    → RunsBackToDepth stops n old.limit old.timeline end k new.timeline → new ≡ record old { timeline = new.timeline } → (k ≡ 0 → ⊥)
    → KeepsMoves said new script script' transcript transcript' → HasRunBack old new transcript transcript' stops n end
ran_back old new stops said script script' transcript transcript' n k end run rest some kept =
    record { moves = k; run = run; rest = rest; told = kept.told ∙ ap (λ (text : List ℕ). transcript ++ text) (place_is_told new k some) }
