-- The move that an editor asks for: which command or which run over calls it is, and why the run stands after it.
use Rattle.std.specs.Prelude.{◌≡◌, ◌≢◌, ◌⊎◌, ℕ, ◌+◌, ◌^◌, ◌≤◌, List, [], length, Option, Some, Result, Ok}
use Rattle.qil_semantics.specs.Timeline.{position}
use Rattle.qil_semantics.specs.Stops.{Numbered}
use Rattle.qil_semantics.specs.declared.reason.Reason.TheVariants as reasons
use Rattle.qrev_recorder.specs.qil_replies.SessionState.{SessionState}
use Rattle.qrev_recorder.specs.qil_replies.declared.reply.CommandRefusal.TheVariants as refusals
use Rattle.qil_commands.specs.declared.command.Command.{Command}
use Rattle.qil_commands.specs.declared.command.Command.TheVariants as commands
use Rattle.qil_commands.specs.declared.command.Refused.{Refused}
use Rattle.qrev_recorder.specs.qil_replies.qil_stops.Depths.{depth}
use Rattle.qrev_recorder.specs.qil_replies.qil_stops.Named.{named_stops}
use Rattle.qrev_recorder.specs.qil_replies.qil_stops.declared.depth_end.DepthEnd.{DepthEnd}
use Rattle.qrev_recorder.specs.qil_replies.qil_stops.declared.depth_end.DepthEnd.TheVariants as ends
use Rattle.qrev_recorder.specs.declared.done.Done.{Done}
use Rattle.qrev_recorder.specs.declared.done.Done.TheVariants as dones
use Rattle.qrev_recorder.specs.declared.done.LineError.{LineError}
use Rattle.qrev_recorder.specs.declared.done.LineError.TheVariants as errors
use Rattle.qrev_recorder.specs.Done.{IsDone, IsUnanswered, HasNoRoom, Stays, HasRunTo, HasRunBack}
use Rattle.qrev_debuggee.specs.declared.failure.Failure.{Failure}
use Rattle.qrev_debuggee.specs.declared.failure.Failure.TheVariants as failures
use Rattle.qrev_debuggee.specs.declared.failure.Cause.TheVariants as causes
use Rattle.qrev_debuggee.specs.declared.motion.Motion.{Motion}
use Rattle.qrev_debuggee.specs.declared.motion.Motion.TheVariants as motions
use Rattle.qrev_debuggee.specs.declared.motion.Why.{Why}
use Rattle.qrev_debuggee.specs.declared.motion.Why.TheVariants as whys

-- ---- why the run stands

-- after a line that did this
abbrev pub why_after : Done → Why
why_after (dones.Stopped reason) = whys.Run reason
why_after (dones.Refused refusals.AtStart) = whys.Run reasons.Start
why_after (dones.Refused refusals.HistoryEnds) = whys.Run reasons.Oldest
why_after (dones.Refused refusals.AtEnd) = whys.Run reasons.End
why_after done = whys.Step

-- after a run over calls that ended for this
abbrev pub why_at : DepthEnd → Why
why_at ends.Depth = whys.Step
why_at (ends.Stopped reason) = whys.Run reason

-- ---- the moves

-- a session, and the script and the transcript of what was done in it
pub record Recorded (A : Type 0) : Type 0 where
  pub session : SessionState A
  pub script : List ℕ
  pub transcript : List ℕ

-- what a line says was answered, and did this
abbrev pub Lined : {A : Type 0} → Recorded A → Recorded A → Result (Option Command) Refused → Done → Type 0
Lined old new said done = IsDone old.session new.session old.transcript new.transcript said done

-- a command was answered, and the run stands for this
abbrev pub Commanded : {A : Type 0} → Recorded A → Recorded A → Command → Why → Type 0
Commanded old new command why = (done : Done) × Lined old new (Ok (Some command)) done × (why ≡ why_after done)

-- it ran forward until no more than so many calls were open
abbrev pub RanTo : {A : Type 0} → Recorded A → Recorded A → ℕ → DepthEnd → Type 0
RanTo old new most end = HasRunTo old.session new.session old.transcript new.transcript most end

-- it ran back until then, or to one of these stops
abbrev pub RanBackTo : {A : Type 0} → Recorded A → Recorded A → List Numbered → ℕ → DepthEnd → Type 0
RanBackTo old new stops most end = HasRunBack old.session new.session old.transcript new.transcript stops most end

-- or to one of its own
abbrev pub RanBack : {A : Type 0} → Recorded A → Recorded A → ℕ → DepthEnd → Type 0
RanBack old new most end = RanBackTo old new (named_stops old.session.program old.session.stops.kept) most end

-- it ran back so by one run after the other, which no stop ended: each but the last came to the limit of moves
pub data RanBackPast {A : Type 0} (old : Recorded A) (most : ℕ) : Recorded A → DepthEnd → Type 0 where
  once : (new : Recorded A) (end : DepthEnd) → RanBackTo old new [] most end → RanBackPast old most new end
  again : (between new : Recorded A) (end : DepthEnd) → RanBackPast old most between (ends.Stopped reasons.Limit) → RanBackTo between new [] most end → RanBackPast old most new end

-- it ran back to where so many calls were open, from which one step makes the next; or stays where it can't come so far
pub record WentToBeginning {A : Type 0} (old new : Recorded A) (most : ℕ) (why : Why) : Type 0 where
  pub before : Recorded A
  pub end : DepthEnd
  pub back : RanBackPast old most before end
  pub last : ((depth before.session.timeline ≡ most) × Commanded before new (commands.Step 1) why)
      ⊎ ((depth before.session.timeline ≢ most) × (new ≡ before) × (why ≡ why_at end))

-- the move that was asked for was made, and the run stands for this
abbrev pub Moves : {A : Type 0} → Motion → Recorded A → Recorded A → Why → Type 0
Moves motions.Step old new why = Commanded old new (commands.Step 1) why
Moves motions.Back old new why = Commanded old new (commands.Back 1) why
Moves motions.Continue old new why = Commanded old new commands.Continue why
Moves motions.Reverse old new why = Commanded old new commands.Reverse why
Moves (motions.ToDepth most) old new why = (end : DepthEnd) × RanTo old new most end × (why ≡ why_at end)
Moves (motions.BackToDepth most) old new why = (end : DepthEnd) × RanBack old new most end × (why ≡ why_at end)
Moves (motions.ToBeginning most) old new why = WentToBeginning old new most why

-- ---- why nothing is done

-- why a line isn't answered, as an editor is told it
abbrev pub failure_of : LineError → Failure
failure_of errors.Newline = failures.Because causes.NewlineInValue
failure_of errors.Quit = failures.Because causes.QuitInConsole
failure_of errors.Full = failures.Because causes.ScriptFull
failure_of errors.OutOfMemory = failures.OutOfMemory

-- a line isn't answered for this, and where memory didn't run out nothing changed
abbrev pub LineFails : {A : Type 0} → Recorded A → Recorded A → List ℕ → Failure → Type 0
LineFails old new line failure = (error : LineError) × (failure ≡ failure_of error) × IsUnanswered old.session old.script line error × Stays old new error

-- the same of a run over calls
abbrev pub RunFails : {A : Type 0} → Recorded A → Recorded A → Failure → Type 0
RunFails old new failure = (error : LineError) × (failure ≡ failure_of error) × HasNoRoom old.session old.script 32 error × Stays old new error

-- no move more is taken: the script has no room for one, or the session made as many as it may
abbrev pub IsFull : {A : Type 0} → Recorded A → Type 0
IsFull now = (2 ^ 24 ≤ length now.script + 32) ⊎ (2 ^ 60 ≤ position now.session.timeline)

-- a move fails as memory runs out, or as no more are taken
abbrev pub MoveFails : {A : Type 0} → Recorded A → Failure → Type 0
MoveFails now failure = (failure ≡ failures.OutOfMemory) ⊎ IsFull now
