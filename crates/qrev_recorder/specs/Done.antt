-- What a recorder's calls did: a line was answered, or a run over calls was made; or why neither was.
use Rattle.std.specs.Prelude.{◌≡◌, ◌⊎◌, ℕ, zero, suc, ◌+◌, ◌^◌, ◌≤◌, true, List, [], ◌++◌, length, Option, Some, None, Result}
use Rattle.qil_commands.specs.Command.{command_of}
use Rattle.qil_commands.specs.declared.command.Command.{Command}
use Rattle.qil_commands.specs.declared.command.Refused.{Refused}
use Rattle.qil_streams.specs.Reader.{IsLine}
use Rattle.qil_semantics.specs.Timeline.{position}
use Rattle.qil_semantics.specs.declared.reason.Reason.{Reason}
use Rattle.qil_semantics.specs.Stops.{Numbered}
use Rattle.qil_stops.specs.Named.{named_stops}
use Rattle.qil_stops.specs.Depths.{RunsToDepth, RunsBackToDepth}
use Rattle.qil_stops.specs.declared.depth_end.DepthEnd.{DepthEnd}
use Rattle.qil_replies.specs.declared.reply.Reply.{Reply}
use Rattle.qil_replies.specs.declared.reply.Reply.TheVariants as replies
use Rattle.qil_replies.specs.SessionState.{SessionState, text_in}
use Rattle.qil_replies.specs.Answers.{Replies, is_quit}
use Rattle.qrev_recorder.specs.declared.done.Done.{Done}
use Rattle.qrev_recorder.specs.declared.done.Done.TheVariants as dones
use Rattle.qrev_recorder.specs.declared.done.LineError.{LineError}
use Rattle.qrev_recorder.specs.declared.done.LineError.TheVariants as errors

-- ---- a line

-- what moves did, by why no more were made, if that is said
abbrev pub moved_or_stopped : Option Reason → Done
moved_or_stopped None = dones.Moved
moved_or_stopped (Some reason) = dones.Stopped reason

-- what a reply says that its line did
abbrev pub done_of : {A : Type 0} → Reply A → Done
done_of (replies.Refused refusal) = dones.Refused refusal
done_of replies.Place = dones.Moved
done_of (replies.Stopped reason) = dones.Stopped reason
done_of (replies.Accesses list reason) = moved_or_stopped reason
done_of (replies.Counts list reason) = moved_or_stopped reason
done_of (replies.Spans list reason) = moved_or_stopped reason
done_of (replies.Added number kind) = dones.Added number
done_of reply = dones.Told

-- What a line says was replied, which left the session so; the text of the reply was put behind the transcript, and this is what
-- the line did.
pub record IsDone {A : Type 0} (old new : SessionState A) (transcript transcript' : List ℕ) (said : Result (Option Command) Refused) (done : Done) : Type 0 where
  pub reply : Reply A
  pub replied : Replies old new said reply
  pub told : transcript' ≡ transcript ++ text_in new reply
  pub done_is : done ≡ done_of reply

-- ---- why nothing is done

-- The script has no room for so many bytes more, or the session made as many moves as it may. Of memory nothing is said.
abbrev pub HasNoRoom : {A : Type 0} → SessionState A → List ℕ → ℕ → LineError → Type 0
HasNoRoom now script n errors.Full = (2 ^ 24 ≤ length script + n) ⊎ (2 ^ 60 ≤ position now.timeline)
HasNoRoom now script n errors.OutOfMemory = Unit {0}
HasNoRoom now script n error = ⊥

-- a line is none, or ends a script, or has no room
abbrev pub IsUnanswered : {A : Type 0} → SessionState A → List ℕ → List ℕ → LineError → Type 0
IsUnanswered now script line errors.Newline = ¬ IsLine line
IsUnanswered now script line errors.Quit = is_quit (command_of line) ≡ true
IsUnanswered now script line error = HasNoRoom now script (length line) error

-- where memory didn't run out nothing changed
abbrev pub Stays : {X : Type 0} → X → X → LineError → Type 0
Stays old new errors.OutOfMemory = Unit {0}
Stays old new error = new ≡ old

-- ---- a run over calls

-- a run that made moves is told by the place
abbrev pub place_told : {A : Type 0} → ℕ → SessionState A → List ℕ
place_told zero now = []
place_told (suc moves) now = text_in now replies.Place

-- the session ran forward until no more calls were open than so many, and ended for this
pub record HasRunTo {A : Type 0} (old new : SessionState A) (transcript transcript' : List ℕ) (most : ℕ) (end : DepthEnd) : Type 0 where
  pub moves : ℕ
  pub run : RunsToDepth old.program (named_stops old.program old.stops.kept) most old.limit old.timeline end moves new.timeline
  pub rest : new ≡ record old { timeline = new.timeline }
  pub told : transcript' ≡ transcript ++ place_told moves new

-- it ran back so, and stopped at these stops
pub record HasRunBack {A : Type 0} (old new : SessionState A) (transcript transcript' : List ℕ) (stops : List Numbered) (most : ℕ) (end : DepthEnd) : Type 0 where
  pub moves : ℕ
  pub run : RunsBackToDepth stops most old.limit old.timeline end moves new.timeline
  pub rest : new ≡ record old { timeline = new.timeline }
  pub told : transcript' ≡ transcript ++ place_told moves new
