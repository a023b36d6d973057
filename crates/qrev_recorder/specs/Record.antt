-- What a recorder keeps: a script of lines that were answered, and the transcript that it has.
use Rattle.std.specs.Prelude.{◌≡◌, ℕ, Bool, true, false, List, [], ◌∷◌, ◌++◌, Option, Some, None, Result}
use Rattle.qil_rules.specs.Verdict.{Verdict}
use Rattle.qil_semantics.specs.State.{State}
use Rattle.qil_semantics.specs.Timeline.{begun}
use Rattle.qil_loading.specs.Lines.{IsLoaded}
use Rattle.qil_loading.specs.declared.loaded.Loaded.{Loaded}
use Rattle.qil_commands.specs.Command.{command_of}
use Rattle.qil_commands.specs.declared.command.Command.{Command}
use Rattle.qil_commands.specs.declared.command.Refused.{Refused}
use Rattle.qil_streams.specs.Reader.{IsLine}
use Rattle.qil_replies.specs.declared.reply.Reply.TheVariants as replies
use Rattle.qil_replies.specs.SessionState.{SessionState, text_in}
use Rattle.qil_replies.specs.Transcript.{Setup, Begins, opened, load_lines}
use Rattle.qil_replies.specs.Reached.{Reached}
use Rattle.qrev_recorder.specs.declared.recorder.Opening.{Opening}

-- where copies are kept, in so many bytes, no move wants memory; undo records want some
abbrev pub moves_want_memory : Option ℕ → Bool
moves_want_memory None = true
moves_want_memory (Some budget) = false

-- what `debug` is given for the same session
abbrev pub setup_of : Opening → Setup
setup_of o = record { text = o.text.now; entry = o.entry.now; args = o.args.now; limit = o.limit; keeps = o.bound; moves_want_memory = moves_want_memory o.budget }

-- a session at the start of an accepted text
pub record IsBeginning {A : Type 0} (s : Setup) (loaded : Loaded) (state : SessionState A) : Type 0 where
  pub verdict : Verdict A
  pub start : State
  pub begins : Begins s verdict start
  pub loaded_is : IsLoaded loaded verdict
  pub opened_is : state ≡ opened s verdict.program start

-- From the start of a session the lines of a script were answered, none of which quits, and left it so; whatever line comes next.
pub record IsRecording {A : Type 0} (s : Setup) (now : SessionState A) (script transcript : List ℕ) : Type 0 where
  pub verdict : Verdict A
  pub start : State
  pub begins : Begins s verdict start
  pub answered : List ℕ
  pub reached : Reached (opened s verdict.program start) script answered now
  pub transcript_is : transcript ≡ load_lines verdict.program verdict.form (begun s.keeps start) ++ answered

-- A line was added to a script, and to the transcript the place of the session that it left.
pub record KeepsMoves {A : Type 0} (said : Result (Option Command) Refused) (now : SessionState A) (script script' transcript transcript' : List ℕ) : Type 0 where
  pub line : List ℕ
  pub is_line : IsLine line
  pub says : command_of line ≡ said
  pub kept : script' ≡ script ++ (line ++ 10 ∷ [])
  pub told : transcript' ≡ transcript ++ text_in now replies.Place
