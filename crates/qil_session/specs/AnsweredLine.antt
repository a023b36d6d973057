-- What answering a line does to a session, where a `quit` ends it.
use Rattle.std.specs.Prelude.{◌≡◌, ℕ, true, false, List, Option, Result, Ok, Err}
use Rattle.qil_commands.specs.declared.command.Command.{Command}
use Rattle.qil_commands.specs.declared.command.Refused.{Refused}
use Rattle.qil_replies.specs.SessionState.{SessionState}
use Rattle.qil_replies.specs.Answers.{Answers, is_quit}
use Rattle.qil_session.specs.declared.session.Next.{Next}
use Rattle.qil_session.specs.declared.session.Next.TheVariants.{Go, Quit}

-- what `answer_line` did: one line was answered, or it was a `quit`, at which the session stays
abbrev pub AnswersLine : {A E : Type 0} → Result Next E → SessionState A → SessionState A → Result (Option Command) Refused → Option (List ℕ) → Option (List ℕ) → Type 0
AnswersLine {A} {E} (Ok Quit) old new said before after = (is_quit said ≡ true) × (after ≡ before) × (new ≡ old)
AnswersLine {A} {E} (Ok Go) old new said before after = (is_quit said ≡ false) × Answers {T = Next} {E = E} old new said (Ok Go) before after
AnswersLine {A} {E} (Err e) old new said before after = (is_quit said ≡ false) × Answers {T = Next} {E = E} old new said (Err e) before after
