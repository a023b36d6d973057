-- One line more in a record, and what a record is.
use Rattle.std.proofs.Common.{◌≡◌, refl, sym, ap, ◌∙◌, subst, ℕ, List, [], ◌∷◌, ◌++◌, append_assoc, Bool, false, Option, Some, None}
use Rattle.std.specs.Prelude.{unwrap_or}
use Rattle.std.proofs.lemmas.List.{append-nil}
use Rattle.std.specs.Prelude.{Result}
use Rattle.std.specs.Io.KnownBytes.{Appends}
use Rattle.qil_commands.specs.declared.command.Command.{Command}
use Rattle.qil_commands.specs.declared.command.Refused.{Refused}
use Rattle.qil_replies.specs.declared.reply.Reply.TheVariants as replies
use Rattle.qil_streams.specs.Reader.{IsLine}
use Rattle.qil_streams.specs.Script.{lines_of}
use Rattle.qil_streams.proofs.ScriptLemmas.{WholeLines-end}
use Rattle.qil_commands.specs.Command.{command_of}
use Rattle.qil_rules.specs.Verdict.{Verdict}
use Rattle.qil_semantics.specs.State.{State}
use Rattle.qil_semantics.specs.Timeline.{begun}
use Rattle.qil_loading.specs.declared.loaded.Loaded.{Loaded}
use Rattle.qil_replies.specs.declared.reply.Reply.{Reply}
use Rattle.qil_replies.specs.SessionState.{SessionState, text_in}
use Rattle.qil_replies.specs.Answers.{Replies, answer, answer_text, is_quit}
use Rattle.qil_replies.specs.Transcript.{Setup, IsSession, opened, load_lines}
use Rattle.qil_replies.specs.Reached.{Reached}
use Rattle.qil_replies.proofs.ReachedLemmas.{Reached-nil, Reached-line, Reported-answered}
use Rattle.qrev_recorder.specs.Record.{IsBeginning, IsRecording, KeepsMoves}

reply_text_is : {A : Type 0} (old new : SessionState A) (line : List ℕ) (reply : Reply A) (r : Replies old new (command_of line) reply)
    → text_in new reply ≡ answer_text (answer old (command_of line) r.shortage)
reply_text_is {A} old new line reply r =
    ap (λ (said : Reply A). text_in new said) r.reply
    ∙ ap (λ (s : SessionState A). text_in s (answer old (command_of line) r.shortage).reply) r.left

-- a line was answered
pub line_more : {A : Type 0} (s : Setup) (old new : SessionState A) (line : List ℕ) (reply : Reply A) (script script' transcript transcript' : List ℕ)
    → IsRecording s old script transcript → IsLine line → is_quit (command_of line) ≡ false → Replies old new (command_of line) reply
    → script' ≡ script ++ (line ++ 10 ∷ []) → transcript' ≡ transcript ++ text_in new reply → IsRecording s new script' transcript'
line_more s old new line reply script script' transcript transcript' r is_line no_quit replies kept told = record {
  verdict = r.verdict;
  start = r.start;
  begins = r.begins;
  answered = r.answered ++ text_in new reply;
  reached = subst (λ (done : List ℕ). Reached (opened s r.verdict.program r.start) done (r.answered ++ text_in new reply) new) (sym kept)
      (Reached-line _ script r.answered old line replies.shortage (text_in new reply) new r.reached is_line no_quit replies.valid
      (reply_text_is old new line reply replies) replies.left);
  transcript_is = told ∙ ap (λ (t : List ℕ). t ++ text_in new reply) r.transcript_is
      ∙ append_assoc (load_lines r.verdict.program r.verdict.form (begun s.keeps r.start)) r.answered (text_in new reply);
}

-- nothing was answered so far
pub recording_begun : {A : Type 0} (s : Setup) (loaded : Loaded) (now : SessionState A) (b : IsBeginning s loaded now) (transcript : List ℕ)
    → transcript ≡ load_lines b.verdict.program b.verdict.form now.timeline → IsRecording s now [] transcript
recording_begun {A} s loaded now b transcript e = record {
  verdict = b.verdict;
  start = b.start;
  begins = b.begins;
  answered = [];
  reached = subst (λ (there : SessionState A). Reached (opened s b.verdict.program b.start) [] [] there) (sym b.opened_is) (Reached-nil (opened s b.verdict.program b.start));
  transcript_is = e ∙ ap (λ (there : SessionState A). load_lines b.verdict.program b.verdict.form there.timeline) b.opened_is
      ∙ sym (append-nil (load_lines b.verdict.program b.verdict.form (begun s.keeps b.start)));
}

-- what was recorded is a script with its transcript
pub recorded_session : {A : Type 0} (s : Setup) (now : SessionState A) (script transcript : List ℕ) → IsRecording s now script transcript → IsSession A s (lines_of script) transcript
recorded_session s now script transcript r =
    let so_far = Reported-answered _ r.reached.before r.reached.shortages r.answered now r.reached.so_far in
    let lines : lines_of script ≡ r.reached.before = WholeLines-end script r.reached.before r.reached.whole_lines in
    record {
      verdict = r.verdict;
      start = r.start;
      begins = r.begins;
      answered = r.answered;
      answers = rw lines (so_far.0, so_far.1, so_far.2);
      written_is = r.transcript_is;
    }

-- the text that bytes are
pub text_is : (bytes text : List ℕ) (written : Option (List ℕ)) → written ≡ Some bytes → written ≡ Some text → bytes ≡ text
text_is bytes text written e f = ap (λ (o : Option (List ℕ)). unwrap_or o []) (sym e ∙ f)

-- a text was put after nothing, and another after it
pub both_put : (a b c : Option (List ℕ)) (x y : List ℕ) → a ≡ Some [] → Appends a b x → Appends b c y → c ≡ Some (x ++ y)
both_put None b c x y e p q = absurd cc
both_put (Some xs) None c x y e p q = absurd p
both_put (Some xs) (Some ys) None x y e p q = absurd q
both_put (Some xs) (Some ys) (Some zs) x y e p q =
    let none : xs ≡ [] = ap (λ (o : Option (List ℕ)). unwrap_or o []) e in
    ap Some (q ∙ ap (λ (t : List ℕ). t ++ y) (p ∙ ap (λ (t : List ℕ). t ++ x) none))

-- moves that are kept as a line
pub moves_kept : {A : Type 0} (s : Setup) (old new : SessionState A) (said : Result (Option Command) Refused) (script script' transcript transcript' : List ℕ)
    → IsRecording s old script transcript → is_quit said ≡ false → Replies old new said replies.Place
    → KeepsMoves said new script script' transcript transcript' → IsRecording s new script' transcript'
moves_kept s old new said script script' transcript transcript' r no_quit replied kept =
    line_more s old new kept.line replies.Place script script' transcript transcript' r kept.is_line
    (ap is_quit kept.says ∙ no_quit) (subst (λ (what : Result (Option Command) Refused). Replies old new what replies.Place) (sym kept.says) replied) kept.kept kept.told

-- a session that only another timeline was given
pub same_state : {A : Type 0} (s : Setup) (old new : SessionState A) (script transcript : List ℕ) → IsRecording s old script transcript → new ≡ old → IsRecording s new script transcript
same_state {A} s old new script transcript r e = subst (λ (there : SessionState A). IsRecording s there script transcript) (sym e) r
