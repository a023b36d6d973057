-- The replies to commands that change nothing and to lines that spell none, and an answer by its reply.
use Rattle.std.proofs.Common.{◌≡◌, refl, sym, ap, ◌∙◌, subst, ℕ, List, Option, Some, None, Result, Ok, Err}
use Rattle.qil_commands.specs.declared.command.Address.{Address}
use Rattle.qil_commands.specs.declared.command.Command.{Command}
use Rattle.qil_commands.specs.declared.command.Command.TheVariants as commands
use Rattle.qil_commands.specs.declared.command.Refused.{Refused}
use Rattle.qil_streams.specs.Device.{Puts}
use Rattle.qil_semantics.specs.State.{Name}
use Rattle.qil_replies.specs.declared.reply.CommandRefusal.TheVariants.{Line}
use Rattle.qil_replies.specs.declared.reply.Reply.{Reply}
use Rattle.qil_replies.specs.declared.reply.Reply.TheVariants as replies
use Rattle.qil_replies.specs.SessionState.{SessionState, resolved_address, text_in}
use Rattle.qil_replies.specs.Answers.{Answers, Replies, answer, answer_text, IsValid, memory_reply}

pub replies_stops : {A : Type 0} (s : SessionState A) → Replies s s (Ok (Some commands.Stops)) replies.Stops
unfolding answer IsValid
replies_stops s = record { shortage = None; valid = tt; reply = refl; left = refl }

pub replies_print : {A : Type 0} (s : SessionState A) (x : Name) → Replies s s (Ok (Some (commands.Print x))) (replies.Temporary x)
unfolding answer IsValid
replies_print s x = record { shortage = None; valid = tt; reply = refl; left = refl }

pub replies_temps : {A : Type 0} (s : SessionState A) → Replies s s (Ok (Some commands.Temps)) replies.Temporaries
unfolding answer IsValid
replies_temps s = record { shortage = None; valid = tt; reply = refl; left = refl }

pub replies_mem : {A : Type 0} (s : SessionState A) (at : Address) (n : ℕ) (reported : Reply A) → reported ≡ memory_reply n (resolved_address s.program at) → Replies s s (Ok (Some (commands.Mem at n))) reported
unfolding answer IsValid
replies_mem s at n reported is = record { shortage = None; valid = tt; reply = is; left = refl }

pub replies_where : {A : Type 0} (s : SessionState A) → Replies s s (Ok (Some commands.Where)) replies.Frames
unfolding answer IsValid
replies_where s = record { shortage = None; valid = tt; reply = refl; left = refl }

pub replies_list : {A : Type 0} (s : SessionState A) → Replies s s (Ok (Some commands.List)) replies.Block
unfolding answer IsValid
replies_list s = record { shortage = None; valid = tt; reply = refl; left = refl }

pub replies_out : {A : Type 0} (s : SessionState A) → Replies s s (Ok (Some commands.Out)) replies.Output
unfolding answer IsValid
replies_out s = record { shortage = None; valid = tt; reply = refl; left = refl }

pub replies_quit : {A : Type 0} (s : SessionState A) → Replies s s (Ok (Some commands.Quit)) replies.Nothing
unfolding answer IsValid
replies_quit s = record { shortage = None; valid = tt; reply = refl; left = refl }

pub replies_nothing : {A : Type 0} (s : SessionState A) → Replies s s (Ok None) replies.Nothing
unfolding answer IsValid
replies_nothing s = record { shortage = None; valid = tt; reply = refl; left = refl }

pub replies_refusal : {A : Type 0} (s : SessionState A) (refused : Refused) → Replies s s (Err refused) (replies.Refused (Line refused))
unfolding answer IsValid
replies_refusal s refused = record { shortage = None; valid = tt; reply = refl; left = refl }

-- what was put is the text of the reply, in the session that is left
pub answers_by : {A T E : Type 0} (old new : SessionState A) (said : Result (Option Command) Refused) (reported : Reply A) (r : Result T E) (a b : Option (List ℕ)) →
    Replies old new said reported → Puts r a b (text_in new reported) → Answers old new said r a b
answers_by {A} old new said reported r a b is text =
    let one = answer old said is.shortage in
    let there = subst (λ (s : SessionState A). Puts r a b (text_in s reported)) is.left text in
    record {
      shortage = is.shortage;
      valid = is.valid;
      text = subst (λ (x : Reply A). Puts r a b (text_in one.left x)) is.reply there;
      left = is.left;
    }
