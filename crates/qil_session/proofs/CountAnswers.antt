-- The replies to `counts`, by how many moves were made, and by what was counted.
use Rattle.std.proofs.Common.{◌≡◌, refl, sym, ap, ◌∙◌, subst, inl, inr, ◌⊎◌, ℕ, zero, suc, ◌+◌, ◌<◌, ◌≤◌, ◌^◌, ◌||◌, Bool, true, false, cond, List, [], length, Option, Some, None, Result, Ok, Err, arith}
use Rattle.std.specs.Prelude.{map}
use Rattle.std.specs.List.{filter}
use borrow.Author.Count.{below_more}
use Rattle.qil_tree.specs.declared.tree.Program.{Program}
use Rattle.qil_commands.specs.declared.command.Command.TheVariants as commands
use Rattle.qil_semantics.specs.State.{State, is_final}
use Rattle.qil_semantics.specs.Timeline.{Timeline, forward, position, at_end, moved}
use Rattle.qil_semantics.specs.Moves.{least}
use Rattle.qil_semantics.specs.declared.reason.Reason.{Reason}
use Rattle.qil_semantics.specs.declared.reason.Reason.TheVariants.{Memory}
use Rattle.qil_counts.specs.declared.count.CodePlace.{CodePlace}
use Rattle.qil_counts.specs.declared.count.Count.{Count}
use Rattle.qil_counts.specs.Counts.{IsHere, counts_by, is_filled, is_met, met_by, one_more, places, unmet_all}
use Rattle.qil_counts.specs.Rows.{AreFew}
use Rattle.qil_counts.proofs.Counting.{counts_few, counts_more, counts_none, met_none}
use Rattle.qil_stops.specs.Listed.{Listed}
use Rattle.qil_stops.proofs.OnWay.{moved-position}
use Rattle.qil_stops.proofs.Walks.{least-is}
use Rattle.qil_replies.specs.declared.reply.CommandRefusal.TheVariants.{AtEnd}
use Rattle.qil_replies.specs.declared.reply.Reply.{Reply}
use Rattle.qil_replies.specs.declared.reply.Reply.TheVariants as replies
use Rattle.qil_replies.specs.SessionState.{SessionState, session_at}
use Rattle.qil_replies.specs.Answers.{Replies, answer, count_moves, is_counted, IsValid}
use Rattle.qil_session.specs.Counted.{IsCounted, Counts}
use Rattle.qil_session.proofs.AccessAnswers.{below_next, least-above, moved_more}

-- ---- what is counted

pub counted_none : {A : Type 0} (s : SessionState A) (list : List Count) → list ≡ unmet_all (places s.program) → IsCounted s 0 s.timeline list
unfolding moved
counted_none s list is = record { moves = refl; list_is = is ∙ counts_none s.program s.timeline; goes = λ j lt. absurd (omega (arith, lt)) }

-- whether it is enough, by the timeline and the counts
pub counted_is : {A : Type 0} (s : SessionState A) (k : ℕ) (now : Timeline) (list : List Count) (b : Bool) → IsCounted s k now list → (at_end now || is_filled list) ≡ b → is_counted s k ≡ b
counted_is s k now list b way e = (λ i. at_end (sym way.moves i) || is_filled (sym way.list_is i)) ∙ e

-- what is known of a machine is so of the state and the program that it is of
pub here_at : {A : Type 0} (p q : Program A) (s x : State) (here : Option CodePlace) → q ≡ p → x ≡ s → IsHere q x here → IsHere p s here
here_at {A} p q s x here program same is = subst (λ (r : Program A). IsHere r s here) program (subst (λ (y : State). IsHere q y here) same is)

pub counted_more : {A : Type 0} (s : SessionState A) (k : ℕ) (now new : Timeline) (list list' : List Count) (here : Option CodePlace) → IsCounted s k now list → (at_end now || is_filled list) ≡ false → new ≡ forward s.program now
    → IsHere s.program now.now here → list' ≡ map (one_more here) list → IsCounted s (k + 1) new list'
counted_more {A} s k now new list list' here way goes f is added = record {
  moves = moved_more s.program k s.timeline now new way.moves f;
  list_is = added ∙ ap (map (one_more here)) way.list_is ∙ counts_more s.program s.timeline k now.now here (ap (λ (t : Timeline). t.now) way.moves) is;
  goes = below_more (λ j. is_counted s j ≡ false) k way.goes (counted_is s k now list false way goes);
}

pub counted_few : {A : Type 0} (s : SessionState A) (k : ℕ) (now : Timeline) (list : List Count) → IsCounted s k now list → k < 2 ^ 63 → AreFew list
counted_few s k now list way small = subst (λ (l : List Count). AreFew l) (sym way.list_is) (counts_few s.program s.timeline k small)

pub counted_position : {A : Type 0} (s : SessionState A) (k : ℕ) (now : Timeline) (list : List Count) → IsCounted s k now list → position now ≡ position s.timeline + k
counted_position s k now list way = ap position way.moves ∙ moved-position s.program k s.timeline

-- ---- why no more is counted

pub counts_enough : {A : Type 0} (s : SessionState A) (n k : ℕ) (now : Timeline) (list : List Count) → IsCounted s k now list → k < n → (at_end now || is_filled list) ≡ true → Counts s n now list false
counts_enough s n k now list way lt e = record { count = k; few = omega (arith, lt); so_far = way; ends = λ less. counted_is s k now list true way e }

pub counts_all : {A : Type 0} (s : SessionState A) (n k : ℕ) (now : Timeline) (list : List Count) → IsCounted s k now list → k ≡ n → Counts s n now list false
counts_all s n k now list way e = record { count = k; few = omega (arith, e); so_far = way; ends = λ less. absurd (omega (arith, e, less)) }

pub counts_short : {A : Type 0} (s : SessionState A) (n k : ℕ) (now new : Timeline) (list : List Count) → IsCounted s k now list → k < n → (at_end now || is_filled list) ≡ false → s.moves_want_memory ≡ true → new ≡ now → Counts s n new list true
counts_short {A} s n k now new list way lt goes wants same = record {
  count = k;
  few = omega (arith, lt);
  so_far = record { moves = same ∙ way.moves; list_is = way.list_is; goes = way.goes };
  ends = (lt, counted_is s k now list false way goes, wants);
}

pub counts_near : {A : Type 0} (s : SessionState A) (n : ℕ) (new : Timeline) (list : List Count) (is_short : Bool) → Counts s n new list is_short → n < 2 ^ 32 → position new < position s.timeline + 2 ^ 32
counts_near s n new list is_short all small =
    let few = all.few in
    let at = counted_position s all.count new list all.so_far in
    omega (arith, few, at, small)

-- ---- the replies

pub replies_at_end : {A : Type 0} {wants : Bool} (p : Program A) (t : Timeline) (stops : Listed) (limit n : ℕ) →
    at_end t ≡ true → Replies (session_at wants p t stops limit) (session_at wants p t stops limit) (Ok (Some (commands.Counts n))) (replies.Refused AtEnd)
unfolding answer IsValid
replies_at_end p t stops limit n over = record { shortage = None; valid = tt; reply = rw over refl; left = rw over refl }

-- there was no memory for the table
pub replies_no_table : {A : Type 0} {wants : Bool} (p : Program A) (t : Timeline) (stops : Listed) (limit n : ℕ) (reported : Reply A) →
    at_end t ≡ false → reported ≡ replies.Counts [] (Some Memory) → Replies (session_at wants p t stops limit) (session_at wants p t stops limit) (Ok (Some (commands.Counts n))) reported
unfolding answer IsValid moved
replies_no_table {A} p t stops limit n reported goes said = record {
  shortage = Some 0;
  valid = (goes, inl refl);
  reply = rw goes (said ∙ ap (λ (l : List Count). replies.Counts l (Some Memory)) (met_none p t));
  left = rw goes refl;
}

replies_all : {A : Type 0} {wants : Bool} (p : Program A) (t u : Timeline) (stops : Listed) (limit n : ℕ) (list : List Count) →
    at_end t ≡ false → Counts (session_at wants p t stops limit) n u list false
    → Replies (session_at wants p t stops limit) (session_at wants p u stops limit) (Ok (Some (commands.Counts n))) (replies.Counts (filter is_met list) None)
unfolding answer IsValid
replies_all {A} {wants} p t u stops limit n list goes all =
    let s = session_at wants p t stops limit in
    let least_is : count_moves s n ≡ all.count = least-is (is_counted s) n all.count all.few all.so_far.goes all.ends in
    record {
      shortage = None;
      valid = tt;
      reply = rw (goes, least_is) (ap (λ (xs : List Count). replies.Counts (filter is_met xs) None) all.so_far.list_is);
      left = rw (goes, least_is) (ap (λ (v : Timeline). session_at wants p v stops limit) all.so_far.moves);
    }

replies_some : {A : Type 0} {wants : Bool} (p : Program A) (t u : Timeline) (stops : Listed) (limit n : ℕ) (list : List Count) →
    at_end t ≡ false → Counts (session_at wants p t stops limit) n u list true
    → Replies (session_at wants p t stops limit) (session_at wants p u stops limit) (Ok (Some (commands.Counts n))) (replies.Counts (filter is_met list) (Some Memory))
unfolding answer IsValid
replies_some {A} {wants} p t u stops limit n list goes all =
    let s = session_at wants p t stops limit in
    record {
      shortage = Some all.count;
      valid = (goes, inr (all.ends.2, least-above (is_counted s) n all.count all.ends.0 (below_next (is_counted s) all.count all.so_far.goes all.ends.1)));
      reply = rw goes (ap (λ (xs : List Count). replies.Counts (filter is_met xs) (Some Memory)) all.so_far.list_is);
      left = rw goes (ap (λ (v : Timeline). session_at wants p v stops limit) all.so_far.moves);
    }

replies_by : {A : Type 0} {wants : Bool} (p : Program A) (t u : Timeline) (stops : Listed) (limit n : ℕ) (list : List Count) (is_short : Bool) →
    at_end t ≡ false → Counts (session_at wants p t stops limit) n u list is_short
    → Replies (session_at wants p t stops limit) (session_at wants p u stops limit) (Ok (Some (commands.Counts n))) (replies.Counts (filter is_met list) (cond is_short (Some Memory) None))
replies_by p t u stops limit n list false goes all = replies_all p t u stops limit n list goes all
replies_by p t u stops limit n list true goes all = replies_some p t u stops limit n list goes all

pub replies_counted : {A : Type 0} {wants : Bool} (p : Program A) (t u : Timeline) (stops : Listed) (limit n : ℕ) (list items : List Count) (is_short : Bool) (reason : Option Reason) →
    at_end t ≡ false → Counts (session_at wants p t stops limit) n u list is_short → items ≡ filter is_met list → reason ≡ cond is_short (Some Memory) None
    → Replies (session_at wants p t stops limit) (session_at wants p u stops limit) (Ok (Some (commands.Counts n))) (replies.Counts items reason)
replies_counted {A} {wants} p t u stops limit n list items is_short reason goes all same why =
    subst (λ (o : Option Reason). Replies (session_at wants p t stops limit) (session_at wants p u stops limit) (Ok (Some (commands.Counts n))) (replies.Counts items o)) (sym why)
    (subst (λ (xs : List Count). Replies (session_at wants p t stops limit) (session_at wants p u stops limit) (Ok (Some (commands.Counts n))) (replies.Counts xs (cond is_short (Some Memory) None))) (sym same)
    (replies_by p t u stops limit n list is_short goes all))
