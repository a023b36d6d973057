-- The replies to `frames`, by how many moves were made, and by what was noted.
use Rattle.std.proofs.Common.{◌≡◌, refl, sym, ap, ◌∙◌, subst, inl, inr, ◌⊎◌, ℕ, zero, suc, ◌+◌, ◌<◌, ◌≤◌, ◌^◌, ◌||◌, Bool, true, false, cond, List, [], length, Option, Some, None, Result, Ok, Err, arith}
use borrow.Author.Count.{below_more}
use Rattle.qil_tree.specs.declared.tree.Program.{Program}
use Rattle.qil_layout.specs.declared.callee.FuncId.{FuncId}
use Rattle.qil_commands.specs.declared.command.Command.TheVariants as commands
use Rattle.qil_semantics.specs.State.{State}
use Rattle.qil_semantics.specs.Timeline.{Timeline, forward, position, at_end, moved}
use Rattle.qil_semantics.specs.Moves.{least}
use Rattle.qil_semantics.specs.declared.reason.Reason.{Reason}
use Rattle.qil_semantics.specs.declared.reason.Reason.TheVariants.{Memory}
use Rattle.qil_spans.specs.declared.span.Span.{Span}
use Rattle.qil_spans.specs.Spans.{depth_by, ended_by, is_filled, spans_by}
use Rattle.qil_spans.specs.Table.{IsInnermost, IsKept, Kept, after_move, nothing, told_of}
use Rattle.qil_spans.proofs.Keeping.{few_begins, kept_more, kept_none, told_all}
use Rattle.qil_stops.specs.Listed.{Listed}
use Rattle.qil_stops.proofs.OnWay.{moved-position}
use Rattle.qil_stops.proofs.Walks.{least-is}
use Rattle.qil_replies.specs.declared.reply.CommandRefusal.TheVariants.{AtEnd}
use Rattle.qil_replies.specs.declared.reply.Reply.{Reply}
use Rattle.qil_replies.specs.declared.reply.Reply.TheVariants as replies
use Rattle.qil_replies.specs.SessionState.{SessionState, session_at}
use Rattle.qil_replies.specs.Answers.{Replies, answer, is_spanned, span_moves, IsValid}
use Rattle.qil_session.specs.Spanned.{IsSpanned, Spans}
use Rattle.qil_session.proofs.AccessAnswers.{below_next, least-above, moved_more}

-- ---- what is noted

pub spanned_none : {A : Type 0} (s : SessionState A) (d : ℕ) (kept : Kept) → kept ≡ nothing → IsSpanned s d 0 s.timeline kept
unfolding moved
spanned_none s d kept is = record { moves = refl; frames = kept_none s.program s.timeline d kept is; goes = λ j lt. absurd (omega (arith, lt)) }

-- whether it is enough, by the timeline and what is kept
pub spanned_is : {A : Type 0} (s : SessionState A) (d k : ℕ) (now : Timeline) (kept : Kept) (b : Bool) → IsSpanned s d k now kept → (at_end now || is_filled kept.ended) ≡ b → is_spanned s d k ≡ b
spanned_is s d k now kept b way e = (λ i. at_end (sym way.moves i) || is_filled (sym way.frames.ended i)) ∙ e

depth_at : {A : Type 0} (p : Program A) (t now : Timeline) (k depth : ℕ) → now ≡ moved p k t → depth ≡ length now.now.frames → depth ≡ depth_by p t k
depth_at p t now k depth at is = is ∙ ap (λ (u : Timeline). length u.now.frames) at

pub innermost_at : {A : Type 0} (p q : Program A) (s : State) (func : FuncId) → q ≡ p → IsInnermost q s func → IsInnermost p s func
innermost_at {A} p q s func program is = subst (λ (r : Program A). IsInnermost r s func) program is

pub innermost_of : {A : Type 0} (p q : Program A) (s x : State) (func : FuncId) → q ≡ p → x ≡ s → IsInnermost q x func → IsInnermost p s func
innermost_of {A} p q s x func program same is = subst (λ (r : Program A). IsInnermost r s func) program (subst (λ (y : State). IsInnermost q y func) same is)

pub spanned_more : {A : Type 0} (s : SessionState A) (d k at before after : ℕ) (func : FuncId) (now new : Timeline) (kept kept' : Kept) → IsSpanned s d k now kept → (at_end now || is_filled kept.ended) ≡ false → new ≡ forward s.program now
    → before ≡ length now.now.frames → IsInnermost s.program now.now func → after ≡ length new.now.frames → at ≡ position new → kept' ≡ after_move d before after func at kept → IsSpanned s d (k + 1) new kept'
spanned_more {A} s d k at before after func now new kept kept' way goes f from inner to here noted =
    let moves = moved_more s.program k s.timeline now new way.moves f in
    record {
      moves = moves;
      frames = subst (λ (x : Kept). IsKept s.program s.timeline d (k + 1) x) (sym noted)
          (kept_more s.program s.timeline d k at before after func kept way.frames (depth_at s.program s.timeline now k before way.moves from) (depth_at s.program s.timeline new (k + 1) after moves to)
          (here ∙ ap position moves ∙ moved-position s.program (k + 1) s.timeline) (subst (λ (u : Timeline). IsInnermost s.program u.now func) way.moves inner));
      goes = below_more (λ j. is_spanned s d j ≡ false) k way.goes (spanned_is s d k now kept false way goes);
    }

pub spanned_position : {A : Type 0} (s : SessionState A) (d k : ℕ) (now : Timeline) (kept : Kept) → IsSpanned s d k now kept → position now ≡ position s.timeline + k
spanned_position s d k now kept way = ap position way.moves ∙ moved-position s.program k s.timeline

-- no more begin than there are
pub spanned_few : {A : Type 0} (s : SessionState A) (d k : ℕ) (now : Timeline) (kept : Kept) → IsSpanned s d k now kept → length kept.begins ≤ length now.now.frames
spanned_few s d k now kept way =
    let few = few_begins s.program s.timeline d k kept way.frames in
    let here = ap (λ (u : Timeline). length u.now.frames) way.moves in
    omega (arith, few, here)

-- ---- why no more is noted

pub spans_enough : {A : Type 0} (s : SessionState A) (d n k : ℕ) (now : Timeline) (kept : Kept) → IsSpanned s d k now kept → k < n → (at_end now || is_filled kept.ended) ≡ true → Spans s d n now kept false
spans_enough s d n k now kept way lt e = record { count = k; few = omega (arith, lt); so_far = way; ends = λ less. spanned_is s d k now kept true way e }

pub spans_all : {A : Type 0} (s : SessionState A) (d n k : ℕ) (now : Timeline) (kept : Kept) → IsSpanned s d k now kept → k ≡ n → Spans s d n now kept false
spans_all s d n k now kept way e = record { count = k; few = omega (arith, e); so_far = way; ends = λ less. absurd (omega (arith, e, less)) }

pub spans_short : {A : Type 0} (s : SessionState A) (d n k : ℕ) (now new : Timeline) (kept : Kept) → IsSpanned s d k now kept → k < n → (at_end now || is_filled kept.ended) ≡ false → s.moves_want_memory ≡ true → new ≡ now → Spans s d n new kept true
spans_short {A} s d n k now new kept way lt goes wants same = record {
  count = k;
  few = omega (arith, lt);
  so_far = record { moves = same ∙ way.moves; frames = way.frames; goes = way.goes };
  ends = (lt, spanned_is s d k now kept false way goes, wants);
}

pub spans_near : {A : Type 0} (s : SessionState A) (d n : ℕ) (new : Timeline) (kept : Kept) (is_short : Bool) → Spans s d n new kept is_short → n < 2 ^ 32 → position new < position s.timeline + 2 ^ 32
spans_near s d n new kept is_short all small =
    let few = all.few in
    let at = spanned_position s d all.count new kept all.so_far in
    omega (arith, few, at, small)

-- ---- the replies

pub replies_at_end : {A : Type 0} {wants : Bool} (p : Program A) (t : Timeline) (stops : Listed) (limit n d : ℕ) →
    at_end t ≡ true → Replies (session_at wants p t stops limit) (session_at wants p t stops limit) (Ok (Some (commands.Frames n d))) (replies.Refused AtEnd)
unfolding answer IsValid
replies_at_end p t stops limit n d over = record { shortage = None; valid = tt; reply = rw over refl; left = rw over refl }

told_none : {A : Type 0} (p : Program A) (t : Timeline) (d : ℕ) → [] ≡ spans_by p t d 0
unfolding moved
told_none p t d = told_all p t d 0 t.now nothing (kept_none p t d nothing refl) refl

-- there was no memory for the table
pub replies_no_spans : {A : Type 0} {wants : Bool} (p : Program A) (t : Timeline) (stops : Listed) (limit n d : ℕ) (reported : Reply A) →
    at_end t ≡ false → reported ≡ replies.Spans [] (Some Memory) → Replies (session_at wants p t stops limit) (session_at wants p t stops limit) (Ok (Some (commands.Frames n d))) reported
unfolding answer IsValid moved
replies_no_spans {A} p t stops limit n d reported goes said = record {
  shortage = Some 0;
  valid = (goes, inl refl);
  reply = rw goes (said ∙ ap (λ (l : List Span). replies.Spans l (Some Memory)) (told_none p t d));
  left = rw goes refl;
}

-- what is told of the state that was reached
told_is : {A : Type 0} {wants : Bool} (p : Program A) (t u : Timeline) (stops : Listed) (limit n d : ℕ) (kept : Kept) (is_short : Bool) (all : Spans (session_at wants p t stops limit) d n u kept is_short)
    → told_of p u.now kept ≡ spans_by p t d all.count
told_is p t u stops limit n d kept is_short all = told_all p t d all.count u.now kept all.so_far.frames (ap (λ (v : Timeline). v.now) all.so_far.moves)

replies_all : {A : Type 0} {wants : Bool} (p : Program A) (t u : Timeline) (stops : Listed) (limit n d : ℕ) (kept : Kept) →
    at_end t ≡ false → Spans (session_at wants p t stops limit) d n u kept false
    → Replies (session_at wants p t stops limit) (session_at wants p u stops limit) (Ok (Some (commands.Frames n d))) (replies.Spans (told_of p u.now kept) None)
unfolding answer IsValid
replies_all {A} {wants} p t u stops limit n d kept goes all =
    let s = session_at wants p t stops limit in
    let least_is : span_moves s n d ≡ all.count = least-is (is_spanned s d) n all.count all.few all.so_far.goes all.ends in
    record {
      shortage = None;
      valid = tt;
      reply = rw (goes, least_is) (ap (λ (xs : List Span). replies.Spans xs None) (told_is p t u stops limit n d kept false all));
      left = rw (goes, least_is) (ap (λ (v : Timeline). session_at wants p v stops limit) all.so_far.moves);
    }

replies_some : {A : Type 0} {wants : Bool} (p : Program A) (t u : Timeline) (stops : Listed) (limit n d : ℕ) (kept : Kept) →
    at_end t ≡ false → Spans (session_at wants p t stops limit) d n u kept true
    → Replies (session_at wants p t stops limit) (session_at wants p u stops limit) (Ok (Some (commands.Frames n d))) (replies.Spans (told_of p u.now kept) (Some Memory))
unfolding answer IsValid
replies_some {A} {wants} p t u stops limit n d kept goes all =
    let s = session_at wants p t stops limit in
    record {
      shortage = Some all.count;
      valid = (goes, inr (all.ends.2, least-above (is_spanned s d) n all.count all.ends.0 (below_next (is_spanned s d) all.count all.so_far.goes all.ends.1)));
      reply = rw goes (ap (λ (xs : List Span). replies.Spans xs (Some Memory)) (told_is p t u stops limit n d kept true all));
      left = rw goes (ap (λ (v : Timeline). session_at wants p v stops limit) all.so_far.moves);
    }

replies_by : {A : Type 0} {wants : Bool} (p : Program A) (t u : Timeline) (stops : Listed) (limit n d : ℕ) (kept : Kept) (is_short : Bool) →
    at_end t ≡ false → Spans (session_at wants p t stops limit) d n u kept is_short
    → Replies (session_at wants p t stops limit) (session_at wants p u stops limit) (Ok (Some (commands.Frames n d))) (replies.Spans (told_of p u.now kept) (cond is_short (Some Memory) None))
replies_by p t u stops limit n d kept false goes all = replies_all p t u stops limit n d kept goes all
replies_by p t u stops limit n d kept true goes all = replies_some p t u stops limit n d kept goes all

pub replies_spanned : {A : Type 0} {wants : Bool} (p q : Program A) (t u : Timeline) (stops : Listed) (limit n d : ℕ) (kept : Kept) (items : List Span) (is_short : Bool) (reason : Option Reason) →
    at_end t ≡ false → Spans (session_at wants p t stops limit) d n u kept is_short → q ≡ p → items ≡ told_of q u.now kept → reason ≡ cond is_short (Some Memory) None
    → Replies (session_at wants p t stops limit) (session_at wants p u stops limit) (Ok (Some (commands.Frames n d))) (replies.Spans items reason)
replies_spanned {A} {wants} p q t u stops limit n d kept items is_short reason goes all program same why =
    let told : items ≡ told_of p u.now kept = same ∙ ap (λ (r : Program A). told_of r u.now kept) program in
    subst (λ (o : Option Reason). Replies (session_at wants p t stops limit) (session_at wants p u stops limit) (Ok (Some (commands.Frames n d))) (replies.Spans items o)) (sym why)
    (subst (λ (xs : List Span). Replies (session_at wants p t stops limit) (session_at wants p u stops limit) (Ok (Some (commands.Frames n d))) (replies.Spans xs (cond is_short (Some Memory) None))) (sym told)
    (replies_by p t u stops limit n d kept is_short goes all))
