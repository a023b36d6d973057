-- The replies to `accesses`, by how many moves were made, and by what was gathered.
use Rattle.std.proofs.Common.{◌≡◌, refl, sym, ap, ◌∙◌, subst, inl, inr, ◌⊎◌, ℕ, zero, suc, ◌+◌, ◌<◌, ◌≤◌, ◌^◌, ◌||◌, Bool, true, false, cond, List, [], ◌++◌, length, Option, Some, None, Result, Ok, Err, arith}
use Rattle.std.specs.Prelude.{if◌then◌else◌}
use Rattle.std.specs.List.{filter}
use Rattle.std.proofs.lemmas.Bool.{cond-false, true≢false}
use borrow.Author.Count.{below_more}
use Rattle.qil_tree.specs.declared.tree.Program.{Program}
use Rattle.qil_commands.specs.declared.command.Address.{Address}
use Rattle.qil_commands.specs.declared.command.Command.TheVariants.{Accesses}
use Rattle.qil_semantics.specs.State.{State}
use Rattle.qil_semantics.specs.Step.{step_of}
use Rattle.qil_semantics.specs.Timeline.{Timeline, forward, position, at_end, moved}
use Rattle.qil_semantics.specs.Moves.{least, forward_by}
use Rattle.qil_semantics.specs.declared.reason.Reason.{Reason}
use Rattle.qil_semantics.specs.declared.reason.Reason.TheVariants.{Memory}
use Rattle.qil_accesses.specs.declared.access.Access.{Access}
use Rattle.qil_accesses.specs.declared.ahead.Ahead.{Ahead}
use Rattle.qil_accesses.specs.Accesses.{accesses_to, accesses_next, accesses_by, is_filled, touches}
use Rattle.qil_accesses.specs.Ahead.{IsAhead}
use Rattle.qil_stops.specs.Listed.{Listed}
use Rattle.qil_stops.proofs.OnWay.{moved-position}
use Rattle.qil_stops.proofs.Walks.{least-is}
use Rattle.qil_replies.specs.declared.reply.CommandRefusal.TheVariants.{AtEnd, UnknownPlace}
use Rattle.qil_replies.specs.declared.reply.Reply.{Reply}
use Rattle.qil_replies.specs.declared.reply.Reply.TheVariants as replies
use Rattle.qil_replies.specs.SessionState.{SessionState, session_at, resolved_address}
use Rattle.qil_replies.specs.Answers.{Answer, Replies, answer, accessed, accesses_answer, access_moves, is_enough, refuses, IsValid}
use Rattle.qil_session.specs.Gathered.{IsGathered, Gathers}

-- ---- one move

-- up to one move from a state that isn't final
one_move : {A : Type 0} (p : Program A) (t : Timeline) → at_end t ≡ false → least (λ k. at_end (moved p k t)) 1 ≡ 1
unfolding moved
one_move p t goes = least-is (λ k. at_end (moved p k t)) 1 1 (omega arith) (λ j lt. by j lt) (λ lt. absurd (omega (arith, lt)))
  where
    by : (j : ℕ) → j < 1 → at_end (moved p j t) ≡ false
    by zero lt = goes
    by (suc j) lt = absurd (omega (arith, lt))

pub forward_once : {A : Type 0} (p : Program A) (t : Timeline) → at_end t ≡ false → forward_by p 1 t ≡ forward p t
unfolding moved
forward_once p t goes = ap (λ k. moved p k t) (one_move p t goes)

pub forward_none : {A : Type 0} (p : Program A) (k : ℕ) (t : Timeline) → k < 1 → forward_by p k t ≡ t
unfolding moved least
forward_none p zero t lt = refl
forward_none p (suc k) t lt = absurd (omega (arith, lt))

pub moved_more : {A : Type 0} (p : Program A) (k : ℕ) (t now new : Timeline) → now ≡ moved p k t → new ≡ forward p now → new ≡ moved p (k + 1) t
unfolding moved
moved_more p k t now new e f =
    let one : k + 1 ≡ suc k = omega arith in
    f ∙ (ap (λ (u : Timeline). forward p u) e ∙ ap (λ n. moved p n t) (sym one))

-- ---- what is gathered

pub gathered_none : {A : Type 0} (s : SessionState A) (a m : ℕ) (list : List Access) → list ≡ [] → IsGathered s a m 0 s.timeline list
unfolding moved accesses_by
gathered_none s a m list empty = record { moves = refl; list_is = empty; goes = λ j lt. absurd (omega (arith, lt)) }

-- whether it is enough, by the timeline and the list
enough_at : {A : Type 0} (s : SessionState A) (a m k : ℕ) (now : Timeline) (list : List Access) → IsGathered s a m k now list → is_enough s a m k ≡ (at_end now || is_filled list)
enough_at s a m k now list way = λ i. at_end (sym way.moves i) || is_filled (sym way.list_is i)

pub enough_is : {A : Type 0} (s : SessionState A) (a m k : ℕ) (now : Timeline) (list : List Access) (b : Bool) → IsGathered s a m k now list → (at_end now || is_filled list) ≡ b → is_enough s a m k ≡ b
enough_is s a m k now list b way e = enough_at s a m k now list way ∙ e

accesses_more : {A : Type 0} (p : Program A) (a m k : ℕ) (t : Timeline) → accesses_by p a m t (k + 1) ≡ accesses_by p a m t k ++ accesses_next p a m (moved p k t)
unfolding accesses_by
accesses_more p a m k t = let one : k + 1 ≡ suc k = omega arith in ap (λ n. accesses_by p a m t n) one

pub gathered_more : {A : Type 0} (s : SessionState A) (a m k : ℕ) (now new : Timeline) (list list' : List Access) (at : ℕ) → IsGathered s a m k now list → (at_end now || is_filled list) ≡ false → new ≡ forward s.program now
    → at ≡ position now → list' ≡ list ++ filter (touches a m) (accesses_to s.program at now.now new.now) → IsGathered s a m (k + 1) new list'
gathered_more {A} s a m k now new list list' at way goes f here added =
    let after : new.now ≡ step_of s.program now.now = ap (λ (x : Timeline). x.now) f in
    let next : filter (touches a m) (accesses_to s.program at now.now new.now) ≡ accesses_next s.program a m (moved s.program k s.timeline) =
    (λ i. filter (touches a m) (accesses_to s.program (here i) now.now (after i))) ∙ ap (accesses_next s.program a m) way.moves in
    record {
      moves = moved_more s.program k s.timeline now new way.moves f;
      list_is = added ∙ (λ i. way.list_is i ++ next i) ∙ sym (accesses_more s.program a m k s.timeline);
      goes = below_more (λ j. is_enough s a m j ≡ false) k way.goes (enough_is s a m k now list false way goes);
    }

pub gathered_position : {A : Type 0} (s : SessionState A) (a m k : ℕ) (now : Timeline) (list : List Access) → IsGathered s a m k now list → position now ≡ position s.timeline + k
gathered_position s a m k now list way = ap position way.moves ∙ moved-position s.program k s.timeline

pub either_goes : (b c : Bool) → (b || c) ≡ false → b ≡ false
either_goes true c e = absurd (true≢false e)
either_goes false c e = refl

pub either_room : (b c : Bool) → (b || c) ≡ false → c ≡ false
either_room true c e = absurd (true≢false e)
either_room false c e = e

pub runs_on : (now : Timeline) (list : List Access) → (at_end now || is_filled list) ≡ false → at_end now ≡ false
runs_on now list e = either_goes (at_end now) (is_filled list) e

pub has_room : (now : Timeline) (list : List Access) → (at_end now || is_filled list) ≡ false → is_filled list ≡ false
has_room now list e = either_room (at_end now) (is_filled list) e

-- what is known of a machine is so of the state and the program that it is of
pub ahead_at : {A : Type 0} (p q : Program A) (s x : State) (ahead : Ahead) → q ≡ p → x ≡ s → IsAhead q x ahead → IsAhead p s ahead
ahead_at {A} p q s x ahead program same is = subst (λ (r : Program A). IsAhead r s ahead) program (subst (λ (y : State). IsAhead q y ahead) same is)

pub noted_at : {A : Type 0} (p q : Program A) (a m at : ℕ) (s t x : State) (ahead : Ahead) (list list' : List Access) → q ≡ p → x ≡ t → IsAhead p s ahead
    → ((y : State) → IsAhead q y ahead → list' ≡ list ++ filter (touches a m) (accesses_to q at y x)) → list' ≡ list ++ filter (touches a m) (accesses_to p at s t)
noted_at {A} p q a m at s t x ahead list list' program same is noted =
    noted s (subst (λ (r : Program A). IsAhead r s ahead) (sym program) is) ∙ (λ i. list ++ filter (touches a m) (accesses_to (program i) at s (same i)))

-- ---- why no more is gathered

pub gathers_enough : {A : Type 0} (s : SessionState A) (a m n k : ℕ) (now : Timeline) (list : List Access) → IsGathered s a m k now list → k < n → (at_end now || is_filled list) ≡ true → Gathers s a m n now list false
gathers_enough s a m n k now list way lt e = record { count = k; few = omega (arith, lt); so_far = way; ends = λ less. enough_is s a m k now list true way e }

pub gathers_all : {A : Type 0} (s : SessionState A) (a m n k : ℕ) (now : Timeline) (list : List Access) → IsGathered s a m k now list → k ≡ n → Gathers s a m n now list false
gathers_all s a m n k now list way e = record { count = k; few = omega (arith, e); so_far = way; ends = λ less. absurd (omega (arith, e, less)) }

pub gathers_short : {A : Type 0} (s : SessionState A) (a m n k : ℕ) (now new : Timeline) (list : List Access) → IsGathered s a m k now list → k < n → (at_end now || is_filled list) ≡ false → s.moves_want_memory ≡ true → new ≡ now
    → Gathers s a m n new list true
gathers_short {A} s a m n k now new list way lt goes wants same = record {
  count = k;
  few = omega (arith, lt);
  so_far = record { moves = same ∙ way.moves; list_is = way.list_is; goes = way.goes };
  ends = (lt, enough_is s a m k now list false way goes, wants);
}

pub gathers_near : {A : Type 0} (s : SessionState A) (a m n : ℕ) (new : Timeline) (list : List Access) (is_short : Bool) → Gathers s a m n new list is_short → n < 2 ^ 32 → position new < position s.timeline + 2 ^ 32
gathers_near s a m n new list is_short all small =
    let few = all.few in
    let at = gathered_position s a m all.count new list all.so_far in
    omega (arith, few, at, small)

-- ---- the replies

-- no number up to k holds, so the least is above it
pub least-above : (test : ℕ → Bool) (n k : ℕ) → k < n → ((j : ℕ) → j < suc k → test j ≡ false) → k < least test n
unfolding least
least-above test zero k lt below = absurd (omega (arith, lt))
least-above test (suc n) zero lt below =
    subst (λ i. zero < i) (sym (cond-false (test zero) zero (suc (least (λ k. test (suc k)) n)) (below zero (omega arith)))) (omega arith)
least-above test (suc n) (suc k) lt below =
    let deep : k < least (λ j. test (suc j)) n = least-above (λ j. test (suc j)) n k (omega (arith, lt)) (λ j less. below (suc j) (omega (arith, less))) in
    subst (λ i. suc k < i) (sym (cond-false (test zero) zero (suc (least (λ j. test (suc j)) n)) (below zero (omega arith)))) (omega (arith, deep))

pub below_next : (test : ℕ → Bool) (k : ℕ) → ((j : ℕ) → j < k → test j ≡ false) → test k ≡ false → (j : ℕ) → j < suc k → test j ≡ false
below_next test k below here j lt = below_more (λ i. test i ≡ false) k below here j (omega (arith, lt))

pub replies_over : {A : Type 0} {wants : Bool} (p : Program A) (t : Timeline) (stops : Listed) (limit n m : ℕ) (at : Address) →
    at_end t ≡ true → Replies (session_at wants p t stops limit) (session_at wants p t stops limit) (Ok (Some (Accesses n at m))) (replies.Refused AtEnd)
unfolding answer IsValid
replies_over p t stops limit n m at over = record { shortage = None; valid = tt; reply = rw over refl; left = rw over refl }

pub replies_unknown : {A : Type 0} {wants : Bool} (p : Program A) (t : Timeline) (stops : Listed) (limit n m : ℕ) (at : Address) →
    at_end t ≡ false → resolved_address p at ≡ None → Replies (session_at wants p t stops limit) (session_at wants p t stops limit) (Ok (Some (Accesses n at m))) (replies.Refused UnknownPlace)
unfolding answer IsValid
replies_unknown p t stops limit n m at goes is = record { shortage = None; valid = tt; reply = rw (goes, is) refl; left = rw (goes, is) refl }

-- there was no memory for the list
pub replies_no_list : {A : Type 0} {wants : Bool} (p : Program A) (t : Timeline) (stops : Listed) (limit n m : ℕ) (at : Address) (a : ℕ) (reported : Reply A) →
    at_end t ≡ false → resolved_address p at ≡ Some a → reported ≡ replies.Accesses [] (Some Memory)
    → Replies (session_at wants p t stops limit) (session_at wants p t stops limit) (Ok (Some (Accesses n at m))) reported
unfolding answer IsValid moved accesses_by
replies_no_list p t stops limit n m at a reported goes is said = record { shortage = Some 0; valid = (goes, a, is, inl refl); reply = rw (goes, is) said; left = rw (goes, is) refl }

replies_all : {A : Type 0} {wants : Bool} (p : Program A) (t u : Timeline) (stops : Listed) (limit n m : ℕ) (at : Address) (a : ℕ) (list : List Access) →
    at_end t ≡ false → resolved_address p at ≡ Some a → Gathers (session_at wants p t stops limit) a m n u list false
    → Replies (session_at wants p t stops limit) (session_at wants p u stops limit) (Ok (Some (Accesses n at m))) (replies.Accesses list None)
unfolding answer IsValid
replies_all {A} {wants} p t u stops limit n m at a list goes is all =
    let s = session_at wants p t stops limit in
    let least_is : access_moves s n a m ≡ all.count = least-is (is_enough s a m) n all.count all.few all.so_far.goes all.ends in
    record {
      shortage = None;
      valid = tt;
      reply = rw (goes, is, least_is) (ap (λ (xs : List Access). replies.Accesses xs None) all.so_far.list_is);
      left = rw (goes, is, least_is) (ap (λ (v : Timeline). session_at wants p v stops limit) all.so_far.moves);
    }

replies_some : {A : Type 0} {wants : Bool} (p : Program A) (t u : Timeline) (stops : Listed) (limit n m : ℕ) (at : Address) (a : ℕ) (list : List Access) →
    at_end t ≡ false → resolved_address p at ≡ Some a → Gathers (session_at wants p t stops limit) a m n u list true
    → Replies (session_at wants p t stops limit) (session_at wants p u stops limit) (Ok (Some (Accesses n at m))) (replies.Accesses list (Some Memory))
unfolding answer IsValid
replies_some {A} {wants} p t u stops limit n m at a list goes is all =
    let s = session_at wants p t stops limit in
    record {
      shortage = Some all.count;
      valid = (goes, a, is, inr (all.ends.2, least-above (is_enough s a m) n all.count all.ends.0 (below_next (is_enough s a m) all.count all.so_far.goes all.ends.1)));
      reply = rw (goes, is) (ap (λ (xs : List Access). replies.Accesses xs (Some Memory)) all.so_far.list_is);
      left = rw (goes, is) (ap (λ (v : Timeline). session_at wants p v stops limit) all.so_far.moves);
    }

replies_by : {A : Type 0} {wants : Bool} (p : Program A) (t u : Timeline) (stops : Listed) (limit n m : ℕ) (at : Address) (a : ℕ) (list : List Access) (is_short : Bool) →
    at_end t ≡ false → resolved_address p at ≡ Some a → Gathers (session_at wants p t stops limit) a m n u list is_short
    → Replies (session_at wants p t stops limit) (session_at wants p u stops limit) (Ok (Some (Accesses n at m))) (replies.Accesses list (cond is_short (Some Memory) None))
replies_by p t u stops limit n m at a list false goes is all = replies_all p t u stops limit n m at a list goes is all
replies_by p t u stops limit n m at a list true goes is all = replies_some p t u stops limit n m at a list goes is all

pub replies_gathered : {A : Type 0} {wants : Bool} (p : Program A) (t u : Timeline) (stops : Listed) (limit n m : ℕ) (at : Address) (a : ℕ) (list items : List Access) (is_short : Bool) (reason : Option Reason) →
    at_end t ≡ false → resolved_address p at ≡ Some a → Gathers (session_at wants p t stops limit) a m n u list is_short → items ≡ list → reason ≡ cond is_short (Some Memory) None
    → Replies (session_at wants p t stops limit) (session_at wants p u stops limit) (Ok (Some (Accesses n at m))) (replies.Accesses items reason)
replies_gathered {A} {wants} p t u stops limit n m at a list items is_short reason goes is all same why =
    subst (λ (o : Option Reason). Replies (session_at wants p t stops limit) (session_at wants p u stops limit) (Ok (Some (Accesses n at m))) (replies.Accesses items o)) (sym why)
    (subst (λ (xs : List Access). Replies (session_at wants p t stops limit) (session_at wants p u stops limit) (Ok (Some (Accesses n at m))) (replies.Accesses xs (cond is_short (Some Memory) None))) (sym same)
    (replies_by p t u stops limit n m at a list is_short goes is all))
