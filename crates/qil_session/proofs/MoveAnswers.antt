-- The replies to `step`, `back`, `continue` and `reverse`, by where the timeline was left.
use Rattle.std.proofs.Common.{◌≡◌, refl, sym, ap, ◌∙◌, subst, inl, inr, ◌⊎◌, ℕ, ◌<◌, ◌≤◌, Bool, true, false, cond, length, Option, Some, None, Result, Ok, Err, eq-eqb, arith}
use Rattle.std.specs.Prelude.{◌≢◌, ◌==◌, is_some}
use Rattle.std.proofs.lemmas.Bool.{ne_eqb, cases_lt}
use Rattle.qil_tree.specs.declared.tree.Program.{Program}
use Rattle.qil_commands.specs.declared.command.Command.TheVariants.{Step, Back, Continue, Reverse}
use Rattle.qil_semantics.specs.Timeline.{Timeline, position, oldest, at_end, moved, gone}
use Rattle.qil_semantics.specs.Moves.{forward_by, back_by}
use Rattle.qil_semantics.specs.Runs.{if_holds, within, target, stop_on, stop_back, stopping, IsLeast, RunsOn, RunsBack}
use Rattle.qil_semantics.specs.declared.reason.Reason.{Reason}
use Rattle.qil_semantics.specs.declared.reason.Reason.TheVariants.{End, Start, Oldest, Watch, Break, Limit, Memory}
use Rattle.qil_stops.specs.Listed.{Listed}
use Rattle.qil_stops.specs.Named.{named_stops}
use Rattle.qil_stops.proofs.OnWay.{least-within}
use Rattle.qil_replies.specs.declared.reply.CommandRefusal.{CommandRefusal}
use Rattle.qil_replies.specs.declared.reply.CommandRefusal.TheVariants.{AtEnd, AtStart, HistoryEnds}
use Rattle.qil_replies.specs.declared.reply.Reply.{Reply}
use Rattle.qil_replies.specs.declared.reply.Reply.TheVariants.{Refused, Place, Stopped}
use Rattle.qil_replies.specs.SessionState.{SessionState, session_at}
use Rattle.qil_replies.specs.Answers.{Answer, Replies, answer, refuses, goes_to, if_back, back_refusal, stopped_for, reversed, IsValid}
use Rattle.qil_stops.proofs.Walks.{least-is}

-- ---- a move that found no memory is one that wanted some

wants_if : (wants : Bool) → (wants ≡ false → ⊥) → wants ≡ true
wants_if true never = refl
wants_if false never = absurd (never refl)

pub step_wants : {A B : Type 0} (wants : Bool) (result : Result A B) (x : A) (e : B) → (wants ≡ false → result ≡ Ok x) → result ≡ Err e → wants ≡ true
step_wants wants result x e spared is = wants_if wants (λ never. let ok : Ok x ≡ Err e = sym (spared never) ∙ is in cc)

-- ---- `step N`

pub replies_end : {A : Type 0} {wants : Bool} (p : Program A) (t : Timeline) (stops : Listed) (limit n : ℕ) →
    at_end t ≡ true → Replies (session_at wants p t stops limit) (session_at wants p t stops limit) (Ok (Some (Step n))) (Refused AtEnd)
unfolding answer IsValid
replies_end p t stops limit n over = record { shortage = None; valid = tt; reply = rw over refl; left = rw over refl }

pub replies_step : {A : Type 0} {wants : Bool} (p : Program A) (t u : Timeline) (stops : Listed) (limit n : ℕ) →
    at_end t ≡ false → u ≡ forward_by p n t → Replies (session_at wants p t stops limit) (session_at wants p u stops limit) (Ok (Some (Step n))) Place
unfolding answer IsValid
replies_step p t u stops limit n goes moves = record { shortage = None; valid = tt; reply = rw goes refl; left = rw (goes, moves) refl }

pub replies_step_wants : {A : Type 0} {wants : Bool} (p : Program A) (t u : Timeline) (stops : Listed) (limit n k : ℕ) →
    wants ≡ true → k < n → u ≡ forward_by p k t → at_end u ≡ false → Replies (session_at wants p t stops limit) (session_at wants p u stops limit) (Ok (Some (Step n))) (Stopped Memory)
unfolding answer IsValid
replies_step_wants p t u stops limit n k wanted lt moves goes = record { shortage = Some k; valid = (wanted, lt, rw moves at goes); reply = refl; left = rw moves refl }

-- ---- whether there is a way back

none_kept : (t : Timeline) → (position t == oldest t) ≡ (length t.past == 0)
none_kept t = elim (cases_lt 0 (length t.past)) [
  | inl l ↦ (ne_eqb (position t) (oldest t) (λ e. omega (arith, e, l)) ∙ sym (ne_eqb (length t.past) 0 (λ e. omega (arith, e, l))))
  | inr g ↦ (eq-eqb (position t) (oldest t) (omega (arith, g)) ∙ sym (eq-eqb (length t.past) 0 (omega (arith, g))))
]

-- why there is none, as `if_back` says it
abbrev pub no_way : Timeline → Option CommandRefusal
no_way t = cond (position t == 0) (Some AtStart) (cond (length t.past == 0) (Some HistoryEnds) None)

no_way_is : (t : Timeline) (at old : ℕ) → at ≡ position t → old ≡ oldest t → back_refusal at old ≡ no_way t
no_way_is t at old e f = rw (e, f, none_kept t) refl

-- what `no_way_back` gave says whether there is a way
pub back_reported : (t : Timeline) (at old : ℕ) (o reported : Option CommandRefusal) → at ≡ position t → old ≡ oldest t → o ≡ back_refusal at old → o ≡ reported → no_way t ≡ reported
back_reported t at old o reported e f is h = sym (no_way_is t at old e f) ∙ sym is ∙ h

refused_by : {A : Type 0} (s : SessionState A) (one : Answer A) (why : CommandRefusal) (start none : Bool) →
    cond start (Some AtStart) (cond none (Some HistoryEnds) None) ≡ Some why →
    cond start (refuses s AtStart) (cond none (refuses s HistoryEnds) one) ≡ refuses s why
refused_by s one why true none e = let same : AtStart ≡ why = cc in ap (λ (x : CommandRefusal). refuses s x) same
refused_by s one why false true e = let same : HistoryEnds ≡ why = cc in ap (λ (x : CommandRefusal). refuses s x) same
refused_by s one why false false e = absurd cc

refused_back : {A : Type 0} (s : SessionState A) (one : Answer A) (why : CommandRefusal) → no_way s.timeline ≡ Some why → if_back s one ≡ refuses s why
refused_back s one why e = refused_by s one why (position s.timeline == 0) (length s.timeline.past == 0) e

goes_by : {A : Type 0} (s : SessionState A) (one : Answer A) (start none : Bool) →
    cond start (Some AtStart) (cond none (Some HistoryEnds) None) ≡ None →
    cond start (refuses s AtStart) (cond none (refuses s HistoryEnds) one) ≡ one
goes_by s one true none e = absurd cc
goes_by s one false true e = absurd cc
goes_by s one false false e = refl

goes_back : {A : Type 0} (s : SessionState A) (one : Answer A) → no_way s.timeline ≡ None → if_back s one ≡ one
goes_back s one e = goes_by s one (position s.timeline == 0) (length s.timeline.past == 0) e

-- an answer after `if_back`, as it is or refused
record IsSaid {A : Type 0} (after : SessionState A) (one : Answer A) (reported : Reply A) : Type 0 where
  reply : reported ≡ one.reply
  left : after ≡ one.left

said_instead : {A : Type 0} (after : SessionState A) (one other : Answer A) (reported : Reply A) → one ≡ other → IsSaid after other reported → IsSaid after one reported
said_instead {A} after one other reported e h = record {
  reply = h.reply ∙ sym (ap (λ (x : Answer A). x.reply) e);
  left = h.left ∙ sym (ap (λ (x : Answer A). x.left) e);
}

-- ---- `back N`

pub replies_no_back : {A : Type 0} {wants : Bool} (p : Program A) (t : Timeline) (stops : Listed) (limit n : ℕ) (why : CommandRefusal) →
    no_way t ≡ Some why → Replies (session_at wants p t stops limit) (session_at wants p t stops limit) (Ok (Some (Back n))) (Refused why)
unfolding answer IsValid
replies_no_back {A} {wants} p t stops limit n why ends =
    let s = session_at wants p t stops limit in
    let one = goes_to s Place (back_by n t) in
    let said = said_instead s (if_back s one) (refuses s why) (Refused why) (refused_back s one why ends) (record { reply = refl; left = refl }) in
    record { shortage = None; valid = tt; reply = said.reply; left = said.left }

pub replies_back : {A : Type 0} {wants : Bool} (p : Program A) (t u : Timeline) (stops : Listed) (limit n : ℕ) →
    no_way t ≡ None → u ≡ back_by n t → Replies (session_at wants p t stops limit) (session_at wants p u stops limit) (Ok (Some (Back n))) Place
unfolding answer IsValid
replies_back {A} {wants} p t u stops limit n way moves =
    let s = session_at wants p t stops limit in
    let one = goes_to s Place (back_by n t) in
    let said = said_instead (session_at wants p u stops limit) (if_back s one) one Place (goes_back s one way) (record { reply = refl; left = rw moves refl }) in
    record { shortage = None; valid = tt; reply = said.reply; left = said.left }

-- ---- the target of a run

known : (r : Reason) → (stopping r ≡ Some r) ⊎ (r ≡ Memory)
known End = inl refl
known Start = inl refl
known Oldest = inl refl
known (Watch n) = inl refl
known (Break n) = inl refl
known Limit = inl refl
known Memory = inr refl

pub target_is : (stop : ℕ → Option Reason) (limit k : ℕ) (r : Reason) → IsLeast stop limit k r → stopping r ≡ Some r → target stop limit ≡ k
target_is stop limit k r h plain =
    least-is (λ j. is_some (within limit j (stop j))) limit k (least-within stop limit k r h) (λ j lt. ap is_some (h.passed j lt)) (λ lt. ap is_some (h.reached ∙ plain))

at_limit : (limit : ℕ) (o : Option Reason) → within limit limit o ≡ None → ⊥
at_limit limit (Some r) e = absurd cc
at_limit limit None e = let here : (limit == limit) ≡ true = eq-eqb limit limit refl in let there = ap (λ b. if_holds b Limit) here in absurd cc

below_limit : (stop : ℕ → Option Reason) (limit k : ℕ) → IsLeast stop limit k Memory → k < limit
below_limit stop limit k h = elim (cases_lt k limit) [
  | inl l ↦ l
  | inr g ↦ (let le : k ≤ limit = least-within stop limit k Memory h in
      let e : k ≡ limit = omega (arith, le, g) in
      absurd (at_limit limit (stop limit) (subst (λ n. within limit n (stop n) ≡ None) e h.reached)))
]

-- ---- `continue`

pub replies_run_end : {A : Type 0} {wants : Bool} (p : Program A) (t : Timeline) (stops : Listed) (limit : ℕ) →
    at_end t ≡ true → Replies (session_at wants p t stops limit) (session_at wants p t stops limit) (Ok (Some Continue)) (Refused AtEnd)
unfolding answer IsValid
replies_run_end p t stops limit over = record { shortage = None; valid = tt; reply = rw over refl; left = rw over refl }

run_stops : {A : Type 0} {wants : Bool} (p : Program A) (t u : Timeline) (stops : Listed) (limit k : ℕ) (why : Reason) →
    at_end t ≡ false → u ≡ moved p k t → target (stop_on p (named_stops p stops.kept) t) limit ≡ k → within limit k (stop_on p (named_stops p stops.kept) t k) ≡ Some why →
    Replies (session_at wants p t stops limit) (session_at wants p u stops limit) (Ok (Some Continue)) (Stopped why)
unfolding answer IsValid
run_stops p t u stops limit k why goes moves at reported = record {
  shortage = None;
  valid = tt;
  reply = rw (goes, at, reported) refl;
  left = rw (goes, at, moves) refl;
}

run_wants : {A : Type 0} {wants : Bool} (p : Program A) (t u : Timeline) (stops : Listed) (limit k : ℕ) (why : Reason) →
    wants ≡ true → why ≡ Memory → RunsOn p (named_stops p stops.kept) limit t why k u → Replies (session_at wants p t stops limit) (session_at wants p u stops limit) (Ok (Some Continue)) (Stopped why)
unfolding answer IsValid
run_wants p t u stops limit k why wanted shortages run =
    let l : IsLeast (stop_on p (named_stops p stops.kept) t) limit k Memory = subst (λ (x : Reason). IsLeast (stop_on p (named_stops p stops.kept) t) limit k x) shortages run.least in
    record {
      shortage = Some k;
      valid = (wanted, below_limit (stop_on p (named_stops p stops.kept) t) limit k l, l);
      reply = ap (λ (x : Reason). Stopped x) shortages;
      left = rw run.moves refl;
    }

pub replies_run : {A : Type 0} {wants : Bool} (p : Program A) (t u : Timeline) (stops : Listed) (limit k : ℕ) (why : Reason) →
    at_end t ≡ false → (wants ≡ false → why ≢ Memory) → RunsOn p (named_stops p stops.kept) limit t why k u → Replies (session_at wants p t stops limit) (session_at wants p u stops limit) (Ok (Some Continue)) (Stopped why)
replies_run {A} {wants} p t u stops limit k why goes spared run = elim (known why) [
  | inl plain ↦ run_stops p t u stops limit k why goes run.moves (target_is (stop_on p (named_stops p stops.kept) t) limit k why run.least plain) (run.least.reached ∙ plain)
  | inr shortages ↦ run_wants p t u stops limit k why (wants_if wants (λ never. spared never shortages)) shortages run
]

-- ---- `reverse`

pub replies_no_reverse : {A : Type 0} {wants : Bool} (p : Program A) (t : Timeline) (stops : Listed) (limit : ℕ) (why : CommandRefusal) →
    no_way t ≡ Some why → Replies (session_at wants p t stops limit) (session_at wants p t stops limit) (Ok (Some Reverse)) (Refused why)
unfolding answer IsValid
replies_no_reverse {A} {wants} p t stops limit why ends =
    let s = session_at wants p t stops limit in
    let one = reversed s (target (stop_back (named_stops p stops.kept) t) limit) in
    let said = said_instead s (if_back s one) (refuses s why) (Refused why) (refused_back s one why ends) (record { reply = refl; left = refl }) in
    record { shortage = None; valid = tt; reply = said.reply; left = said.left }

reverse_stops : {A : Type 0} {wants : Bool} (p : Program A) (t u : Timeline) (stops : Listed) (limit k : ℕ) (why : Reason) →
    no_way t ≡ None → u ≡ gone k t → target (stop_back (named_stops p stops.kept) t) limit ≡ k → within limit k (stop_back (named_stops p stops.kept) t k) ≡ Some why →
    Replies (session_at wants p t stops limit) (session_at wants p u stops limit) (Ok (Some Reverse)) (Stopped why)
unfolding answer IsValid
reverse_stops {A} {wants} p t u stops limit k why way moves at reported =
    let s = session_at wants p t stops limit in
    let one = reversed s (target (stop_back (named_stops p stops.kept) t) limit) in
    let said = said_instead (session_at wants p u stops limit) (if_back s one) one (Stopped why) (goes_back s one way) (record { reply = rw (at, reported) refl; left = rw (at, moves) refl }) in
    record { shortage = None; valid = tt; reply = said.reply; left = said.left }

-- going back takes no memory, so it never wants it
pub replies_reverse : {A : Type 0} {wants : Bool} (p : Program A) (t u : Timeline) (stops : Listed) (limit k : ℕ) (why : Reason) →
    no_way t ≡ None → RunsBack (named_stops p stops.kept) limit t why k u → Replies (session_at wants p t stops limit) (session_at wants p u stops limit) (Ok (Some Reverse)) (Stopped why)
replies_reverse p t u stops limit k why way run =
    reverse_stops p t u stops limit k why way run.moves
    (target_is (stop_back (named_stops p stops.kept) t) limit k why run.least run.no_memory) (run.least.reached ∙ run.no_memory)
