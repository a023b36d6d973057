-- The replies to `break`, `watch` and `delete`.
use Rattle.std.proofs.Common.{◌≡◌, refl, ap, ◌∙◌, subst, inl, inr, ◌⊎◌, ℕ, ◌+◌, ◌^◌, Bool, true, false, length, Option, Some, None, Result, Ok, Err, eq-eqb}
use Rattle.std.specs.Prelude.{◌↔◌, ◌==◌, ◌||◌, IfOk, OnOk, OnErr}
use Rattle.std.proofs.lemmas.Bool.{ne_eqb}
use Rattle.qil_tree.specs.declared.ops.Width.{Width}
use Rattle.qil_tree.specs.declared.tree.Program.{Program}
use Rattle.qil_layout.specs.Layout.{width_bytes}
use Rattle.qil_commands.specs.declared.command.Address.{Address}
use Rattle.qil_commands.specs.declared.command.BreakPlace.{BreakPlace}
use Rattle.qil_commands.specs.declared.command.Command.TheVariants.{Break, WatchBytes, WatchTemp, Delete}
use Rattle.qil_semantics.specs.State.{Name}
use Rattle.qil_semantics.specs.Timeline.{Timeline}
use Rattle.qil_stops.specs.declared.stop.Place.{Place}
use Rattle.qil_stops.specs.declared.stop.Watched.{Watched}
use Rattle.qil_stops.specs.declared.stop.Watched.TheVariants as watches
use Rattle.qil_stops.specs.declared.stop.StopKind.{StopKind}
use Rattle.qil_stops.specs.declared.stop.StopKind.TheVariants as kinds
use Rattle.qil_stops.specs.declared.stops.StopError.{StopError}
use Rattle.qil_stops.specs.declared.stops.StopError.TheVariants.{UnknownPlace, TooMany, NoSuchStop}
use Rattle.qil_stops.specs.Listed.{Listed, IsFull, added, is_listed, without}
use Rattle.qil_replies.specs.declared.reply.CommandRefusal.TheVariants as refusals
use Rattle.qil_replies.specs.declared.reply.Reply.{Reply}
use Rattle.qil_replies.specs.declared.reply.Reply.TheVariants.{Refused, Added, Deleted}
use Rattle.qil_replies.specs.SessionState.{session_at, resolved_address, resolved_place, resolved_temp, has_kind, is_full}
use Rattle.qil_replies.specs.Answers.{Replies, answer, IsValid, stop_answer, made_reply}

pub not_false : (b : Bool) → (b ≡ false → ⊥) → b ≡ true
not_false true h = refl
not_false false h = absurd (h refl)

or_right : (b : Bool) → (b || true) ≡ true
or_right true = refl
or_right false = refl

one_is : (x y m n : ℕ) → (x ≡ m) ⊎ (y ≡ n) → ((x == m) || (y == n)) ≡ true
one_is x y m n (inl e) = rw (eq-eqb x m e) refl
one_is x y m n (inr e) = rw (eq-eqb y n e) (or_right (x == m))

none_is : (x y m n : ℕ) → ((x ≡ m) ⊎ (y ≡ n) → ⊥) → ((x == m) || (y == n)) ≡ false
none_is x y m n h = rw (ne_eqb x m (λ e. h (inl e)), ne_eqb y n (λ e. h (inr e))) refl

-- ---- a stop is added, or it isn't

-- what adding a stop tells, and the stops that it leaves
pub record IsMade {A : Type 0} (p : Program A) (old new : Listed) (kind : StopKind) (made : Result ℕ StopError) : Type 0 where
  pub number : IfOk made (λ n. n ≡ old.given + 1)
  pub ok : OnOk made (new ≡ added kind old)
  pub unknown : (made ≡ Err UnknownPlace) ↔ (has_kind p kind ≡ false)
  pub many : (made ≡ Err TooMany) ↔ ((has_kind p kind ≡ true) × IsFull old)
  pub only : made ≡ Err NoSuchStop → ⊥
  pub err : OnErr made (new ≡ old)

-- the reply and the session that is left are those of a stop that is wanted
record IsAdded {A : Type 0} (wants : Bool) (p : Program A) (t : Timeline) (old new : Listed) (limit : ℕ) (kind : StopKind) (reported : Reply A) : Type 0 where
  reply : reported ≡ (stop_answer (session_at wants p t old limit) (Some kind)).reply
  left : session_at wants p t new limit ≡ (stop_answer (session_at wants p t old limit) (Some kind)).left

stop_made : {A : Type 0} {wants : Bool} (p : Program A) (t : Timeline) (old new : Listed) (limit : ℕ) (kind : StopKind) (made : Result ℕ StopError) →
    IsMade p old new kind made → IsAdded wants p t old new limit kind (made_reply made kind)
stop_made {A} {wants} p t old new limit kind (Ok n) is =
    let has : has_kind p kind ≡ true = not_false (has_kind p kind) (λ e. let other = is.unknown.1 e in absurd cc) in
    let room : is_full old ≡ false = none_is (length old.kept) old.given 64 (2 ^ 62) (λ f. let other = is.many.1 (has, f) in absurd cc) in
    record { reply = rw (has, room) (ap (λ i. Added i kind) is.number); left = rw (has, room) (ap (λ (stops : Listed). session_at wants p t stops limit) is.ok) }
stop_made {A} {wants} p t old new limit kind (Err UnknownPlace) is =
    let has : has_kind p kind ≡ false = is.unknown.0 refl in
    record { reply = rw has refl; left = rw has (ap (λ (stops : Listed). session_at wants p t stops limit) is.err) }
stop_made {A} {wants} p t old new limit kind (Err TooMany) is =
    let has : has_kind p kind ≡ true = (is.many.0 refl).0 in
    let room : is_full old ≡ true = one_is (length old.kept) old.given 64 (2 ^ 62) (is.many.0 refl).1 in
    record { reply = rw (has, room) refl; left = rw (has, room) (ap (λ (stops : Listed). session_at wants p t stops limit) is.err) }
stop_made p t old new limit kind (Err NoSuchStop) is = absurd (is.only refl)

-- ---- `break $f @b K`

pub replies_no_place : {A : Type 0} {wants : Bool} (p : Program A) (t : Timeline) (old : Listed) (limit : ℕ) (func : Name) (at : Option BreakPlace) →
    resolved_place p func at ≡ None → Replies (session_at wants p t old limit) (session_at wants p t old limit) (Ok (Some (Break func at))) (Refused refusals.UnknownPlace)
unfolding answer IsValid
replies_no_place p t old limit func at is = record { shortage = None; valid = tt; reply = rw is refl; left = rw is refl }

pub replies_break : {A : Type 0} {wants : Bool} (p : Program A) (t : Timeline) (old new : Listed) (limit : ℕ) (func : Name) (at : Option BreakPlace) (place : Place) (made : Result ℕ StopError) (reported : Reply A) →
    resolved_place p func at ≡ Some place → IsMade p old new (kinds.Break place) made → reported ≡ made_reply made (kinds.Break place) →
    Replies (session_at wants p t old limit) (session_at wants p t new limit) (Ok (Some (Break func at))) reported
unfolding answer IsValid
replies_break p t old new limit func at place made reported is how so =
    let one = stop_made p t old new limit (kinds.Break place) made how in
    record { shortage = None; valid = tt; reply = rw is (so ∙ one.reply); left = rw is one.left }

-- ---- `watch W ADDR`

pub replies_no_bytes : {A : Type 0} {wants : Bool} (p : Program A) (t : Timeline) (old : Listed) (limit : ℕ) (w : Width) (at : Address) →
    resolved_address p at ≡ None → Replies (session_at wants p t old limit) (session_at wants p t old limit) (Ok (Some (WatchBytes w at))) (Refused refusals.UnknownPlace)
unfolding answer IsValid
replies_no_bytes p t old limit w at is = record { shortage = None; valid = tt; reply = rw is refl; left = rw is refl }

pub replies_watch_bytes : {A : Type 0} {wants : Bool} (p : Program A) (t : Timeline) (old new : Listed) (limit : ℕ) (w : Width) (at : Address) (start n : ℕ) (made : Result ℕ StopError) (reported : Reply A) →
    resolved_address p at ≡ Some start → n ≡ width_bytes w → IsMade p old new (kinds.Watch (watches.Bytes start n)) made → reported ≡ made_reply made (kinds.Watch (watches.Bytes start n)) →
    Replies (session_at wants p t old limit) (session_at wants p t new limit) (Ok (Some (WatchBytes w at))) reported
unfolding answer IsValid
replies_watch_bytes p t old new limit w at start n made reported is wide how so =
    let there = subst (λ i. IsMade p old new (kinds.Watch (watches.Bytes start i)) made) wide how in
    let said = subst (λ i. reported ≡ made_reply made (kinds.Watch (watches.Bytes start i))) wide so in
    let one = stop_made p t old new limit (kinds.Watch (watches.Bytes start (width_bytes w))) made there in
    record { shortage = None; valid = tt; reply = rw is (said ∙ one.reply); left = rw is one.left }

-- ---- `watch $f %x`

pub replies_no_temp : {A : Type 0} {wants : Bool} (p : Program A) (t : Timeline) (old : Listed) (limit : ℕ) (func x : Name) →
    resolved_temp p func x ≡ None → Replies (session_at wants p t old limit) (session_at wants p t old limit) (Ok (Some (WatchTemp func x))) (Refused refusals.UnknownPlace)
unfolding answer IsValid
replies_no_temp p t old limit func x is = record { shortage = None; valid = tt; reply = rw is refl; left = rw is refl }

pub replies_watch_temp : {A : Type 0} {wants : Bool} (p : Program A) (t : Timeline) (old new : Listed) (limit : ℕ) (func x : Name) (watched : Watched) (made : Result ℕ StopError) (reported : Reply A) →
    resolved_temp p func x ≡ Some watched → IsMade p old new (kinds.Watch watched) made → reported ≡ made_reply made (kinds.Watch watched) →
    Replies (session_at wants p t old limit) (session_at wants p t new limit) (Ok (Some (WatchTemp func x))) reported
unfolding answer IsValid
replies_watch_temp p t old new limit func x watched made reported is how so =
    let one = stop_made p t old new limit (kinds.Watch watched) made how in
    record { shortage = None; valid = tt; reply = rw is (so ∙ one.reply); left = rw is one.left }

-- ---- `delete N`

pub replies_deleted : {A : Type 0} {wants : Bool} (p : Program A) (t : Timeline) (old new : Listed) (limit n : ℕ) →
    is_listed n old.kept ≡ true → new ≡ record old { kept = without n old.kept } → Replies (session_at wants p t old limit) (session_at wants p t new limit) (Ok (Some (Delete n))) (Deleted n)
unfolding answer IsValid
replies_deleted {A} {wants} p t old new limit n is less = record { shortage = None; valid = tt; reply = rw is refl; left = rw is (ap (λ (stops : Listed). session_at wants p t stops limit) less) }

pub replies_unlisted : {A : Type 0} {wants : Bool} (p : Program A) (t : Timeline) (old new : Listed) (limit n : ℕ) →
    is_listed n old.kept ≡ false → new ≡ old → Replies (session_at wants p t old limit) (session_at wants p t new limit) (Ok (Some (Delete n))) (Refused refusals.NoSuchStop)
unfolding answer IsValid
replies_unlisted {A} {wants} p t old new limit n is same = record { shortage = None; valid = tt; reply = rw is refl; left = rw is (ap (λ (stops : Listed). session_at wants p t stops limit) same) }
