-- How far a conversation has come, from one call to the next.
use Rattle.std.proofs.Common.{◌≡◌, ℕ, List, [], ◌∷◌, ◌++◌, refl, sym, ap, ◌∙◌, append_assoc, arith, subst, Option, inl, inr}
use Rattle.std.specs.Prelude.{Result, Ok, Err, ◌⊎◌}
use Rattle.std.proofs.lemmas.List.{append-nil}
use Rattle.std.specs.Io.KnownBytes.{Consumes}
use Rattle.qil_streams.proofs.DeviceLemmas.{Consumes-nil, Consumes-append}
use Rattle.qrev_protocol.specs.Frame.{IsMessage, HasNone}
use Rattle.qrev_protocol.specs.Incoming.{TakesAll, TakesPrefix}
use Rattle.qrev_notices.specs.Conversation.{Asked, Spoken, HasReplied, HasRepliedPart, HasResponded, Responds}
use Rattle.qrev_notices.specs.Reading.{Asks, AsksNothing, AreAsked, AreMessages, Reads, Heard, IsIdle, IsPending, IsRead, IsAnswered, HasStayed, IsStaying, AreStaying, IsOver, IsCut, IsBroken, IsConversation, IsClosed, Serves, IsClosedBy, ended_by}
use Rattle.qrev_notices.specs.declared.trouble.Trouble.{Trouble}
use Rattle.qrev_notices.specs.declared.trouble.Trouble.TheVariants as troubles
use Rattle.qrev_notices.specs.declared.line.Ended.{Ended}
use Rattle.qrev_notices.specs.declared.line.Ended.TheVariants as ends
use Rattle.qrev_notices.specs.declared.line.Closed.{Closed}
use Rattle.qrev_notices.proofs.Replies.{replied, replied_whole, says_nothing}

-- one message more
messages_more : (text : List ℕ) (bodies : List (List ℕ)) (message body : List ℕ) → AreMessages text bodies → IsMessage message body → AreMessages (text ++ message) (bodies ++ body ∷ [])
messages_more text [] message body all one = (message, [], one, refl, ap (λ (v : List ℕ). v ++ message) all ∙ sym (append-nil message))
messages_more text (b ∷ bodies) message body all one =
    (all.0, all.1 ++ message, all.2, messages_more all.1 bodies message body all.3 one, ap (λ (v : List ℕ). v ++ message) all.4 ∙ append_assoc all.0 all.1 message)

asked_more : (bodies : List (List ℕ)) (asked : List Asked) (body : List ℕ) (a : Asked) → AreAsked bodies asked → Asks body a → AreAsked (bodies ++ body ∷ []) (asked ++ a ∷ [])
asked_more [] asked body a all one = inl (a, [], one, refl, ap (λ (v : List Asked). v ++ a ∷ []) all)
asked_more (b ∷ bodies) asked body a (inl p) one = inl (p.0, p.1 ++ a ∷ [], p.2, asked_more bodies p.1 body a p.3 one, ap (λ (v : List Asked). v ++ a ∷ []) p.4)
asked_more (b ∷ bodies) asked body a (inr p) one = inr (p.0, asked_more bodies asked body a p.1 one)

asked_no_more : (bodies : List (List ℕ)) (asked : List Asked) (body : List ℕ) → AreAsked bodies asked → AsksNothing body → AreAsked (bodies ++ body ∷ []) asked
asked_no_more [] asked body all none = inr (none, all)
asked_no_more (b ∷ bodies) asked body (inl p) none = inl (p.0, p.1, p.2, asked_no_more bodies p.1 body p.3 none, p.4)
asked_no_more (b ∷ bodies) asked body (inr p) none = inr (p.0, asked_no_more bodies asked body p.1 none)

reads_more : (before mid after : Option (List ℕ)) (asked : List Asked) (message body : List ℕ) (a : Asked) → Reads before mid asked → IsMessage message body → Consumes mid after message → Asks body a
    → Reads before after (asked ++ a ∷ [])
reads_more before mid after asked message body a r m took asks =
    (r.0 ++ message, r.1 ++ body ∷ [], messages_more r.0 r.1 message body r.2 m, asked_more r.1 asked body a r.3 asks, Consumes-append before mid after r.0 message r.4 took)

reads_no_more : (before mid after : Option (List ℕ)) (asked : List Asked) (message body : List ℕ) → Reads before mid asked → IsMessage message body → Consumes mid after message → AsksNothing body
    → Reads before after asked
reads_no_more before mid after asked message body r m took none =
    (r.0 ++ message, r.1 ++ body ∷ [], messages_more r.0 r.1 message body r.2 m, asked_no_more r.1 asked body r.3 none, Consumes-append before mid after r.0 message r.4 took)

staying_more : (asked : List Asked) (a : Asked) → AreStaying asked → IsStaying a → AreStaying (asked ++ a ∷ [])
staying_more [] a all one = (one, tt)
staying_more (b ∷ asked) a all one = (all.0, staying_more asked a all.1 one)

-- nothing was read or written so far
pub idle_first : (start : Heard) → IsIdle start start
idle_first start = ([], ([], [], refl, refl, Consumes-nil start.input), ([], refl, says_nothing start.output), tt)

-- a request that has its response leaves nothing to be done
pub answered_idle : (start now : Heard) → HasStayed start now → IsIdle start now
answered_idle start now h =
    let before = h.1.0 in (before ++ h.0 ∷ [], h.1.1, replied start.output now.output before h.0 h.1.2, staying_more before h.0 h.1.3 h.2)

-- a message that was read is a request, or none
pub read_pending : (start now : Heard) (body : List ℕ) (a : Asked) (r : IsRead start body now) → Asks body a → IsPending start r.1 a now
read_pending start now body a r asks = (reads_more start.input r.0 now.input r.1 r.2 body a r.3 r.4 r.5 asks, r.6, r.7)

pub read_idle : (start now : Heard) (body : List ℕ) → IsRead start body now → AsksNothing body → IsIdle start now
read_idle start now body r none = (r.1, reads_no_more start.input r.0 now.input r.1 r.2 body r.3 r.4 r.5 none, r.6, r.7)

-- the next message was read
pub idle_read : (start old now : Heard) (message body : List ℕ) → IsIdle start old → IsMessage message body → Consumes old.input now.input message → now.output ≡ old.output → IsRead start body now
idle_read start old now message body h m took same = (old.input, h.0, message, h.1, m, took, subst (λ (s : Spoken). HasReplied start.output h.0 s) (sym same) h.2, h.3)

-- no message was read, for the input ended
pub idle_over : (start old now : Heard) (rest : List ℕ) → IsIdle start old → TakesAll old.input now.input rest → HasNone rest → now.output ≡ old.output → IsOver start now
idle_over start old now rest h took none same = (old.input, h.0, rest, h.1, took, none, subst (λ (s : Spoken). HasReplied start.output h.0 s) (sym same) h.2, h.3)

-- memory ran out
pub idle_cut : (start old now : Heard) → IsIdle start old → TakesPrefix old.input now.input → now.output ≡ old.output → IsCut start now
idle_cut start old now h took same =
    (old.input, h.0, [], subst (λ (v : List Asked). Reads start.input old.input v) (sym (append-nil h.0)) h.1, omega arith, took, subst (λ (s : Spoken). HasReplied start.output h.0 s) (sym same) h.2)

pub read_cut : (start now : Heard) (body : List ℕ) → IsRead start body now → IsCut start now
read_cut start now body r = (r.0, r.1, [], subst (λ (v : List Asked). Reads start.input r.0 v) (sym (append-nil r.1)) r.3, omega arith, (r.2, r.5), r.6)

pub over_cut : (start now : Heard) → IsOver start now → IsCut start now
over_cut start now h = (h.0, h.1, [], subst (λ (v : List Asked). Reads start.input h.0 v) (sym (append-nil h.1)) h.3, omega arith, (h.2, h.4.0), h.6)

pub pending_cut : (start now : Heard) (before : List Asked) (a : Asked) → IsPending start before a now → IsCut start now
pending_cut start now before a h = (now.input, before, a ∷ [], h.0, omega arith, ([], Consumes-nil now.input), h.1)

pub answered_cut : (start now : Heard) (a : Asked) → IsAnswered start a now → IsCut start now
answered_cut start now a h =
    let asked = h.0 ++ a ∷ [] in
    (now.input, asked, [], subst (λ (v : List Asked). Reads start.input now.input v) (sym (append-nil asked)) h.1, omega arith, ([], Consumes-nil now.input), replied start.output now.output h.0 a h.2)

-- a device failed
pub idle_broken : (start old now : Heard) → IsIdle start old → TakesPrefix old.input now.input → now.output ≡ old.output → IsBroken start now
idle_broken start old now h took same =
    (old.input, h.0, h.1, took, replied_whole start.output now.output h.0 (subst (λ (s : Spoken). HasReplied start.output h.0 s) (sym same) h.2))

pub given_up : (start now : Heard) → IsIdle start now → IsBroken start now
given_up start now h = idle_broken start now now h ([], Consumes-nil now.input) refl

pub read_broken : (start now : Heard) (body : List ℕ) → IsRead start body now → IsBroken start now
read_broken start now body r = (r.0, r.1, r.3, (r.2, r.5), replied_whole start.output now.output r.1 r.6)

pub over_broken : (start now : Heard) → IsOver start now → IsBroken start now
over_broken start now h = (h.0, h.1, h.3, (h.2, h.4.0), replied_whole start.output now.output h.1 h.6)

-- of what is sent for the last request a part may be missing
pub part_broken : (start now : Heard) (asked : List Asked) → Reads start.input now.input asked → HasRepliedPart start.output asked now.output → IsBroken start now
part_broken start now asked reads h = (now.input, asked, reads, ([], Consumes-nil now.input), h)

pub answered_broken : (start now : Heard) (a : Asked) → IsAnswered start a now → IsBroken start now
answered_broken start now a h =
    let asked = h.0 ++ a ∷ [] in part_broken start now asked h.1 (replied_whole start.output now.output asked (replied start.output now.output h.0 a h.2))

-- a call that responded, or that couldn't
pub responded : (trouble : Trouble) (a : Asked) (old now : Heard) (start : Heard) (before : List Asked) → now.input ≡ old.input → Responds {T = Unit {0}} (Err trouble) a old.output now.output → IsPending start before a old
    → IsConversation (ended_by trouble) start now
responded troubles.Device a old now start before same r h =
    part_broken start now (before ++ a ∷ []) (subst (λ (i : Option (List ℕ)). Reads start.input i (before ++ a ∷ [])) (sym same) h.0) (r start.output before h.1)
responded troubles.OutOfMemory a old now start before same r h = by_case (r start.output before h.1)
  where
    reads : Reads start.input now.input (before ++ a ∷ [])
    reads = subst (λ (i : Option (List ℕ)). Reads start.input i (before ++ a ∷ [])) (sym same) h.0

    by_case : HasReplied start.output before now.output ⊎ HasResponded start.output before a now.output → IsCut start now
    by_case (inl p) = pending_cut start now before a (reads, p, h.2)
    by_case (inr p) = answered_cut start now a (before, reads, p, h.2)

-- a request that was refused opens no session
pub serves_refused : {A : Type 0} → (result : Result (Closed A) Ended) (refused : Result (Unit {0}) Trouble) (a : Asked) (old now : Heard) → now.input ≡ old.input
    → Responds refused a old.output now.output → IsClosedBy result refused → Serves result a old now
serves_refused result (Ok x) a old now same r closed = λ start before h stays.
    subst (λ (v : Result (Closed _) Ended). IsClosed v start now) (sym closed)
    (a, (before, subst (λ (i : Option (List ℕ)). Reads start.input i (before ++ a ∷ [])) (sym same) h.0, r start.output before h.1, h.2), stays)
serves_refused result (Err trouble) a old now same r closed = λ start before h stays.
    subst (λ (v : Result (Closed _) Ended). IsClosed v start now) (sym closed) (responded trouble a old now start before same r h)

-- no memory for a response
pub gives_up : (A : Type 0) (a : Asked) (s : Heard) → Serves {A = A} (Err ends.OutOfMemory) a s s
gives_up A a s = λ start before h stays. pending_cut start s before a h
