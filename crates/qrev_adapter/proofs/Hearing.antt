-- How far a conversation has come, from one call of the adapter to the next.
use Rattle.std.proofs.Common.{◌≡◌, ℕ, List, [], ◌∷◌, ◌++◌, sym, ap, ◌∙◌, refl, subst, Option, inl, inr}
use Rattle.std.specs.Prelude.{⊤, codes, Result, Ok, Err, Some, None, Vec, ◌⊎◌, unwrap_or, IsErrAnd}
use Rattle.std.proofs.lemmas.Result.{err_from_is_err_and}
use Rattle.std.specs.Io.KnownBytes.{Consumes}
use Rattle.json.specs.Json.{Json}
use Rattle.qrev_protocol.specs.Requests.{IsRequest, IsNoRequest, text_in}
use Rattle.qrev_protocol.specs.declared.request.Request.{Request}
use Rattle.qrev_notices.specs.Conversation.{Asked, asked_by, Spoken, HasReplied, MayHaveResponded, Responds, Tells}
use Rattle.qrev_notices.specs.Reading.{IsFarewell, IsStaying, IsDocument, Asks, AsksNothing, AsksToStay, Reads, Heard, IsIdle, IsRead, IsAnswered, HasStayed, HasLeft, IsOver, IsCut, IsBroken, IsConversation, IsClosed, Serves, ReadsNext, ended_by}
use Rattle.qrev_notices.specs.declared.trouble.Trouble.{Trouble}
use Rattle.qrev_notices.specs.declared.trouble.Trouble.TheVariants as troubles
use Rattle.qrev_notices.specs.declared.line.Ended.{Ended}
use Rattle.qrev_notices.specs.declared.line.Ended.TheVariants as ends
use Rattle.qrev_notices.specs.declared.line.Closed.{Closed}
use Rattle.qrev_notices.specs.declared.line.Closed.TheVariants as closes
use Rattle.qrev_notices.proofs.Standing.{answered_idle, answered_cut, read_pending, read_idle, idle_read, idle_over, idle_cut, read_cut, over_cut, responded, idle_broken, read_broken, over_broken, answered_broken, part_broken}
use Rattle.qrev_adapter.specs.declared.session.Next.{Next}
use Rattle.qrev_adapter.specs.declared.session.Next.TheVariants.{Message, End}
use Rattle.qrev_adapter.specs.declared.requests.Ending.{Ending}
use Rattle.qrev_adapter.specs.declared.requests.Ending.TheVariants.{Terminated, Left}
use Rattle.qrev_adapter.proofs.Words.{no_end, not_left}
use Rattle.qrev_adapter.specs.Served.{HasHeard, Leaves, Hears, GoesOn, StandsAfter}

-- the body of a message is a request, or none
pub asks_this : (body : List ℕ) (json : Json) (request : Request) → IsDocument body json → IsRequest json request → Asks body (asked_by request)
asks_this body json request doc is = (json, request, doc, is, refl)

pub no_document : (body : List ℕ) → ((json : Json) → IsDocument body json → ⊥) → AsksNothing body
no_document body none = λ a asks. none asks.0 asks.2

pub no_request : (body : List ℕ) (json : Json) → IsDocument body json → IsNoRequest json → AsksNothing body
no_request body json doc none = λ a asks.
    none asks.1 (subst (λ (j : Json). IsRequest j asks.1) (ap (λ (o : Option Json). unwrap_or o json) (sym asks.2.1 ∙ doc.1)) asks.3)

-- what the exit of a `?` returns
pub closed_exit : {A : Type 0} → (result : Result (Closed A) Ended) (ended : Ended) (start now : Heard) → IsErrAnd result (λ e. e ≡ ended) → IsConversation ended start now → IsClosed result start now
closed_exit result ended start now exit h =
    let p = err_from_is_err_and result exit in
    subst (λ (r : Result (Closed _) Ended). IsClosed r start now) (sym p.1) (subst (λ (e : Ended). IsConversation e start now) (sym p.2) h)

pub stands_exit : (result : Result (Unit {0}) Ended) (ended : Ended) (start now : Heard) → IsErrAnd result (λ e. e ≡ ended) → IsConversation ended start now → StandsAfter result start now
stands_exit result ended start now exit h =
    let p = err_from_is_err_and result exit in
    subst (λ (r : Result (Unit {0}) Ended). StandsAfter r start now) (sym p.1) (subst (λ (e : Ended). IsConversation e start now) (sym p.2) h)

-- a response failed
pub serves_failed : {A : Type 0} → (result : Result (Closed A) Ended) (trouble : Trouble) (a : Asked) (old now : Heard) → IsErrAnd result (λ e. e ≡ ended_by trouble) → now.input ≡ old.input
    → Responds {T = Unit {0}} (Err trouble) a old.output now.output → Serves result a old now
serves_failed result trouble a old now exit input r = λ start before h stays. closed_exit result (ended_by trouble) start now exit (responded trouble a old now start before input r h)

-- a response, and what is read after it
pub serves_then : {A : Type 0} → (result : Result (Closed A) Ended) (x : Unit {0}) (a : Asked) (old mid now : Heard) → mid.input ≡ old.input
    → Responds (Ok x) a old.output mid.output → GoesOn result mid now → Serves result a old now
serves_then result x a old mid now input r goes = λ start before h stays.
    goes start (a, (before, subst (λ (i : Option (List ℕ)). Reads start.input i (before ++ a ∷ [])) (sym input) h.0, r start.output before h.1, h.2), stays)

-- no message was read
pub next_failed : (A : Type 0) (ended : Ended) (start old now : Heard) → IsIdle start old → ReadsNext {A = A} (Err ended) old.input now.input → now.output ≡ old.output → IsConversation ended start now
next_failed A ends.Left start old now h r same = absurd r
next_failed A ends.InputEnded start old now h r same = absurd r
next_failed A ends.Broken start old now h r same = idle_broken start old now h r same
next_failed A ends.OutOfMemory start old now h r same = idle_cut start old now h r same

-- a message was read, whose body is looked at as a slice
pub read_next : (A : Type 0) (start old now : Heard) (came : Option (Vec ℕ A)) (got : Vec ℕ A) (body : List ℕ) → came ≡ Some got → body ≡ got.items → IsIdle start old
    → ReadsNext (Ok came) old.input now.input → now.output ≡ old.output → IsRead start body now
read_next A start old now came got body is same idle reads silent =
    let m = subst (λ (o : Option (Vec ℕ A)). ReadsNext (Ok o) old.input now.input) is reads in
    subst (λ (b : List ℕ). IsRead start b now) (sym same) (idle_read start old now m.0 got.items idle m.1 m.2 silent)

-- none was, for the input ended
pub read_none : (A : Type 0) (start old now : Heard) (came : Option (Vec ℕ A)) → came ≡ None → IsIdle start old → ReadsNext (Ok came) old.input now.input → now.output ≡ old.output → IsOver start now
read_none A start old now came is idle reads silent =
    let m = subst (λ (o : Option (Vec ℕ A)). ReadsNext (Ok o) old.input now.input) is reads in idle_over start old now m.0 idle m.1 m.2 silent

-- a message that was read has its response
pub heard_answered : (P : Asked → Type 0) (start mid now : Heard) (body : List ℕ) (r : IsRead start body mid) → now.input ≡ mid.input → HasHeard P start.output r.1 body now.output
    → (a : Asked) × IsAnswered start a now × P a
heard_answered P start mid now body r input h =
    let reads = (read_pending start mid body h.0 r h.1).0 in
    (h.0, (r.1, subst (λ (i : Option (List ℕ)). Reads start.input i (r.1 ++ h.0 ∷ [])) (sym input) reads, h.2, r.7), h.3)

-- what was read stays so while something is sent
pub still_read : (start mid now : Heard) (body : List ℕ) (r : IsRead start body mid) → now.input ≡ mid.input → HasReplied start.output r.1 now.output → IsRead start body now
still_read start mid now body r input h =
    (r.0, r.1, r.2, r.3, r.4, subst (λ (i : Option (List ℕ)). Consumes r.0 i r.2) (sym input) r.5, h, r.7)

-- a message that was read is answered, if it is a request
pub heard_idle : (start mid now : Heard) (body : List ℕ) (r : IsRead start body mid) → now.input ≡ mid.input
    → (AsksNothing body × HasReplied start.output r.1 now.output) ⊎ HasHeard IsStaying start.output r.1 body now.output → IsIdle start now
heard_idle start mid now body r input (inl p) = read_idle start now body (still_read start mid now body r input p.1) p.0
heard_idle start mid now body r input (inr p) = answered_idle start now (heard_answered IsStaying start mid now body r input p)

pub hears_failed : (trouble : Trouble) (start mid now : Heard) (body : List ℕ) → IsRead start body mid → now.input ≡ mid.input → Hears (Err trouble) body mid.output now.output
    → IsConversation (ended_by trouble) start now
hears_failed troubles.Device start mid now body r input h =
    let p = h start.output r.1 r.6 in
    let reads = (read_pending start mid body p.0 r p.1).0 in part_broken start now (r.1 ++ p.0 ∷ []) (subst (λ (i : Option (List ℕ)). Reads start.input i (r.1 ++ p.0 ∷ [])) (sym input) reads) p.2
hears_failed troubles.OutOfMemory start mid now body r input h = cut start mid now body r input (h start.output r.1 r.6)
  where
    cut : (start mid now : Heard) (body : List ℕ) (r : IsRead start body mid) → now.input ≡ mid.input → HasReplied start.output r.1 now.output ⊎ HasHeard (λ a. ⊤) start.output r.1 body now.output → IsCut start now
    cut start mid now body r input (inl p) = read_cut start now body (still_read start mid now body r input p)
    cut start mid now body r input (inr p) = let h = heard_answered (λ a. ⊤) start mid now body r input p in answered_cut start now h.0 h.1

-- however a session was closed, of what was read all has been replied to but perhaps the last
pub closed_cut : {A : Type 0} → (closed : Closed A) (start now : Heard) → IsClosed (Ok closed) start now → IsCut start now
closed_cut closes.Terminated start now h = answered_cut start now h.0 h.1
closed_cut closes.Left start now h = answered_cut start now h.0 h.1
closed_cut closes.InputEnded start now h = over_cut start now h
closed_cut (closes.Restarted body) start now h = read_cut start now body.items h.0

pub closed_broken : {A : Type 0} → (closed : Closed A) (start now : Heard) → IsClosed (Ok closed) start now → IsBroken start now
closed_broken closes.Terminated start now h = answered_broken start now h.0 h.1
closed_broken closes.Left start now h = answered_broken start now h.0 h.1
closed_broken closes.InputEnded start now h = over_broken start now h
closed_broken (closes.Restarted body) start now h = read_broken start now body.items h.0

-- events of the last request
pub answered_told : (x : Unit {0}) (start old now : Heard) (a : Asked) → now.input ≡ old.input → Tells (Ok x) old.output now.output → IsAnswered start a old → IsAnswered start a now
answered_told x start old now a input t h =
    (h.0, subst (λ (i : Option (List ℕ)). Reads start.input i (h.0 ++ a ∷ [])) (sym input) h.1, t start.output h.0 a h.2, h.3)

pub stayed_told : (x : Unit {0}) (start old now : Heard) → now.input ≡ old.input → Tells (Ok x) old.output now.output → HasStayed start old → HasStayed start now
stayed_told x start old now input t h = (h.0, answered_told x start old now h.0 input t h.1, h.2)

pub left_told : (x : Unit {0}) (start old now : Heard) → now.input ≡ old.input → Tells (Ok x) old.output now.output → HasLeft start old → HasLeft start now
left_told x start old now input t h = (h.0, answered_told x start old now h.0 input t h.1, h.2)

pub tells_failed : (trouble : Trouble) (start old now : Heard) (a : Asked) → now.input ≡ old.input → Tells {T = Unit {0}} (Err trouble) old.output now.output → IsAnswered start a old
    → IsConversation (ended_by trouble) start now
tells_failed troubles.Device start old now a input t h =
    part_broken start now (h.0 ++ a ∷ []) (subst (λ (i : Option (List ℕ)). Reads start.input i (h.0 ++ a ∷ [])) (sym input) h.1) (t start.output h.0 a h.2)
tells_failed troubles.OutOfMemory start old now a input t h =
    answered_cut start now a (h.0, subst (λ (i : Option (List ℕ)). Reads start.input i (h.0 ++ a ∷ [])) (sym input) h.1, t start.output h.0 a h.2, h.3)

-- a message that is no request
pub hears_nothing : (body : List ℕ) (s : Spoken) → AsksNothing body → Hears (Ok Message) body s s
hears_nothing body s none = λ start before h. inl (none, h)

-- a request that has its response
pub hears_one : (ending : Option Ending) (body : List ℕ) (a : Asked) (old now : Spoken) → ending ≡ None → Asks body a → Responds (Ok ending) a old now → Leaves ending a.command → Hears (Ok Message) body old now
hears_one ending body a old now same asks r leaves = λ start before h. inr (a, asks, r start before h, leaves.1 (no_end ending same))

pub hears_end : (found : Option Ending) (ending : Ending) (body : List ℕ) (a : Asked) (old now : Spoken) → found ≡ Some ending → Asks body a → Responds (Ok found) a old now → Leaves found a.command
    → Hears (Ok (End ending)) body old now
hears_end found Terminated body a old now same asks r leaves = λ start before h. (a, asks, r start before h, leaves.1 (not_left found same))
hears_end found Left body a old now same asks r leaves = λ start before h. (a, asks, r start before h, leaves.0 same)

-- a request that isn't a farewell
asks_same : (body : List ℕ) (a b : Asked) → Asks body a → Asks body b → a.command ≡ b.command
asks_same body a b one two =
    let json = ap (λ (o : Option Json). unwrap_or o one.0) (sym one.2.1 ∙ two.2.1) in
    let command = ap (λ (o : Option (List ℕ)). unwrap_or o []) (sym one.3.command ∙ ap (text_in (codes "command")) json ∙ two.3.command) in
    ap (λ (x : Asked). x.command) (sym one.4) ∙ command ∙ ap (λ (x : Asked). x.command) two.4

pub asks_to_stay : (body : List ℕ) (a : Asked) → Asks body a → IsStaying a → AsksToStay body
asks_to_stay body a asks stays = λ b other farewell. stays (asks_same body a b asks other ∙ farewell)

may_have_heard : (start : Spoken) (before : List Asked) (body : List ℕ) (a : Asked) (now : Spoken) → Asks body a → MayHaveResponded start before a now → HasReplied start before now ⊎ HasHeard (λ b. ⊤) start before body now
may_have_heard start before body a now asks (inl p) = inl p
may_have_heard start before body a now asks (inr p) = inr (a, asks, p, tt)

hears_trouble : (T : Type 0) (trouble : Trouble) (body : List ℕ) (a : Asked) (old now : Spoken) → Asks body a → Responds {T = T} (Err trouble) a old now → Hears (Err trouble) body old now
hears_trouble T troubles.OutOfMemory body a old now asks r = λ start before h. may_have_heard start before body a now asks (r start before h)
hears_trouble T troubles.Device body a old now asks r = λ start before h. (a, asks, r start before h)

-- a request whose response failed
pub hears_err : (T : Type 0) (trouble fault : Trouble) (body : List ℕ) (a : Asked) (old now : Spoken) → fault ≡ trouble → Asks body a → Responds {T = T} (Err trouble) a old now → Hears (Err fault) body old now
hears_err T trouble fault body a old now same asks r = subst (λ (t : Trouble). Hears (Err t) body old now) (sym same) (hears_trouble T trouble body a old now asks r)

-- what the exit of a `?` returns, after a message that was read
pub hears_exit : (T : Type 0) (result : Result Next Trouble) (trouble : Trouble) (body : List ℕ) (a : Asked) (old now : Spoken) → IsErrAnd result (λ e. e ≡ trouble) → Asks body a → Responds {T = T} (Err trouble) a old now
    → Hears result body old now
hears_exit T result trouble body a old now exit asks r =
    let p = err_from_is_err_and result exit in subst (λ (v : Result Next Trouble). Hears v body old now) (sym p.1) (hears_err T trouble p.0 body a old now p.2 asks r)
