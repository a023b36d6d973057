-- What calls do to a conversation.
use Rattle.std.specs.Prelude.{◌≡◌, ℕ, List, [], ◌∷◌, ◌++◌, ⊤, Option, Some, codes, Result, Ok, Err, ◌⊎◌, IfOk, Bool, cond}
use Rattle.qrev_notices.specs.Conversation.{Asked, Spoken, HasReplied, HasRepliedPart, HasResponded}
use Rattle.qrev_notices.specs.Last.{HasToldLast}
use Rattle.qrev_notices.specs.Reading.{IsFarewell, IsStaying, Asks, AsksNothing, AsksToStay, Heard, IsIdle, IsPending, IsRead, HasStayed, IsConversation, IsClosed}
use Rattle.qrev_notices.specs.declared.trouble.Trouble.{Trouble}
use Rattle.qrev_notices.specs.declared.trouble.Trouble.TheVariants.{OutOfMemory, Device}
use Rattle.qrev_notices.specs.declared.line.Ended.{Ended}
use Rattle.qrev_notices.specs.declared.line.Closed.{Closed}
use Rattle.qrev_moving.specs.declared.underway.Course.{Course}
use Rattle.qrev_moving.specs.declared.underway.Course.TheVariants.{Stands}
use Rattle.qrev_moving.specs.declared.underway.Course.TheVariants as courses
use Rattle.qrev_moving.specs.declared.underway.Underway.{Underway}
use Rattle.qrev_adapter.specs.declared.requests.Ending.{Ending}
use Rattle.qrev_adapter.specs.declared.requests.Ending.TheVariants.{Terminated, Left}
use Rattle.qrev_adapter.specs.declared.requests.Then.{Then}
use Rattle.qrev_adapter.specs.declared.requests.Then.TheVariants as thens
use Rattle.qrev_adapter.specs.declared.session.Next.{Next}
use Rattle.qrev_adapter.specs.declared.session.Next.TheVariants.{Message, End, Restart}

-- a body is a request of which P holds, and which has its response
abbrev pub HasHeard : (Asked → Type 0) → Spoken → List Asked → List ℕ → Spoken → Type 0
HasHeard P start before body now = (a : Asked) × Asks body a × HasResponded start before a now × P a

-- how a session ends after a request with this command tells whether the editor leaves by it
abbrev pub Leaves : Option Ending → List ℕ → Type 0
Leaves ending command = (ending ≡ Some Left → command ≡ codes "disconnect") × ((ending ≡ Some Left → ⊥) → command ≡ codes "disconnect" → ⊥)

-- a run goes on when the messages that have come are answered
abbrev pub IsUnderway : Course → Type 0
IsUnderway course = (u : Underway) × (course ≡ courses.Underway u)

-- what an editor is told last behind a response, by what follows that: that the run stands, where it may have moved
abbrev pub HasFollowed : Then → Spoken → Type 0
HasFollowed thens.Nothing now = ⊤
HasFollowed thens.Pause now = ⊤
HasFollowed (thens.Stopped why) now = HasToldLast (codes "stopped") now
HasFollowed (thens.Move where_to) now = HasToldLast (codes "stopped") now

-- and so it is told if the run stands then
abbrev pub Follows : Then → Course → Result (Unit {0}) Trouble → Spoken → Type 0
Follows what course result now = IfOk result (λ x. course ≡ Stands → HasFollowed what now)

-- what it is told last where the run begins, if that stands then: this, or that the session can be ended where the run isn't debugged
abbrev pub BeginsRun : Bool → Course → Result (Unit {0}) Trouble → Spoken → Type 0
BeginsRun debugs course result now = IfOk result (λ x. course ≡ Stands → HasToldLast (cond debugs (codes "stopped") (codes "terminated")) now)

-- a message is answered: a request has its response, and nothing is sent for what is none; a restart is responded to later
abbrev pub Hears : Result Next Trouble → List ℕ → Spoken → Spoken → Type 0
Hears (Ok Message) body old now =
    (start : Spoken) (before : List Asked) → HasReplied start before old → (AsksNothing body × HasReplied start before now) ⊎ HasHeard IsStaying start before body now
Hears (Ok (End Terminated)) body old now = (start : Spoken) (before : List Asked) → HasReplied start before old → HasHeard IsStaying start before body now
Hears (Ok (End Left)) body old now = (start : Spoken) (before : List Asked) → HasReplied start before old → HasHeard IsFarewell start before body now
Hears (Ok Restart) body old now = AsksToStay body × (now ≡ old)
Hears (Err OutOfMemory) body old now = (start : Spoken) (before : List Asked) → HasReplied start before old → HasReplied start before now ⊎ HasHeard (λ a. ⊤) start before body now
Hears (Err Device) body old now = (start : Spoken) (before : List Asked) → HasReplied start before old → (a : Asked) × Asks body a × HasRepliedPart start (before ++ a ∷ []) now

-- all that is read from a response on is responded to, until the session is closed
abbrev pub GoesOn : {A : Type 0} → Result (Closed A) Ended → Heard → Heard → Type 0
GoesOn result old now = (start : Heard) → HasStayed start old → IsClosed result start now

-- what is sent when a session is closed belongs to the last request
abbrev pub Closes : {A : Type 0} → Result (Closed A) Ended → Closed A → Heard → Heard → Type 0
Closes result closed old now = (start : Heard) → IsClosed (Ok closed) start old → IsClosed result start now

-- a message is responded to by a session, and so is all that is read in it
abbrev pub ServesAgain : {A : Type 0} → Result (Closed A) Ended → List ℕ → Heard → Heard → Type 0
ServesAgain result body old now = (start : Heard) → IsRead start body old → AsksToStay body → IsClosed result start now

-- how far a conversation has come when another message may be read, or how it ended
abbrev pub StandsAfter : Result (Unit {0}) Ended → Heard → Heard → Type 0
StandsAfter (Ok x) start now = IsIdle start now
StandsAfter (Err ended) start now = IsConversation ended start now

-- a call responds to a request, and to all that are read after it
abbrev pub ServesOn : Result (Unit {0}) Ended → Asked → Heard → Heard → Type 0
ServesOn result a old now = (start : Heard) (before : List Asked) → IsPending start before a old → StandsAfter result start now

-- a call responds to a message, and to all that are read after it
abbrev pub ServesMessage : Result (Unit {0}) Ended → List ℕ → Heard → Heard → Type 0
ServesMessage result body old now = (start : Heard) → IsRead start body old → StandsAfter result start now
