-- What was read of an editor's messages, next to what it was told.
use Rattle.std.specs.Prelude.{◌≡◌, ℕ, ◌≤◌, List, [], ◌∷◌, ◌++◌, length, Option, Some, None, Result, Ok, Err, ◌⊎◌, Vec, codes}
use Rattle.std.specs.List.{AllByRecursion}
use Rattle.std.specs.Str.{IsUtf8}
use Rattle.std.specs.Io.KnownBytes.{Consumes, prepend_known}
use Rattle.json.specs.Json.{Json, document}
use Rattle.qrev_protocol.specs.Frame.{IsMessage, HasNone}
use Rattle.qrev_protocol.specs.Incoming.{TakesAll, TakesPrefix}
use Rattle.qrev_protocol.specs.Requests.{IsRequest}
use Rattle.qrev_protocol.specs.declared.request.Request.{Request}
use Rattle.qrev_notices.specs.Conversation.{Asked, asked_by, Spoken, spoken, HasReplied, HasRepliedPart, HasResponded}
use Rattle.qrev_notices.specs.declared.trouble.Trouble.{Trouble}
use Rattle.qrev_notices.specs.declared.trouble.Trouble.TheVariants as troubles
use Rattle.qrev_notices.specs.declared.line.Line.{Line}
use Rattle.qrev_notices.specs.declared.line.Ended.{Ended}
use Rattle.qrev_notices.specs.declared.line.Ended.TheVariants as ends
use Rattle.qrev_notices.specs.declared.line.Closed.{Closed}
use Rattle.qrev_notices.specs.declared.line.Closed.TheVariants as closes

-- a request by which an editor leaves
abbrev pub IsFarewell : Asked → Type 0
IsFarewell a = a.command ≡ codes "disconnect"

-- one after which it goes on
abbrev pub IsStaying : Asked → Type 0
IsStaying a = IsFarewell a → ⊥

abbrev pub AreStaying : List Asked → Type 0
AreStaying asked = AllByRecursion IsStaying asked

-- the body of a message is this JSON
abbrev pub IsDocument : List ℕ → Json → Type 0
IsDocument body json = IsUtf8 body × (document body ≡ Some json)

-- the body of a message is this request
abbrev pub Asks : List ℕ → Asked → Type 0
Asks body a = (json : Json) × (request : Request) × IsDocument body json × IsRequest json request × (asked_by request ≡ a)

-- it is none
abbrev pub AsksNothing : List ℕ → Type 0
AsksNothing body = (a : Asked) → Asks body a → ⊥

-- if it is one, the editor goes on after it
abbrev pub AsksToStay : List ℕ → Type 0
AsksToStay body = (a : Asked) → Asks body a → IsStaying a

-- the requests among the bodies of messages, in their order
abbrev pub AreAsked : List (List ℕ) → List Asked → Type 0
AreAsked [] asked = asked ≡ []
AreAsked (body ∷ bodies) asked = ((a : Asked) × (others : List Asked) × Asks body a × AreAsked bodies others × (asked ≡ a ∷ others)) ⊎ (AsksNothing body × AreAsked bodies asked)

-- a text is messages with these bodies, one after the other
abbrev pub AreMessages : List ℕ → List (List ℕ) → Type 0
AreMessages text [] = text ≡ []
AreMessages text (body ∷ bodies) = (message rest : List ℕ) × IsMessage message body × AreMessages rest bodies × (text ≡ message ++ rest)

-- whole messages were read, among which are these requests
abbrev pub Reads : Option (List ℕ) → Option (List ℕ) → List Asked → Type 0
Reads before after asked = (text : List ℕ) × (bodies : List (List ℕ)) × AreMessages text bodies × AreAsked bodies asked × Consumes before after text

-- what is there to be read, and what was written
pub record Heard : Type 0 where
  pub input : Option (List ℕ)
  pub output : Spoken

abbrev pub heard : {A S W : Type 0} → (S → Option (List ℕ)) → (W → Option (List ℕ)) → Line A S W → Heard
heard remaining contents line = record { input = prepend_known line.incoming.pending (remaining line.source); output = spoken contents line.port }

-- all requests that were read have been replied to, and the editor goes on
abbrev pub IsIdle : Heard → Heard → Type 0
IsIdle start now = (asked : List Asked) × Reads start.input now.input asked × HasReplied start.output asked now.output × AreStaying asked

-- and so have all but the last one
abbrev pub IsPending : Heard → List Asked → Asked → Heard → Type 0
IsPending start before a now = Reads start.input now.input (before ++ a ∷ []) × HasReplied start.output before now.output × AreStaying before

-- a message was read with this body; all requests before it have been replied to
abbrev pub IsRead : Heard → List ℕ → Heard → Type 0
IsRead start body now = (earlier : Option (List ℕ)) × (before : List Asked) × (message : List ℕ) × Reads start.input earlier before × IsMessage message body
    × Consumes earlier now.input message × HasReplied start.output before now.output × AreStaying before

-- all have their responses, and events of the last one may follow
abbrev pub IsAnswered : Heard → Asked → Heard → Type 0
IsAnswered start a now = (before : List Asked) × Reads start.input now.input (before ++ a ∷ []) × HasResponded start.output before a now.output × AreStaying before

-- and the editor goes on after that one
abbrev pub HasStayed : Heard → Heard → Type 0
HasStayed start now = (a : Asked) × IsAnswered start a now × IsStaying a

-- or it leaves by that one
abbrev pub HasLeft : Heard → Heard → Type 0
HasLeft start now = (a : Asked) × IsAnswered start a now × IsFarewell a

-- what is left of the input when all has been replied to is no message
abbrev pub IsOver : Heard → Heard → Type 0
IsOver start now = (middle : Option (List ℕ)) × (asked : List Asked) × (rest : List ℕ) × Reads start.input middle asked × TakesAll middle now.input rest × HasNone rest
    × HasReplied start.output asked now.output × AreStaying asked

-- the first requests have been replied to, and perhaps one more was read; how much of the input was taken behind them isn't said
abbrev pub IsCut : Heard → Heard → Type 0
IsCut start now = (after : Option (List ℕ)) × (asked more : List Asked) × Reads start.input after (asked ++ more) × (length more ≤ 1) × TakesPrefix after now.input
    × HasReplied start.output asked now.output

-- the first requests were read, and of the replies to them a prefix was written
abbrev pub IsBroken : Heard → Heard → Type 0
IsBroken start now = (after : Option (List ℕ)) × (asked : List Asked) × Reads start.input after asked × TakesPrefix after now.input × HasRepliedPart start.output asked now.output

-- how a conversation ended
abbrev pub IsConversation : Ended → Heard → Heard → Type 0
IsConversation ends.Left start now = HasLeft start now
IsConversation ends.InputEnded start now = IsOver start now
IsConversation ends.OutOfMemory start now = IsCut start now
IsConversation ends.Broken start now = IsBroken start now

-- how a session was closed; the message of a restart isn't responded to so far
abbrev pub IsClosed : {A : Type 0} → Result (Closed A) Ended → Heard → Heard → Type 0
IsClosed (Ok closes.Terminated) start now = HasStayed start now
IsClosed (Ok closes.Left) start now = HasLeft start now
IsClosed (Ok closes.InputEnded) start now = IsOver start now
IsClosed (Ok (closes.Restarted body)) start now = IsRead start body.items now × AsksToStay body.items
IsClosed (Err ended) start now = IsConversation ended start now

-- a call responds to a request after which the editor goes on, and to all that are read after it
abbrev pub Serves : {A : Type 0} → Result (Closed A) Ended → Asked → Heard → Heard → Type 0
Serves result a old now = (start : Heard) (before : List Asked) → IsPending start before a old → IsStaying a → IsClosed result start now

-- how the adapter ends by a trouble
abbrev pub ended_by : Trouble → Ended
ended_by troubles.OutOfMemory = ends.OutOfMemory
ended_by troubles.Device = ends.Broken

-- how a session is closed that wasn't opened: by a request that was refused
abbrev pub IsClosedBy : {A : Type 0} → Result (Closed A) Ended → Result (Unit {0}) Trouble → Type 0
IsClosedBy result (Ok x) = result ≡ Ok closes.Terminated
IsClosedBy result (Err trouble) = result ≡ Err (ended_by trouble)

-- the next message, or none where the input ended
abbrev pub ReadsNext : {A : Type 0} → Result (Option (Vec ℕ A)) Ended → Option (List ℕ) → Option (List ℕ) → Type 0
ReadsNext (Ok (Some body)) before after = (message : List ℕ) × IsMessage message body.items × Consumes before after message
ReadsNext (Ok None) before after = (rest : List ℕ) × TakesAll before after rest × HasNone rest
ReadsNext (Err ends.Left) before after = ⊥
ReadsNext (Err ends.InputEnded) before after = ⊥
ReadsNext (Err ends.Broken) before after = TakesPrefix before after
ReadsNext (Err ends.OutOfMemory) before after = TakesPrefix before after
