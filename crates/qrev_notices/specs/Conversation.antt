-- A conversation with an editor: the requests that were read, and the messages that were written.
use Rattle.std.specs.Prelude.{◌≡◌, ℕ, suc, ◌+◌, List, [], ◌∷◌, ◌++◌, length, flat_map, ⊤, Option, Result, Ok, Err, ◌⊎◌, codes, decimal}
use Rattle.std.specs.List.{AllByRecursion}
use Rattle.std.specs.Io.KnownBytes.{Appends}
use Rattle.qil_streams.specs.Device.{IsPrefixOf}
use Rattle.json.specs.Token.{Token, end_object, key, number}
use Rattle.json.specs.Print.{print}
use Rattle.qrev_protocol.specs.Frame.{framed}
use Rattle.qrev_protocol.specs.Open.{IsJson}
use Rattle.qrev_protocol.specs.Outgoing.{response_head, event_head}
use Rattle.qrev_protocol.specs.declared.outgoing.Outcome.{Outcome}
use Rattle.qrev_protocol.specs.declared.request.Request.{Request}
use Rattle.qrev_notices.specs.declared.trouble.Trouble.{Trouble}
use Rattle.qrev_notices.specs.declared.trouble.Trouble.TheVariants.{OutOfMemory, Device}
use Rattle.qrev_notices.specs.declared.port.Port.{Port}

-- what a request has that its response names: its number, and its command
pub record Asked : Type 0 where
  pub seq : ℕ
  pub command : List ℕ

abbrev pub asked_by : Request → Asked
asked_by r = record { seq = r.seq; command = r.command.now }

-- the text of a message whose last member is its number
abbrev pub message_text : ℕ → List Token → List ℕ
message_text n tokens = print (tokens ++ key (codes "seq") ∷ number (decimal n) ∷ end_object ∷ [])

-- a text is that of the n-th message
abbrev pub IsNumbered : ℕ → List ℕ → Type 0
IsNumbered n text = (tokens : List Token) × (text ≡ message_text n tokens)

-- a text begins as these tokens do
abbrev pub BeginsAs : List ℕ → List Token → Type 0
BeginsAs text head = (more : List ℕ) × (text ≡ print head ++ more)

-- a text responds to a request: it names the request's number and command, and says how it went
abbrev pub IsResponse : Asked → List ℕ → Type 0
IsResponse a text = (outcome : Outcome) × BeginsAs text (response_head a.seq a.command outcome)

abbrev pub IsEvent : List ℕ → Type 0
IsEvent text = (name : List ℕ) × BeginsAs text (event_head name)

-- one response to a request, and after it events
abbrev pub AreReply : Asked → List (List ℕ) → Type 0
AreReply a texts = (response : List ℕ) × (events : List (List ℕ)) × IsResponse a response × AllByRecursion IsEvent events × (texts ≡ response ∷ events)

-- so for each request, in their order, and nothing else
abbrev pub AreReplies : List Asked → List (List ℕ) → Type 0
AreReplies [] texts = texts ≡ []
AreReplies (a ∷ others) texts = (own later : List (List ℕ)) × AreReply a own × AreReplies others later × (texts ≡ own ++ later)

-- messages are numbered one after the other, the first by n
abbrev pub AreNumbered : ℕ → List (List ℕ) → Type 0
AreNumbered n [] = ⊤
AreNumbered n (text ∷ texts) = IsNumbered n text × AreNumbered (suc n) texts

-- what was written, and how many messages that is
pub record Spoken : Type 0 where
  pub contents : Option (List ℕ)
  pub sent : ℕ

abbrev pub spoken : {A W : Type 0} → (W → Option (List ℕ)) → Port A W → Spoken
spoken contents port = record { contents = contents port.sink; sent = port.sent }

-- these messages were written, each in a frame; they are numbered on, and each is JSON
pub record Says (start now : Spoken) (texts : List (List ℕ)) : Type 0 where
  pub written : Appends start.contents now.contents (flat_map framed texts)
  pub counted : now.sent ≡ start.sent + length texts
  pub numbered : AreNumbered (suc start.sent) texts
  pub json : AllByRecursion IsJson texts

-- a device failed: of these messages a prefix was written
pub record SaysPart (start now : Spoken) (texts : List (List ℕ)) : Type 0 where
  pub part : List ℕ
  pub is_part : IsPrefixOf part (flat_map framed texts)
  pub written : Appends start.contents now.contents part
  pub numbered : AreNumbered (suc start.sent) texts

-- all these requests have been replied to
abbrev pub HasReplied : Spoken → List Asked → Spoken → Type 0
HasReplied start asked now = (texts : List (List ℕ)) × AreReplies asked texts × Says start now texts

-- the same, of a prefix of all that is said
abbrev pub HasRepliedPart : Spoken → List Asked → Spoken → Type 0
HasRepliedPart start asked now = (texts : List (List ℕ)) × AreReplies asked texts × SaysPart start now texts

-- these requests have been replied to, and one after them has its response, after which events may come
abbrev pub HasResponded : Spoken → List Asked → Asked → Spoken → Type 0
HasResponded start before a now = (texts own : List (List ℕ)) × AreReplies before texts × AreReply a own × Says start now (texts ++ own)

-- where memory ran out nothing of the message is there, where a device failed perhaps a part
abbrev pub Sends : {T : Type 0} → Result T Trouble → List ℕ → Spoken → Spoken → Type 0
Sends (Ok x) text old now = Appends old.contents now.contents (framed text) × (now.sent ≡ suc old.sent)
Sends (Err OutOfMemory) text old now = now ≡ old
Sends (Err Device) text old now = (part : List ℕ) × IsPrefixOf part (framed text) × Appends old.contents now.contents part

-- where a request stands whose response may be missing
abbrev pub MayHaveResponded : Spoken → List Asked → Asked → Spoken → Type 0
MayHaveResponded start before a now = HasReplied start before now ⊎ HasResponded start before a now

-- a call gives a request its response, and sends nothing before it; whatever was replied before
abbrev pub Responds : {T : Type 0} → Result T Trouble → Asked → Spoken → Spoken → Type 0
Responds (Ok x) a old now = (start : Spoken) (before : List Asked) → HasReplied start before old → HasResponded start before a now
Responds (Err OutOfMemory) a old now = (start : Spoken) (before : List Asked) → HasReplied start before old → MayHaveResponded start before a now
Responds (Err Device) a old now = (start : Spoken) (before : List Asked) → HasReplied start before old → HasRepliedPart start (before ++ a ∷ []) now

-- a call sends events
abbrev pub Tells : {T : Type 0} → Result T Trouble → Spoken → Spoken → Type 0
Tells (Ok x) old now = (start : Spoken) (before : List Asked) (a : Asked) → HasResponded start before a old → HasResponded start before a now
Tells (Err OutOfMemory) old now = (start : Spoken) (before : List Asked) (a : Asked) → HasResponded start before a old → HasResponded start before a now
Tells (Err Device) old now = (start : Spoken) (before : List Asked) (a : Asked) → HasResponded start before a old → HasRepliedPart start (before ++ a ∷ []) now

-- the tokens of an event, as far as they are there
abbrev pub IsEventSoFar : List Token → Type 0
IsEventSoFar tokens = (name : List ℕ) × (more : List Token) × (tokens ≡ event_head name ++ more)
