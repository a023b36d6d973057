-- How the last message begins that was sent.
use Rattle.std.specs.Prelude.{◌≡◌, ℕ, suc, List, ◌++◌, Result, IfOk}
use Rattle.std.specs.Io.KnownBytes.{Appends}
use Rattle.json.specs.Token.{Token}
use Rattle.qrev_protocol.specs.Frame.{framed}
use Rattle.qrev_protocol.specs.Outgoing.{event_head}
use Rattle.qrev_notices.specs.Conversation.{Spoken, BeginsAs}
use Rattle.qrev_notices.specs.declared.trouble.Trouble.{Trouble}

-- the tokens of the event of this name, as far as they are there
abbrev pub IsNamedEvent : List ℕ → List Token → Type 0
IsNamedEvent name tokens = (more : List Token) × (tokens ≡ event_head name ++ more)

-- the last message that was sent is the event of this name
pub record HasToldLast (name : List ℕ) (now : Spoken) : Type 0 where
  pub before : Spoken
  pub text : List ℕ
  pub is_event : BeginsAs text (event_head name)
  pub written : Appends before.contents now.contents (framed text)
  pub counted : now.sent ≡ suc before.sent

-- and so it is where a call succeeds
abbrev pub TellsLast : {T : Type 0} → Result T Trouble → List ℕ → Spoken → Type 0
TellsLast result name now = IfOk result (λ x. HasToldLast name now)
