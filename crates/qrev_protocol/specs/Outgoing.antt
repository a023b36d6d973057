-- What goes out: the tokens of JSON that calls add, and how messages begin.
use Rattle.std.specs.Prelude.{◌≡◌, ℕ, List, [], ◌∷◌, ◌++◌, codes, decimal, true, false}
use Rattle.json.specs.Token.{Token, begin_object, key, string, number, boolean}
use Rattle.json.specs.Written.{Written}
use Rattle.qrev_protocol.specs.declared.outgoing.Outcome.{Outcome}
use Rattle.qrev_protocol.specs.declared.outgoing.Outcome.TheVariants.{Done, Failed}

-- a call added these tokens after those that were written
abbrev pub Adds : Written → Written → List Token → Type 0
Adds old new tokens = new.tokens ≡ old.tokens ++ tokens

-- how every message begins
abbrev pub message_head : List ℕ → List Token
message_head kind = begin_object ∷ key (codes "type") ∷ string kind ∷ []

abbrev pub outcome_tokens : Outcome → List Token
outcome_tokens Done = key (codes "success") ∷ boolean true ∷ []
outcome_tokens (Failed why) = key (codes "success") ∷ boolean false ∷ key (codes "message") ∷ string why.now ∷ []

-- a response up to its body
abbrev pub response_head : ℕ → List ℕ → Outcome → List Token
response_head request command outcome =
    message_head (codes "response") ++ key (codes "request_seq") ∷ number (decimal request) ∷ key (codes "command") ∷ string command ∷ outcome_tokens outcome

-- an event up to its body
abbrev pub event_head : List ℕ → List Token
event_head event = message_head (codes "event") ++ key (codes "event") ∷ string event ∷ []
