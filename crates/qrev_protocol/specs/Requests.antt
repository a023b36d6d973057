-- What is read of a message: members of its JSON by name.
use Rattle.std.specs.Prelude.{◌≡◌, ℕ, List, Option, Some, Ok, codes, option_and_then}
use Rattle.std.specs.Str.Parse.{ParsesUnsigned}
use Rattle.json.specs.Json.{Json}
use Rattle.json.specs.Find.{get, as_str, as_number}
use Rattle.qrev_protocol.specs.declared.request.Request.{Request}

abbrev pub text_in : List ℕ → Json → Option (List ℕ)
text_in name message = option_and_then as_str (get name message)

abbrev pub number_in : List ℕ → Json → Option (List ℕ)
number_in name message = option_and_then as_number (get name message)

-- a message is a request: its kind says so, and it has a number in digits and a command
pub record IsRequest (message : Json) (request : Request) : Type 0 where
  pub kind : text_in (codes "type") message ≡ Some (codes "request")
  pub seq : (text : List ℕ) × (number_in (codes "seq") message ≡ Some text) × ParsesUnsigned {E = ℕ} 64 10 text (Ok request.seq)
  pub command : text_in (codes "command") message ≡ Some request.command.now

-- it is none
abbrev pub IsNoRequest : Json → Type 0
IsNoRequest message = (request : Request) → IsRequest message request → ⊥
