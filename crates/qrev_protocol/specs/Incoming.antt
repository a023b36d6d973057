-- What calls take of the bytes that come in.
use Rattle.std.specs.Prelude.{◌≡◌, ℕ, ◌+◌, ◌≤◌, ◌<◌, ◌^◌, List, [], ◌∷◌, ◌++◌, length, ⊤, Bool, true, false, Option, Some, None, Result, Ok, Err, Vec}
use Rattle.std.specs.List.{filter}
use Rattle.std.specs.Io.KnownBytes.{Consumes, IsAtEnd}
use Rattle.qrev_protocol.specs.Frame.{ended, IsLine, is_length, Says, SayLength, IsHeader, IsMessage, HasNone, IsLost}
use Rattle.qrev_protocol.specs.declared.line.LineEnd.{LineEnd}
use Rattle.qrev_protocol.specs.declared.line.LineEnd.TheVariants as ends
use Rattle.qrev_protocol.specs.declared.header.Said.{Said}
use Rattle.qrev_protocol.specs.declared.header.Said.TheVariants.{Nothing, Length, Unreadable}
use Rattle.qrev_protocol.specs.declared.incoming.Head.{Head}
use Rattle.qrev_protocol.specs.declared.incoming.Head.TheVariants as heads
use Rattle.qrev_protocol.specs.declared.incoming.Came.{Came}
use Rattle.qrev_protocol.specs.declared.incoming.Came.TheVariants as came
use Rattle.qrev_protocol.specs.declared.incoming.ReadError.{ReadError}
use Rattle.qrev_protocol.specs.declared.incoming.ReadError.TheVariants as errors

-- a prefix was taken that ends where the input does
abbrev pub TakesAll : Option (List ℕ) → Option (List ℕ) → List ℕ → Type 0
TakesAll before after prefix = Consumes before after prefix × IsAtEnd after

-- a call took some prefix of what was left
abbrev pub TakesPrefix : Option (List ℕ) → Option (List ℕ) → Type 0
TakesPrefix before after = (prefix : List ℕ) × Consumes before after prefix

-- whether anything is pending, which is false at the end alone
abbrev pub Fills : {E : Type 0} → Result Bool E → List ℕ → Option (List ℕ) → Option (List ℕ) → Type 0
Fills (Ok true) pending before after = (0 < length pending) × Consumes before after []
Fills (Ok false) pending before after = TakesAll before after []
Fills (Err e) pending before after = Consumes before after []

-- the next byte
abbrev pub TakesByte : {E : Type 0} → Result (Option ℕ) E → Option (List ℕ) → Option (List ℕ) → Type 0
TakesByte (Ok (Some b)) before after = Consumes before after (b ∷ [])
TakesByte (Ok None) before after = TakesAll before after []
TakesByte (Err e) before after = Consumes before after []

-- The next line, of fewer bytes than there is room for. Where it is longer, a prefix of it was taken that fills the room.
abbrev pub TakesLine : {E : Type 0} → Result LineEnd E → ℕ → List ℕ → Option (List ℕ) → Option (List ℕ) → Type 0
TakesLine (Ok ends.Newline) room line before after = IsLine line × (length line < room) × Consumes before after (ended line)
TakesLine (Ok ends.EndOfInput) room line before after = IsLine line × TakesAll before after line
TakesLine (Ok ends.TooLong) room line before after = IsLine line × (length line ≡ room) × Consumes before after line
TakesLine (Err e) room line before after = TakesPrefix before after

-- what a line says of the length
abbrev pub Reads : Said → List ℕ → Type 0
Reads Nothing line = is_length line ≡ false
Reads (Length n) line = (is_length line ≡ true) × Says line n × (n ≤ 2 ^ 20)
Reads Unreadable line = (is_length line ≡ true) × ((n : ℕ) → n ≤ 2 ^ 20 → Says line n → ⊥)

-- what lines say of it, and where they say nothing that a body may have, whatever comes after them
abbrev pub AreSaid : Said → List (List ℕ) → Type 0
AreSaid Nothing lines = filter is_length lines ≡ []
AreSaid (Length n) lines = SayLength lines n × (n ≤ 2 ^ 20)
AreSaid Unreadable lines = (more : List (List ℕ)) (n : ℕ) → n ≤ 2 ^ 20 → SayLength (lines ++ more) n → ⊥

-- a header, or what there is in its place
abbrev pub TakesHead : {E : Type 0} → Result Head E → Option (List ℕ) → Option (List ℕ) → Type 0
TakesHead (Ok (heads.Length n)) before after = (text : List ℕ) × IsHeader text n × (n ≤ 2 ^ 20) × Consumes before after text
TakesHead (Ok heads.End) before after = (prefix : List ℕ) × TakesAll before after prefix × HasNone prefix
TakesHead (Ok heads.Lost) before after = (prefix : List ℕ) × Consumes before after prefix × IsLost prefix
TakesHead (Err e) before after = TakesPrefix before after

-- the bytes of a body, or all that there are where they are fewer
abbrev pub TakesBody : {A E : Type 0} → Result (Option (Vec ℕ A)) E → ℕ → Option (List ℕ) → Option (List ℕ) → Type 0
TakesBody (Ok (Some body)) n before after = (length body.items ≡ n) × Consumes before after body.items
TakesBody (Ok None) n before after = (prefix : List ℕ) × TakesAll before after prefix × (length prefix < n)
TakesBody (Err e) n before after = TakesPrefix before after

-- The next message, taken whole. `End`: the input ended, and is no whole message. `Lost`: no message begins so.
abbrev pub TakesMessage : {A : Type 0} → Result (Came A) ReadError → Option (List ℕ) → Option (List ℕ) → Type 0
TakesMessage (Ok (came.Body body)) before after = (message : List ℕ) × IsMessage message body.items × Consumes before after message
TakesMessage (Ok came.End) before after = (prefix : List ℕ) × TakesAll before after prefix × HasNone prefix
TakesMessage (Ok came.Lost) before after = (prefix : List ℕ) × Consumes before after prefix × IsLost prefix
TakesMessage (Err e) before after = TakesPrefix before after

-- the call gave this body and left these bytes, unless the device failed or memory ran out
abbrev pub Gives : {A : Type 0} → Result (Came A) ReadError → List ℕ → Option (List ℕ) → List ℕ → Type 0
Gives (Ok (came.Body got)) body after more = (got.items ≡ body) × (after ≡ Some more)
Gives (Ok came.End) body after more = ⊥
Gives (Ok came.Lost) body after more = ⊥
Gives (Err e) body after more = ⊤

-- a device that failed counts as one fault, and nothing else does
abbrev pub CountsFault : {T : Type 0} → Result T ReadError → ℕ → ℕ → Type 0
CountsFault (Ok x) old new = new ≡ old
CountsFault (Err errors.Device) old new = new ≡ old + 1
CountsFault (Err errors.OutOfMemory) old new = new ≡ old
