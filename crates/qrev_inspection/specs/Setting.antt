-- What setting a variable does to a session: one poke, of what a request names, with the value that it says.
use Rattle.std.specs.Prelude.{◌≡◌, ◌⊎◌, ℕ, ◌^◌, ◌+◌, ◌≤◌, ◌==◌, cond, true, List, [], ◌∷◌, length, Option, Some, None, Result, Ok, Err, codes, decimal, unwrap_or}
use Rattle.json.specs.Json.{Json}
use Rattle.qil_fragments.specs.Texts.{text_of}
use Rattle.qil_tree.specs.declared.ops.Width.{Width}
use Rattle.qil_layout.specs.Layout.{width_bytes}
use Rattle.qil_commands.specs.Numbers.{is_name, value_of}
use Rattle.qil_commands.specs.declared.command.Address.TheVariants as addresses
use Rattle.qil_semantics.specs.State.{Name, State}
use Rattle.qil_semantics.specs.Poke.{PokeFault, poke_memory, poke_temp}
use Rattle.qil_semantics.specs.Timeline.{to}
use Rattle.qrev_map.specs.declared.names.FloatClass.{FloatClass}
use Rattle.qrev_debuggee.specs.qrev_recorder.qil_replies.SessionState.{SessionState, resolved_address}
use Rattle.qrev_debuggee.specs.declared.failure.Failure.{Failure}
use Rattle.qrev_debuggee.specs.declared.failure.Failure.TheVariants.{Because, OutOfMemory}
use Rattle.qrev_debuggee.specs.declared.failure.Cause.TheVariants.{NoMemory, ScriptFull}
use Rattle.qrev_inspection.specs.Requested.{Says, said_in}

-- ---- the lines of the session by which that is done

abbrev pub set_line : List ℕ → List ℕ → List ℕ
set_line name value = text_of (codes "set %" ∷ name ∷ codes " " ∷ value ∷ [])

-- of a data object, and of memory at an address
abbrev pub poke_line : List ℕ → List ℕ → List ℕ → List ℕ
poke_line letter name value = text_of (codes "poke " ∷ letter ∷ codes " $" ∷ name ∷ codes " " ∷ value ∷ [])

abbrev pub poke_at_line : List ℕ → ℕ → List ℕ → List ℕ
poke_at_line letter a value = text_of (codes "poke " ∷ letter ∷ codes " " ∷ decimal a ∷ codes " " ∷ value ∷ [])

-- ---- one poke

-- it was made: the session stands behind it, and all else of it stays
pub record IsPoked {A : Type 0} (old new : SessionState A) (poked : Result State PokeFault) : Type 0 where
  pub state : State
  pub is_made : poked ≡ Ok state
  pub left : new ≡ record old { timeline = to state old.timeline }

-- a text without this byte before it
abbrev pub without : ℕ → List ℕ → List ℕ
without byte [] = []
without byte (b ∷ text) = cond (b == byte) text (b ∷ text)

-- the words by which a value is set: those of a number of 64 bits, with or without a sign, as they are, if no float is meant
abbrev pub AreWords : Option FloatClass → List ℕ → List ℕ → Type 0
AreWords float text words = float ≡ None → (n : ℕ) → value_of text ≡ Some n → words ≡ text

-- A temporary of the innermost frame was set. If nothing beside the text tells of other names or of floats, it is the one that a
-- name says, and to the number that a text says.
pub record SetsTemp {A : Type 0} (old new : SessionState A) (names name text : List ℕ) : Type 0 where
  pub temp : Name
  pub value : ℕ
  pub poked : IsPoked old new (poke_temp old.program old.timeline.now temp value)
  pub is_named : names ≡ [] → is_name (without 37 name) ≡ true → temp ≡ without 37 name
  pub is_value : names ≡ [] → (n : ℕ) → value_of text ≡ Some n → value ≡ n

-- Why none is set, if nothing beside the text tells of other names or of floats, and a name and a number of 64 bits are said, so
-- short that a line holds them: memory ran out, the script is full, or the state has no such temporary.
abbrev pub RefusesTemp : {A : Type 0} → SessionState A → List ℕ → List ℕ → List ℕ → Failure → Type 0
RefusesTemp old names name text why =
    names ≡ [] → is_name (without 37 name) ≡ true → (n : ℕ) → value_of text ≡ Some n → length (set_line (without 37 name) text) ≤ 256
    → (why ≡ OutOfMemory) ⊎ ((why ≡ Because NoMemory) ⊎ ((why ≡ Because ScriptFull) ⊎ ((fault : PokeFault) × (poke_temp old.program old.timeline.now (without 37 name) n ≡ Err fault))))

-- bytes from the address of a global on were set, in the same way
pub record SetsData {A : Type 0} (old new : SessionState A) (names name text : List ℕ) : Type 0 where
  pub width : Width
  pub address : ℕ
  pub value : ℕ
  pub poked : IsPoked old new (poke_memory old.timeline.now address (width_bytes width) value)
  pub is_named : is_name (without 36 name) ≡ true → resolved_address old.program (addresses.Global (without 36 name) 0) ≡ Some address
  pub is_value : names ≡ [] → (n : ℕ) → value_of text ≡ Some n → value ≡ n

-- a temporary of the innermost frame, or bytes of memory
abbrev pub PokesOnce : {A : Type 0} → SessionState A → SessionState A → Type 0
PokesOnce old new = ((temp : Name) × (value : ℕ) × IsPoked old new (poke_temp old.program old.timeline.now temp value))
    ⊎ ((address : ℕ) × (width : Width) × (value : ℕ) × IsPoked old new (poke_memory old.timeline.now address (width_bytes width) value))

-- ---- a request

-- What a reference and a name say was set: a temporary of the innermost frame, whose reference is 1, or a data object.
abbrev pub SetsNamed : {A : Type 0} → SessionState A → SessionState A → List ℕ → ℕ → List ℕ → List ℕ → Type 0
SetsNamed old new names reference name text =
    ((reference ≡ 1) × SetsTemp old new names name text) ⊎ ((reference ≡ 2 ^ 30 + 1) × SetsData old new names name text)

-- the same by what it says
pub record SetsVariable {A : Type 0} (old new : SessionState A) (names : List ℕ) (json : Option Json) : Type 0 where
  pub reference : ℕ
  pub is_said : Says (codes "variablesReference") json 0 reference
  pub set : SetsNamed old new names reference (said_in (codes "name") json) (said_in (codes "value") json)

-- why it wasn't, where reference 1 is said
abbrev pub RefusesNamed : {A : Type 0} → SessionState A → List ℕ → ℕ → List ℕ → List ℕ → Failure → Type 0
RefusesNamed old names reference name text why = reference ≡ 1 → RefusesTemp old names name text why

pub record RefusesVariable {A : Type 0} (old : SessionState A) (names : List ℕ) (json : Option Json) (why : Failure) : Type 0 where
  pub reference : ℕ
  pub is_said : Says (codes "variablesReference") json 0 reference
  pub refused : RefusesNamed old names reference (said_in (codes "name") json) (said_in (codes "value") json) why

-- nothing was set, and the session is as before, unless memory ran out
abbrev pub Stays : {A : Type 0} → SessionState A → SessionState A → Failure → Type 0
Stays old new why = (why ≡ OutOfMemory) ⊎ (new ≡ old)
