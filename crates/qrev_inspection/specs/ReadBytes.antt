-- Bytes of memory that a request asks for.
use Rattle.std.specs.Prelude.{◌≡◌, ◌⊎◌, ℕ, suc, ◌+◌, ◌-◌, ◌^◌, ◌%◌, ◌≤◌, ℤ, pos, negsuc, List, [], ◌∷◌, ◌++◌, cond, ltb, min, codes, decimal, length, slice_get, Option, Some, None, Ok}
use Rattle.std.specs.Str.Parse.{ParsesUnsigned}
use Rattle.base64.specs.GeneralPurpose.{encode_of}
use Rattle.base64.specs.Engines.{standard}
use Rattle.json.specs.Json.{Json}
use Rattle.json.specs.Token.{Token, key, string, number}
use Rattle.json.specs.Written.{Written}
use Rattle.qil_memory.specs.Live.{Live}
use Rattle.qrev_protocol.specs.Outgoing.{Adds}
use Rattle.qrev_debuggee.specs.declared.failure.Failure.{Failure}
use Rattle.qrev_debuggee.specs.declared.failure.Failure.TheVariants.{Because, OutOfMemory}
use Rattle.qrev_debuggee.specs.declared.failure.Cause.TheVariants.{NoAddress, NoCount}
use Rattle.qrev_requests.specs.Members.{member_in, text_in, IsNumberIn, IsSignedIn}

-- an address that lies so far from another; addresses are counted modulo 2^64
abbrev pub address_after : ℕ → ℕ → ℕ
address_after a n = (a + n) % 2 ^ 64

abbrev pub IsMovedBy : ℕ → ℤ → ℕ → Type 0
IsMovedBy start (pos n) a = a ≡ address_after start n
IsMovedBy start (negsuc n) a = address_after a (suc n) ≡ start

-- the live bytes from an address on, up to the first dead one, and at most so many
pub record AreRead (m : Live) (a most : ℕ) (bytes : List ℕ) : Type 0 where
  pub live : (i b : ℕ) → slice_get bytes i ≡ Some b → m (address_after a i) ≡ Some b
  pub few : length bytes ≤ most
  pub all : (length bytes ≡ most) ⊎ (m (address_after a (length bytes)) ≡ None)

-- the offset that a request says: none is 0
abbrev pub SaysOffset : Option Json → ℤ → Type 0
SaysOffset json offset = ((member_in (codes "offset") json ≡ None) × (offset ≡ pos 0)) ⊎ IsSignedIn (codes "offset") json (Some offset)

-- the address that it says: a reference in digits, moved by the offset
pub record SaysAddress (json : Option Json) (a : ℕ) : Type 0 where
  pub text : List ℕ
  pub start : ℕ
  pub offset : ℤ
  pub is_said : text_in (codes "memoryReference") json ≡ Some text
  pub is_start : ParsesUnsigned {E = ℕ} 64 10 text (Ok start)
  pub is_offset : SaysOffset json offset
  pub is_moved : IsMovedBy start offset a

-- it says none: no reference in digits of 64 bits, or an offset that is no whole number
abbrev pub SaysNoAddress : Option Json → Type 0
SaysNoAddress json = (a : ℕ) → SaysAddress json a → ⊥

-- at most so many are read at once
abbrev pub read_limit : ℕ
read_limit = 65536

-- how many weren't read
abbrev pub unreadable_member : ℕ → ℕ → List Token
unreadable_member count read = cond (ltb read (min count read_limit)) (key (codes "unreadableBytes") ∷ number (decimal (count - read)) ∷ []) []

-- bytes that were read from an address on, of so many
abbrev pub memory_members : ℕ → ℕ → List ℕ → List Token
memory_members a count bytes =
    key (codes "address") ∷ string (decimal a) ∷ key (codes "data") ∷ string (encode_of standard bytes) ∷ unreadable_member count (length bytes)

-- those that a request asks for were added
pub record ShowsBytes (m : Live) (json : Option Json) (old new : Written) : Type 0 where
  pub address : ℕ
  pub count : ℕ
  pub bytes : List ℕ
  pub is_address : SaysAddress json address
  pub is_count : IsNumberIn (codes "count") json (Some count)
  pub are_read : AreRead m address (min count read_limit) bytes
  pub added : Adds old new (memory_members address count bytes)

-- why none are read: memory ran out, or the request says no address, or not how many
abbrev pub HasNoBytes : Option Json → Failure → Type 0
HasNoBytes json why = (why ≡ OutOfMemory)
    ⊎ (((why ≡ Because NoAddress) × SaysNoAddress json) ⊎ ((why ≡ Because NoCount) × IsNumberIn (codes "count") json None))
