-- What the arguments of a request have under a name.
use Rattle.std.specs.Prelude.{◌≡◌, ℕ, ℤ, Bool, List, Option, None, option_map, option_and_then, ok_or, MatchOption}
use Rattle.std.specs.Int.{w64}
use Rattle.std.specs.Str.Parse.{ParsesSigned, ParsesUnsigned}
use Rattle.json.specs.Json.{Json}
use Rattle.json.specs.Find.{get, as_str, as_number, as_bool}
use Rattle.json.specs.Value.{value_view}
use Rattle.qrev_requests.specs.declared.arguments.Arguments.{Arguments}

-- their JSON, if a request has any
abbrev pub json_of : {A : Type 0} → Arguments A → Option Json
json_of asked = option_map (λ value. value_view value.now) asked.value

-- the member of a name: the last one, if there are several
abbrev pub member_in : List ℕ → Option Json → Option Json
member_in name json = option_and_then (get name) json

-- its text, if it is one
abbrev pub text_in : List ℕ → Option Json → Option (List ℕ)
text_in name json = option_and_then as_str (member_in name json)

-- its flag, if it is one
abbrev pub flag_in : List ℕ → Option Json → Option Bool
flag_in name json = option_and_then as_bool (member_in name json)

-- its number, if it is a whole one from 0 to 2^64 - 1, in digits
abbrev pub IsNumberIn : List ℕ → Option Json → Option ℕ → Type 0
IsNumberIn name json n = MatchOption (option_and_then as_number (member_in name json)) (n ≡ None) (λ digits. ParsesUnsigned 64 10 digits (ok_or n digits))

-- the same of one that may be below zero: from -2^63 to 2^63 - 1
abbrev pub IsSignedIn : List ℕ → Option Json → Option ℤ → Type 0
IsSignedIn name json n = MatchOption (option_and_then as_number (member_in name json)) (n ≡ None) (λ digits. ParsesSigned w64 10 digits (ok_or n digits))
