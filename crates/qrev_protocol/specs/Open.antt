-- Objects and arrays of JSON while they are written, and the texts that are JSON.
use Rattle.std.specs.Prelude.{◌≡◌, ℕ, List, [], ◌∷◌, ◌++◌}
use Rattle.std.specs.List.{AllByRecursion, flat_map}
use Rattle.json.specs.Token.{Token, begin_object, begin_array, key}
use Rattle.json.specs.Json.{Json}
use Rattle.json.specs.Tree.{json_tokens, HasNumbers}
use Rattle.json.specs.Print.{print}

-- a text is JSON: it is that of a value
abbrev pub IsJson : List ℕ → Type 0
IsJson text = ∥ ((json : Json) × HasNumbers json × (text ≡ print (json_tokens json))) ∥₁

-- a member of an object: its name and its value
abbrev pub Member : Type 0
Member = List ℕ × Json

abbrev pub member_tokens : Member → List Token
member_tokens m = key m.0 ∷ json_tokens m.1

-- these tokens open an object at a place that a value may stand at, and end with one of its members, or before the first
abbrev pub IsOpenObject : (List Token → Type 0) → List Token → Type 0
IsOpenObject Leads tokens =
    ∥ ((before : List Token) × (members : List Member) × Leads before × AllByRecursion (λ m. HasNumbers m.1) members × (tokens ≡ before ++ begin_object ∷ flat_map member_tokens members)) ∥₁

-- the same of an array and its items
abbrev pub IsOpenArray : (List Token → Type 0) → List Token → Type 0
IsOpenArray Leads tokens =
    ∥ ((before : List Token) × (items : List Json) × Leads before × AllByRecursion HasNumbers items × (tokens ≡ before ++ begin_array ∷ flat_map json_tokens items)) ∥₁

-- a value may stand behind these tokens: no other stands before it
abbrev pub LeadsToWhole : List Token → Type 0
LeadsToWhole tokens = tokens ≡ []

-- they end with the name of a member of an open object
abbrev pub LeadsToMember : (List Token → Type 0) → List Token → Type 0
LeadsToMember Leads tokens = (opened : List Token) × (name : List ℕ) × IsOpenObject Leads opened × (tokens ≡ opened ++ key name ∷ [])
