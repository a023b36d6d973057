-- The scopes of a frame, as the tokens of an editor's list.
use Rattle.std.specs.Prelude.{ℕ, ◌+◌, ◌^◌, false, List, [], ◌∷◌, ◌++◌, length, codes, decimal, Option, Some, None}
use Rattle.json.specs.Token.{Token, begin_object, end_object, begin_array, end_array, key, string, number, boolean}
use Rattle.qil_frames.specs.Frames.{SlotFrame}

-- the name of a scope
abbrev pub scope_name : List ℕ → List Token
scope_name name = begin_object ∷ key (codes "name") ∷ string name ∷ []

-- how it should be shown
abbrev pub scope_hint : List ℕ → List Token
scope_hint hint = key (codes "presentationHint") ∷ string hint ∷ []

-- by which reference its variables are asked for, and how many there are
abbrev pub scope_variables : ℕ → ℕ → List Token
scope_variables reference count =
    key (codes "variablesReference") ∷ number (decimal reference) ∷ key (codes "namedVariables") ∷ number (decimal count)
    ∷ key (codes "expensive") ∷ boolean false ∷ end_object ∷ []

-- a scope with a hint
abbrev pub hinted_scope : List ℕ → List ℕ → ℕ → ℕ → List Token
hinted_scope name hint reference count = scope_name name ++ (scope_hint hint ++ scope_variables reference count)

-- the temporaries of the frame of a number, if there is one: its number is their reference
abbrev pub locals_scope : ℕ → Option SlotFrame → List Token
locals_scope n None = []
locals_scope n (Some f) = hinted_scope (codes "Temporaries") (codes "locals") n (length f.slots)

-- that scope, the data objects, and what else a state has
abbrev pub scopes_tokens : ℕ → Option SlotFrame → ℕ → List Token
scopes_tokens n frame datas =
    key (codes "scopes") ∷ begin_array
    ∷ (locals_scope n frame ++ (scope_name (codes "Data") ++ (scope_variables (2 ^ 30 + 1) datas ++ (hinted_scope (codes "Machine") (codes "registers") (2 ^ 30) 4 ++ end_array ∷ []))))
