-- What tables say of a name.
use Rattle.std.specs.Prelude.{ℕ, List, [], Option, Some, None, if◌then◌else◌}
use Rattle.std.specs.Str.{bytes_eq}
use Rattle.std.specs.declared.vec.Vec.{Vec}
use Rattle.std.specs.HashMap.{HashMap, get_by}
use denote.Ref.{Bor}

-- the value that represents a name
abbrev pub value_at : {V S : Type 0} → HashMap (Bor (List ℕ)) V S → List ℕ → Option V
value_at m x = get_by (λ k. bytes_eq x k.now) m

-- a value for one name
abbrev pub for_name : {V : Type 0} → List ℕ → V → List ℕ → Option V
for_name name value x = if bytes_eq name x then Some value else None

abbrev pub items_of : {V A : Type 0} → Option (Vec V A) → List V
items_of None = []
items_of (Some vs) = vs.items

-- the values that represent a name
abbrev pub values_at : {V A S : Type 0} → HashMap (Bor (List ℕ)) (Vec V A) S → List ℕ → List V
values_at m x = items_of (value_at m x)

-- the values of a list that is lent
abbrev pub kept : {V A : Type 0} → Option (Bor (Vec V A)) → List V
kept None = []
kept (Some vs) = vs.now.items
