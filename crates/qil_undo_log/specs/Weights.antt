-- What the undo records of a history weigh, all together, and what a move back takes off.
use Rattle.std.specs.Prelude.{◌≡◌, ℕ, ◌+◌, List, [], ◌∷◌, ◌++◌, sum_by}
use Rattle.qil_machine.specs.Moves.{Move, weight}

-- the sum of their weights
abbrev pub total : List Move → ℕ
total ds = sum_by weight ds

-- the weight of the latest goes, and nothing else
abbrev pub TakesLatestOff : List Move → List Move → Type 0
TakesLatestOff before after = (older : List Move) (latest : Move) → before ≡ older ++ latest ∷ [] → total before ≡ total after + weight latest
