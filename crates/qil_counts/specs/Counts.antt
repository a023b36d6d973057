-- How many of the states from which moves are made stand at each place of a program.
use Rattle.std.specs.Prelude.{◌≡◌, ℕ, ◌+◌, Bool, false, ◌==◌, ◌&&◌, nat_le, nat_lt, if◌then◌else◌, List, [], length, map, flat_map, Option, Some, None}
use Rattle.std.specs.List.{filter, range_with_len}
use Rattle.qil_tree.specs.declared.tree.Block.{Block}
use Rattle.qil_tree.specs.declared.tree.Func.{Func}
use Rattle.qil_tree.specs.declared.tree.Program.{Program}
use Rattle.qil_semantics.specs.State.{State}
use Rattle.qil_semantics.specs.Stops.{is_at}
use Rattle.qil_semantics.specs.Stops as meaning
use Rattle.qil_semantics.specs.Timeline.{Timeline, moved}
use Rattle.qil_code.specs.Numbered.{func_at, block_at}
use Rattle.qil_state.specs.State.{func_name, label_in}
use Rattle.qil_counts.specs.declared.count.CodePlace.{CodePlace}
use Rattle.qil_counts.specs.declared.count.Count.{Count}

-- ---- the places of a program, in the order of the text

abbrev pub place_at : ℕ → ℕ → ℕ → CodePlace
place_at f b k = record { func = record { index = f }; block = record { index = b }; index = k }

-- of a block: each instruction, and the jump behind them
abbrev pub block_places : {A : Type 0} → ℕ → ℕ → Option (Block A) → List CodePlace
block_places f b None = []
block_places f b (Some block) = map (place_at f b) (range_with_len 0 (length block.insts + 1))

abbrev pub block_count : {A : Type 0} → Option (Func A) → ℕ
block_count None = 0
block_count (Some func) = length func.blocks

abbrev pub func_places : {A : Type 0} → Program A → ℕ → List CodePlace
func_places p f = flat_map (λ b. block_places f b (block_at p f b)) (range_with_len 0 (block_count (func_at p f)))

unfoldable pub places : {A : Type 0} → Program A → List CodePlace
places p = flat_map (func_places p) (range_with_len 0 (length p.funcs))

-- a place by names
abbrev pub named_place : {A : Type 0} → Program A → CodePlace → meaning.Place
named_place p place = record {
  func = func_name (func_at p place.func.index);
  label = label_in (block_at p place.func.index place.block.index);
  index = place.index;
}

-- ---- counts

-- the states from which the first k moves forward are made
abbrev pub states_by : {A : Type 0} → Program A → Timeline → ℕ → List State
states_by p t k = map (λ j. (moved p j t).now) (range_with_len 0 k)

-- how many of some states stand at a place
abbrev pub count_of : {A : Type 0} → Program A → List State → CodePlace → Count
count_of p states place = record { place = place; count = length (filter (is_at (named_place p place)) states) }

-- of each place how many of the states from which the first k moves forward are made stand there
unfoldable pub counts_by : {A : Type 0} → Program A → Timeline → ℕ → List Count
counts_by p t k = map (count_of p (states_by p t k)) (places p)

abbrev pub is_met : Count → Bool
is_met one = nat_lt 0 one.count

-- those of the places at which some stand
abbrev pub met_by : {A : Type 0} → Program A → Timeline → ℕ → List Count
met_by p t k = filter is_met (counts_by p t k)

-- no more than 4,096 places are told
abbrev pub is_filled : List Count → Bool
is_filled counts = nat_le 4096 (length (filter is_met counts))

-- ---- one state more

abbrev pub same_place : CodePlace → CodePlace → Bool
same_place one other = (one.func.index == other.func.index) && ((one.block.index == other.block.index) && (one.index == other.index))

abbrev pub is_there : Option CodePlace → CodePlace → Bool
is_there None place = false
is_there (Some here) place = same_place here place

-- whatever place of the program it is, a state stands there or not as this place says
abbrev pub IsHere : {A : Type 0} → Program A → State → Option CodePlace → Type 0
IsHere {A} p s here = (place : CodePlace) (func : Func A) (block : Block A) → func_at p place.func.index ≡ Some func → block_at p place.func.index place.block.index ≡ Some block
    → is_there here place ≡ is_at (named_place p place) s

-- one more where a state stands that is here
abbrev pub one_more : Option CodePlace → Count → Count
one_more here one = if is_there here one.place then record one { count = one.count + 1 } else one

-- before any state
abbrev pub unmet : CodePlace → Count
unmet place = record { place = place; count = 0 }

abbrev pub unmet_all : List CodePlace → List Count
unmet_all list = map unmet list
