-- What stops represent in a program: places and temporaries by their names.
use Rattle.std.specs.Prelude.{ℕ, Bool, true, false, nat_le, List, length, Option, Some, None, option_map, is_some, slice_get}
use Rattle.std.specs.List.{filter_map}
use Rattle.qil_tree.specs.declared.tree.Block.{Block}
use Rattle.qil_tree.specs.declared.tree.Func.{Func}
use Rattle.qil_tree.specs.declared.tree.Program.{Program}
use Rattle.qil_semantics.specs.State.{Name}
use Rattle.qil_semantics.specs.Stops as meaning
use Rattle.qil_semantics.specs.Stops.{memory_at, temp_in, break_at, watch, Numbered}
use Rattle.qil_history.specs.qil_code.Numbered.{func_at, block_at, names_of}
use Rattle.qil_stops.specs.declared.stop.Place.{Place}
use Rattle.qil_stops.specs.declared.stop.Watched.{Watched}
use Rattle.qil_stops.specs.declared.stop.Watched.TheVariants.{Bytes, Temp}
use Rattle.qil_stops.specs.declared.stop.StopKind.{StopKind}
use Rattle.qil_stops.specs.declared.stop.StopKind.TheVariants.{Break, Watch}
use Rattle.qil_stops.specs.declared.stop.NumberedStop.{NumberedStop}

-- ---- what a program has

-- an instruction of the block, or its jump, which is counted last
abbrev pub has_index : {A : Type 0} → Option (Block A) → ℕ → Bool
has_index None k = false
has_index (Some block) k = nat_le k (length block.insts)

abbrev pub has_place : {A : Type 0} → Program A → Place → Bool
has_place p place = has_index (block_at p place.func.index place.block.index) place.index

abbrev pub has_watched : {A : Type 0} → Program A → Watched → Bool
has_watched p (Bytes a n) = true
has_watched p (Temp func slot) = is_some (slice_get (names_of p func.index) slot.index)

-- ---- by names

abbrev pub break_in : {A : Type 0} → Option (Func A) → Option (Block A) → ℕ → Option meaning.Stop
break_in None block k = None
break_in (Some func) None k = None
break_in (Some func) (Some block) k = Some (break_at (record { func = func.name; label = block.label; index = k }))

abbrev pub watch_in : {A : Type 0} → Option (Func A) → Option Name → Option meaning.Stop
watch_in None x = None
watch_in (Some func) None = None
watch_in (Some func) (Some x) = Some (watch (temp_in func.name x))

-- a breakpoint in a block that the program lacks, and a watch on a temporary that it lacks, represent nothing
abbrev pub named_watch : {A : Type 0} → Program A → Watched → Option meaning.Stop
named_watch p (Bytes a n) = Some (watch (memory_at a n))
named_watch p (Temp func slot) = watch_in (func_at p func.index) (slice_get (names_of p func.index) slot.index)

abbrev pub named_kind : {A : Type 0} → Program A → StopKind → Option meaning.Stop
named_kind p (Break place) = break_in (func_at p place.func.index) (block_at p place.func.index place.block.index) place.index
named_kind p (Watch watched) = named_watch p watched

abbrev pub named : {A : Type 0} → Program A → NumberedStop → Option Numbered
named p stop = option_map (λ meant. record { number = stop.number; stop = meant }) (named_kind p stop.kind)

-- the stops of the meaning that these represent in a program
unfoldable pub named_stops : {A : Type 0} → Program A → List NumberedStop → List Numbered
named_stops p stops = filter_map (named p) stops

-- a test of what a stop represents, which fails of nothing
abbrev pub passes : (meaning.Stop → Bool) → Option meaning.Stop → Bool
passes test None = false
passes test (Some meant) = test meant
