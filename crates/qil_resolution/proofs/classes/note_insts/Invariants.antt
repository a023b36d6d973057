-- The classes so far, with those of what is left, are all.
use Rattle.std.proofs.Common.{◌≡◌, List, ℕ, drop}
use Rattle.std.specs.Option.{option_or}
use Rattle.std.specs.List.{flat_map}
use Rattle.qil_symbols.specs.Tables.{value_at}
use Rattle.qil_resolution.specs.Classes.{inst_targets, first_class}
use Rattle.qil_resolution.proofs.classes.note_insts.Given as goal

abbrev pub invariant-loop-inst : goal.invariant-loop-inst
invariant-loop-inst g l = (x : List ℕ) → option_or (value_at l.table.values x) (first_class (flat_map inst_targets (drop l.inst-index l.insts)) x) ≡ option_or (value_at l.fn.table.values x) (first_class (flat_map inst_targets l.insts) x)
