-- The names so far, with those that are left, are all.
use Rattle.std.proofs.Common.{◌≡◌, drop}
use Rattle.std.specs.List.{flat_map}
use Rattle.qil_symbols.specs.Numbers.{recorded}
use Rattle.qil_semantics.specs.Names.{inst_names}
use Rattle.qil_resolution.proofs.gather.note_insts.Given as goal

abbrev pub invariant-loop-inst : goal.invariant-loop-inst
invariant-loop-inst g l = recorded l.names (flat_map inst_names (drop l.inst-index l.insts)) ≡ recorded l.fn.names (flat_map inst_names l.insts)
