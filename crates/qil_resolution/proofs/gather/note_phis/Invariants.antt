-- The names so far, with those that are left, are all.
use Rattle.std.proofs.Common.{◌≡◌, drop}
use Rattle.std.specs.List.{flat_map}
use Rattle.qil_symbols.specs.Numbers.{recorded}
use Rattle.qil_semantics.specs.Names.{phi_names}
use Rattle.qil_resolution.proofs.gather.note_phis.Given as goal

abbrev pub invariant-loop-phi : goal.invariant-loop-phi
invariant-loop-phi g l = recorded l.names (flat_map phi_names (drop l.phi-index l.phis)) ≡ recorded l.fn.names (flat_map phi_names l.phis)
