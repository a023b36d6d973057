-- The moves so far, with those of the phis that are left, are all.
use Rattle.std.proofs.Common.{◌≡◌, ◌++◌, List, ℕ, drop}
use Rattle.std.specs.List.{flat_map}
use Rattle.qil_symbols.specs.Tables.{values_at}
use Rattle.qil_code.specs.Numbered.{one_phi_moves}
use Rattle.qil_resolution.proofs.moves.moves_of.Given as goal

abbrev pub invariant-loop-phi : goal.invariant-loop-phi
invariant-loop-phi g l = (x : List ℕ) → values_at l.table.lists x ++ flat_map (one_phi_moves l.resolver.image.now l.resolver.temps.now x) (drop l.phi-index l.block.phis) ≡ flat_map (one_phi_moves l.resolver.image.now l.resolver.temps.now x) l.block.phis
