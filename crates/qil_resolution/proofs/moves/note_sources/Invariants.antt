-- The moves so far, with those of the sources that are left, are all.
use Rattle.std.proofs.Common.{◌≡◌, ◌++◌, List, ℕ, drop}
use Rattle.qil_symbols.specs.Tables.{values_at}
use Rattle.qil_code.specs.Moves.{source_moves}
use Rattle.qil_resolution.proofs.moves.note_sources.Given as goal

abbrev pub invariant-loop-source : goal.invariant-loop-source
invariant-loop-source g l = (x : List ℕ) → values_at l.table.lists x ++ source_moves l.resolver.image.now l.resolver.temps.now x l.target (drop l.source-index l.sources) ≡ values_at l.fn.table.lists x ++ source_moves l.resolver.image.now l.resolver.temps.now x l.target l.sources
