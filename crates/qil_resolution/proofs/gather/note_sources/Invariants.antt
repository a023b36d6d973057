-- The names so far, with those that are left, are all.
use Rattle.std.proofs.Common.{◌≡◌, drop}
use Rattle.qil_symbols.specs.Numbers.{recorded}
use Rattle.qil_code.specs.Gather.{sources_names}
use Rattle.qil_resolution.proofs.gather.note_sources.Given as goal

abbrev pub invariant-loop-source : goal.invariant-loop-source
invariant-loop-source g l = recorded l.names (sources_names (drop l.source-index l.sources)) ≡ recorded l.fn.names (sources_names l.sources)
