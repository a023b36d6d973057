-- The loop over the lines of the map.
use Rattle.qrev_map.proofs.Gathered.{IsGathered}
use Rattle.qrev_map.proofs.map.Map.file.Given as goal

abbrev pub invariant-loop-index : goal.invariant-loop-index
invariant-loop-index g l = IsGathered l.fn.self.text.items l.fn.path l.fn.self.spans.items l.index l.mappings.items
