-- The occurrences so far, and those of the sources that are left, are all occurrences.
use Rattle.std.proofs.Common.{◌≡◌, ◌++◌, drop}
use Rattle.std.specs.List.{flat_map}
use Rattle.qil_rules.specs.Occurrences.{source_occurrences}
use Rattle.qil_checker.proofs.walk.push_sources.Given as goal

abbrev pub invariant-loop-source : goal.invariant-loop-source
invariant-loop-source g l = l.out.items ++ flat_map (λ s. source_occurrences l.line l.class s) (drop l.source-index l.sources) ≡ l.fn.out.items ++ flat_map (λ s. source_occurrences l.line l.class s) l.sources
