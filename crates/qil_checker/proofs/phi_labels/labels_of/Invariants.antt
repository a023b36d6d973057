-- The labels so far, and those of the sources that are left, are all labels.
use Rattle.std.proofs.Common.{◌≡◌, ◌++◌, drop}
use Rattle.qil_rules.specs.Text.{labels_of}
use Rattle.qil_checker.proofs.phi_labels.labels_of.Given as goal

abbrev pub invariant-loop-source : goal.invariant-loop-source
invariant-loop-source g l = l.labels.items ++ labels_of (drop l.source-index l.sources) ≡ labels_of l.sources
