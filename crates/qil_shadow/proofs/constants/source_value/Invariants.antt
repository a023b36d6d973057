-- None of those before is for the label.
use Rattle.std.proofs.Common.{◌≡◌, drop}
use Rattle.std.specs.Prelude.{find}
use Rattle.std.specs.Str.{bytes_eq}
use Rattle.qil_shadow.proofs.constants.source_value.Given as goal

abbrev pub invariant-loop-source : goal.invariant-loop-source
invariant-loop-source g l = find (λ q. bytes_eq q.label l.left) (drop l.source-index l.phi.sources) ≡ find (λ q. bytes_eq q.label l.left) l.phi.sources
