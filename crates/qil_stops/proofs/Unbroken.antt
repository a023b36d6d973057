-- With no stops there is no breakpoint.
use Rattle.std.proofs.Common.{◌≡◌, ◌∙◌, refl, sym, ap, ℕ, List, [], length, None}
use Rattle.qil_tree.specs.declared.tree.Program.{Program}
use Rattle.qil_semantics.specs.State.{State}
use Rattle.qil_semantics.specs.Stops.{first_break}
use Rattle.qil_stops.specs.declared.stop.NumberedStop.{NumberedStop}
use Rattle.qil_stops.specs.Named.{named_stops}
use Rattle.qil_stops.proofs.Naming.{named-none}

no_break : (s : State) → first_break s [] ≡ None
unfolding first_break
no_break s = refl

pub unbroken-none : {A : Type 0} (p : Program A) (s : State) (stops : List NumberedStop) → length stops ≡ 0 → first_break s (named_stops p stops) ≡ None
unbroken-none p s stops e = ap (first_break s) (sym (named-none p stops e)) ∙ no_break s
