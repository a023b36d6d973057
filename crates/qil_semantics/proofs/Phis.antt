-- Two phis that swap do swap; phis that were done one after the other would not.
use Rattle.std.proofs.Common.{◌≡◌, refl, ℕ, List, [], ◌∷◌, Option, Some, None, Ok, Err}
use Rattle.std.specs.Prelude.{codes}
use Rattle.qil_semantics.specs.State.{Frame}
use Rattle.qil_semantics.specs.Values.{Outcome, ◌>>=◌}
use Rattle.qil_semantics.specs.Step.{PhiMove, merges}
use Rattle.qil_semantics.proofs.Programs.{w, %, prog, runs}
use Rattle.qil_semantics.specs.Temps.{by_name}

one_after_other : Frame → List PhiMove → Outcome Frame
one_after_other f [] = Ok f
one_after_other f (m ∷ ms) = merges (prog [] []) f (m ∷ []) >>= λ g. one_after_other g ms

abbrev both : Outcome Frame → Option (Option ℕ × Option ℕ)
both (Ok f) = Some (f.temps (codes "a"), f.temps (codes "b"))
both (Err e) = None

abbrev old : Frame
old = record { func = codes "main"; label = codes "loop"; index = 1; temps = by_name ((codes "a", 1) ∷ ((codes "b", 2) ∷ [])); floor = 16777216; result = None }

abbrev swap : List PhiMove
swap = record { target = w (codes "a"); value = % (codes "b") } ∷ (record { target = w (codes "b"); value = % (codes "a") } ∷ [])

swapped : both (merges (prog [] []) old swap) ≡ Some (Some 2, Some 1)
unfolding runs
swapped = refl

not_swapped : both (one_after_other old swap) ≡ Some (Some 2, Some 2)
unfolding runs one_after_other
not_swapped = refl
