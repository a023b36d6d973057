-- A law: a run over calls has one end. Where its moves don't run out of memory, there is one number of moves after which it ends.
use Rattle.std.proofs.Common.{◌≡◌, ◌≢◌, sym, ap, ◌∙◌, ℕ, ◌<◌, ◌≤◌, ⊎_elim, Option, Some, None, refl, List, arith}
use Rattle.std.proofs.lemmas.Bool.{cases_lt}
use Rattle.qil_tree.specs.declared.tree.Program.{Program}
use Rattle.qil_semantics.specs.Timeline.{Timeline, moved, gone}
use Rattle.qil_semantics.specs.Stops.{Numbered}
use Rattle.qil_semantics.specs.Runs.{stop_on, stop_back}
use Rattle.qil_semantics.specs.declared.reason.Reason.{Reason}
use Rattle.qil_semantics.specs.declared.reason.Reason.TheVariants.{End, Watch, Break, Start, Oldest, Limit, Memory}
use Rattle.qil_stops.specs.declared.depth_end.DepthEnd.{DepthEnd}
use Rattle.qil_stops.specs.declared.depth_end.DepthEnd.TheVariants.{Depth, Stopped}
use Rattle.qil_stops.specs.Depths.{depth, Passes, EndsAnyway, Ends, RunsToDepth, RunsBackToDepth}

none_or_some : {X : Type 0} (x : X) (o : Option X) → o ≡ None → o ≡ Some x → ⊥
none_or_some x o none some = absurd cc

anyway : (limit k j : ℕ) (reason : Reason) → reason ≢ Memory → EndsAnyway limit k reason → k < j → j ≤ limit → ⊥
anyway limit k j End known ends before few = ends
anyway limit k j (Watch n) known ends before few = ends
anyway limit k j (Break n) known ends before few = ends
anyway limit k j Start known ends before few = ends
anyway limit k j Oldest known ends before few = ends
anyway limit k j Limit known ends before few = omega (arith, ends, before, few)
anyway limit k j Memory known ends before few = known refl

-- a state that a run passes doesn't end it
passed : (stop : ℕ → Option Reason) (at : ℕ → Timeline) (n limit k j : ℕ) (end : DepthEnd) → end ≢ Stopped Memory → Passes stop at n j → Ends stop at n limit k end → k < j → j ≤ limit → ⊥
passed stop at n limit k j Depth known passes ends before few = let deep = passes.deep k before ends.1 in omega (arith, deep, ends.2)
passed stop at n limit k j (Stopped reason) known passes ends before few = ⊎_elim
    (λ some. none_or_some reason (stop k) (passes.unstopped k before) some)
    (λ past. anyway limit k j reason (λ (e : reason ≡ Memory). known (ap Stopped e)) past.2 before few)
    ends

one : (stop : ℕ → Option Reason) (at : ℕ → Timeline) (n limit k j : ℕ) (end other : DepthEnd) → end ≢ Stopped Memory → other ≢ Stopped Memory
    → Passes stop at n k → Passes stop at n j → Ends stop at n limit k end → Ends stop at n limit j other → k ≤ limit → j ≤ limit → k ≡ j
one stop at n limit k j end other known known' passes passes' ends ends' few few' = ⊎_elim
    (λ before. absurd (passed stop at n limit k j end known passes' ends before few'))
    (λ after. ⊎_elim
    (λ before. absurd (passed stop at n limit j k other known' passes ends' before few))
    (λ before. omega (arith, after, before))
    (cases_lt j k))
    (cases_lt k j)

-- forward
pub one_end : {A : Type 0} (p : Program A) (stops : List Numbered) (n limit : ℕ) (t u v : Timeline) (end other : DepthEnd) (k j : ℕ) → end ≢ Stopped Memory → other ≢ Stopped Memory
    → RunsToDepth p stops n limit t end k u → RunsToDepth p stops n limit t other j v → (k ≡ j) × (u ≡ v)
one_end p stops n limit t u v end other k j known known' run run' =
    let same : k ≡ j = one (stop_on p stops t) (λ i. moved p i t) n limit k j end other known known' run.passed run'.passed run.ends run'.ends run.few run'.few in
    (same, run.moves ∙ (ap (λ (i : ℕ). moved p i t) same ∙ sym run'.moves))

-- back
pub one_end_back : (stops : List Numbered) (n limit : ℕ) (t u v : Timeline) (end other : DepthEnd) (k j : ℕ) → end ≢ Stopped Memory → other ≢ Stopped Memory
    → RunsBackToDepth stops n limit t end k u → RunsBackToDepth stops n limit t other j v → (k ≡ j) × (u ≡ v)
one_end_back stops n limit t u v end other k j known known' run run' =
    let same : k ≡ j = one (stop_back stops t) (λ i. gone i t) n limit k j end other known known' run.passed run'.passed run.ends run'.ends run.few run'.few in
    (same, run.moves ∙ (ap (λ (i : ℕ). gone i t) same ∙ sym run'.moves))
