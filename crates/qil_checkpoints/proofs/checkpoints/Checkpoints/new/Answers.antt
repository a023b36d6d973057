-- One copy, of the start.
use Rattle.std.proofs.Common.{ap, ◌∙◌, List, [], ◌∷◌, ◌++◌, ℕ}
use Rattle.qil_semantics.specs.State.{State}
use Rattle.qil_state.specs.State.{state_of}
use Rattle.qil_state.specs.State.{Whole}
use Rattle.qil_checkpoints.proofs.HeldLemmas.{held-begun, timeline-begun}
use Rattle.qil_checkpoints.proofs.checkpoints.Checkpoints.new.Goals as goal

pub invariant_of-result : goal.invariant_of-result
invariant_of-result g c =
    let first = g.M.HasCopies.present c.args.machine in
    held-begun first (g.M.HasCopies.present c.keep.new.self) (g.M.HasCopies.kept c.keep.new.self) c.push_reserved.new.self.items c.new.result.items (c.keep.ensures.whole ∙ c.forget_after.ensures.whole)
    (c.in_ok-keep.ensures.ok ∙ ap (λ (ss : List State). ss ++ state_of (g.M.HasCopies.present c.forget_after.new.self) ∷ []) c.forget_after.ensures.kept
    ∙ ap (λ (w : Whole g.row.A.Denot). state_of w ∷ []) c.forget_after.ensures.whole)
    (c.push_reserved.ensures.items ∙ ap (λ (ks : List ℕ). ks ++ 0 ∷ []) (c.reserve.ensures.items ∙ c.new-positions.ensures.items)) c.new.ensures.items

pub returns-clause-begun : goal.returns-clause-begun
returns-clause-begun g c =
    let first = g.M.HasCopies.present c.args.machine in
    timeline-begun first (g.M.HasCopies.present c.keep.new.self) (g.M.HasCopies.kept c.keep.new.self) c.new.result.items (c.keep.ensures.whole ∙ c.forget_after.ensures.whole)
    (c.in_ok-keep.ensures.ok ∙ ap (λ (ss : List State). ss ++ state_of (g.M.HasCopies.present c.forget_after.new.self) ∷ []) c.forget_after.ensures.kept
    ∙ ap (λ (w : Whole g.row.A.Denot). state_of w ∷ []) c.forget_after.ensures.whole) c.new.ensures.items
