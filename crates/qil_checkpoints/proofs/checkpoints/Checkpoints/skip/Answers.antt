-- To a copy that is kept of a later state.
use Rattle.std.proofs.Common.{◌≡◌, refl, sym, ap, ◌∙◌, ◌+◌, ◌-◌, ◌<◌, ◌≤◌, ℕ, List, arith}
use Rattle.std.specs.Prelude.{slice_get}
use Rattle.qil_semantics.specs.Timeline.{moved, at_end}
use Rattle.qil_state.specs.State.{state_of}
use Rattle.qil_checkpoints.specs.Walk.{timeline_at}
use Rattle.qil_checkpoints.specs.Held.{Held, first_of, held_timeline}
use Rattle.qil_checkpoints.proofs.Onward.{none-moved}
use Rattle.qil_checkpoints.proofs.Copies.{kept-within}
use Rattle.qil_checkpoints.proofs.HeldLemmas.{held-skip, timeline-run, running-skip}
use Rattle.qil_checkpoints.proofs.checkpoints.Checkpoints.skip.Goals as goal

pub returns-in-None-clause-moved : goal.returns-in-None-clause-moved
returns-in-None-clause-moved g c = none-moved (g.M.HasCopies.present c.args.self.now.machine).program (held_timeline g.M.HasCopies.present g.M.HasCopies.kept c.args.self.now)

pub restore-requires : goal.restore-requires
restore-requires g c =
    let old = c.self.inside in
    kept-within (g.M.HasCopies.present old.machine).program (g.M.HasCopies.kept old.machine) old.positions.items old.pokes.items old.position c.in-Some.copy.index c.in-Some.copy.position c.self.invariant.is_kept
    (ap (λ (ks : List ℕ). slice_get ks c.in-Some.copy.index) (sym c.as_slice-positions.ensures.value) ∙ c.in-Some.ensures.there)

pub invariant_of-self : goal.invariant_of-self
invariant_of-self g c =
    let old = c.self.inside in
    held-skip (g.M.HasCopies.present old.machine) (g.M.HasCopies.present c.restore.new.self) (g.M.HasCopies.kept old.machine) (g.M.HasCopies.kept c.restore.new.self) old.positions.items old.pokes.items old.position c.in-Some.copy.index
    c.in-Some.copy.position c.self.invariant c.restore.ensures.program c.restore.ensures.kept
    (ap (λ (ks : List ℕ). slice_get ks c.in-Some.copy.index) (sym c.as_slice-positions.ensures.value) ∙ c.in-Some.ensures.there) c.in-Some.ensures.later c.restore.ensures.state

pub returns-clause-moved : goal.returns-clause-moved
returns-clause-moved g c =
    let old = c.self.inside in
    let k = c.in-Some.copy.position - old.position in
    let new = g.M.HasCopies.present c.restore.new.self in
    let sum : c.in-Some.copy.position ≡ old.position + k = omega (arith, c.in-Some.ensures.later) in
    ap (λ n. timeline_at new.program (first_of (g.M.HasCopies.kept c.restore.new.self)) old.pokes.items n) sum
    ∙ timeline-run (g.M.HasCopies.present old.machine) new.program (g.M.HasCopies.kept old.machine) (g.M.HasCopies.kept c.restore.new.self) old.positions.items old.pokes.items old.position k c.self.invariant c.restore.ensures.program
    c.restore.ensures.kept
    ∙ ap (λ (h : Held g.row.M.Denot). moved (g.M.HasCopies.present h.machine).program k (held_timeline g.M.HasCopies.present g.M.HasCopies.kept h)) c.self.view_is

pub returns-clause-running : goal.returns-clause-running
returns-clause-running g c = λ j lt.
    let old = c.self.inside in
    ap (λ (h : Held g.row.M.Denot). at_end (moved (g.M.HasCopies.present h.machine).program j (held_timeline g.M.HasCopies.present g.M.HasCopies.kept h))) (sym c.self.view_is)
    ∙ running-skip (g.M.HasCopies.present old.machine) (g.M.HasCopies.kept old.machine) old.positions.items old.pokes.items old.position c.in-Some.copy.index c.in-Some.copy.position j c.self.invariant
    (ap (λ (ks : List ℕ). slice_get ks c.in-Some.copy.index) (sym c.as_slice-positions.ensures.value) ∙ c.in-Some.ensures.there) (omega (arith, lt, c.in-Some.ensures.later))
