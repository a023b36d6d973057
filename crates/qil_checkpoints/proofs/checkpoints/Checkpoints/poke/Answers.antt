-- One poke more, and no copy behind it.
use Rattle.std.proofs.Common.{◌≡◌, ◌∙◌, sym, ap, refl, List, [], ◌∷◌, ◌++◌, Ok}
use Rattle.qil_semantics.specs.State.{State}
use Rattle.qil_semantics.specs.Timeline.{Timeline, poked, to}
use Rattle.qil_state.specs.State.{Whole, state_of}
use Rattle.qil_checkpoints.specs.declared.poked.Poked.{Poked}
use Rattle.qil_checkpoints.specs.Walk.{after_poke, timeline_at}
use Rattle.qil_checkpoints.specs.Held.{Held, first_of, held_timeline}
use Rattle.qil_checkpoints.proofs.Copies.{upto-all}
use Rattle.qil_checkpoints.proofs.Choices.{still-as, kept-by, held-still, timeline-still}
use Rattle.qil_checkpoints.proofs.HeldLemmas.{held-push, timeline-pushed}
use Rattle.qil_checkpoints.proofs.checkpoints.Checkpoints.poke.Goals as goal

pub invariant_of-self-2 : goal.invariant_of-self-2
invariant_of-self-2 g c =
    let old = c.self.inside in
    let w = g.M.HasCopies.present old.machine in
    let kept = g.M.HasCopies.kept old.machine in
    let mid = g.M.HasCopies.present c.poke.new.machine in
    let other = g.M.HasCopies.kept c.forget_later.new.machine in
    let left = c.forget_later.new.positions.items in
    let still = still-as w.program mid.program kept (g.M.HasCopies.kept c.poke.new.machine) other left old.pokes.items old.position c.poke.ensures.program c.poke.ensures.kept
    (c.forget_later.ensures.kept old.pokes.items old.position
    (kept-by w.program mid.program kept (g.M.HasCopies.kept c.poke.new.machine) old.positions.items old.pokes.items old.position c.poke.ensures.program c.poke.ensures.kept c.self.invariant.is_kept)) in
    held-push w (g.M.HasCopies.present c.forget_later.new.machine) other other left old.pokes.items c.push_reserved.new.self.items (record { position = old.position; poke = c.args.made }) old.position
    (held-still w kept other old.positions.items left old.pokes.items old.position c.self.invariant still) (upto-all left old.position still.is_kept.start c.forget_later.ensures.last)
    (ap (λ (x : Whole g.row.A.Denot). x.program) c.forget_later.ensures.whole ∙ c.poke.ensures.program) refl refl c.requires.width
    (c.in_default.ensures.ok ∙ ap (λ (x : Whole g.row.A.Denot). Ok (state_of x)) (sym c.forget_later.ensures.whole))
    (c.push_reserved.ensures.items ∙ ap (λ (qs : List Poked). qs ++ record { position = old.position; poke = c.args.made } ∷ []) c.reserve.ensures.items)

pub returns-clause-ok : goal.returns-clause-ok
returns-clause-ok g c =
    let old = c.self.inside in
    let w = g.M.HasCopies.present old.machine in
    let kept = g.M.HasCopies.kept old.machine in
    let mid = g.M.HasCopies.present c.poke.new.machine in
    let new = g.M.HasCopies.present c.forget_later.new.machine in
    let other = g.M.HasCopies.kept c.forget_later.new.machine in
    let left = c.forget_later.new.positions.items in
    let still = still-as w.program mid.program kept (g.M.HasCopies.kept c.poke.new.machine) other left old.pokes.items old.position c.poke.ensures.program c.poke.ensures.kept
    (c.forget_later.ensures.kept old.pokes.items old.position
    (kept-by w.program mid.program kept (g.M.HasCopies.kept c.poke.new.machine) old.positions.items old.pokes.items old.position c.poke.ensures.program c.poke.ensures.kept c.self.invariant.is_kept)) in
    let made = c.in_default.ensures.ok ∙ ap (λ (x : Whole g.row.A.Denot). Ok (state_of x)) (sym c.forget_later.ensures.whole) in
    let there = timeline_at w.program (first_of kept) old.pokes.items old.position in
    ap (λ (h : Held g.row.M.Denot). poked (held_timeline g.M.HasCopies.present g.M.HasCopies.kept h) (after_poke (g.M.HasCopies.present h.machine).program (held_timeline g.M.HasCopies.present g.M.HasCopies.kept h).now c.args.made)) (sym c.self.view_is)
    ∙ ap (λ (s : State). poked there (after_poke w.program s c.args.made)) (sym c.self.invariant.now)
    ∙ ap (poked there) made
    ∙ ap (λ (t : Timeline). Ok (to (state_of new) t)) (sym (timeline-still w.program kept other left old.pokes.items old.position still))
    ∙ ap (λ (t : Timeline). Ok t) (timeline-pushed w new other other left old.pokes.items c.push_reserved.new.self.items
    (record { position = old.position; poke = c.args.made }) old.position (held-still w kept other old.positions.items left old.pokes.items old.position c.self.invariant still)
    (ap (λ (x : Whole g.row.A.Denot). x.program) c.forget_later.ensures.whole ∙ c.poke.ensures.program) refl refl made
    (c.push_reserved.ensures.items ∙ ap (λ (qs : List Poked). qs ++ record { position = old.position; poke = c.args.made } ∷ []) c.reserve.ensures.items))
