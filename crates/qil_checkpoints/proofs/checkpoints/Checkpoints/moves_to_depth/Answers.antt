-- The machine is where it was, and the depth is that of the last position where so few calls are open.
use Rattle.std.proofs.Common.{◌≡◌, ◌∙◌, sym, ap, refl, subst, ℕ, ◌-◌, List, Option}
use Rattle.std.specs.Option.{option_map}
use Rattle.qil_semantics.specs.State.{State}
use Rattle.qil_checkpoints.specs.declared.hit.Hit.{Hit}
use Rattle.qil_checkpoints.specs.declared.poked.Poked.{Poked}
use Rattle.qil_checkpoints.specs.Held.{Held, first_of, held_timeline, Reaches}
use Rattle.qil_checkpoints.specs.Hits.{IsLastHit}
use Rattle.qil_checkpoints.specs.CallDepths.{shallow_at, IsFirstShallow}
use Rattle.qil_checkpoints.proofs.AtDepths.{first-held, held-jumped, reaches-moved}
use Rattle.qil_checkpoints.proofs.HeldLemmas.{timeline-as}
use Rattle.qil_checkpoints.proofs.checkpoints.Checkpoints.moves_to_depth.Goals as goal

pub search_shallow-found-requires : goal.search_shallow-found-requires
search_shallow-found-requires g c =
    let old = c.self.inside in
    reaches-moved (g.M.HasCopies.present old.machine).program (g.M.HasCopies.present old.machine).program (g.M.HasCopies.kept old.machine) (g.M.HasCopies.kept old.machine) old.positions.items c.as_slice-positions.result.now old.pokes.items c.as_slice-pokes.result.now old.position
    refl refl c.as_slice-positions.ensures.value c.as_slice-pokes.ensures.value c.self.invariant.is_kept

pub jump-requires : goal.jump-requires
jump-requires g c =
    let old = c.self.inside in
    let found = c.search_shallow-found.new.machine in
    reaches-moved (g.M.HasCopies.present old.machine).program (g.M.HasCopies.present found).program (g.M.HasCopies.kept old.machine) (g.M.HasCopies.kept found) old.positions.items c.as_slice-positions.result.now old.pokes.items c.as_slice-pokes.result.now old.position
    c.search_shallow-found.ensures.program c.search_shallow-found.ensures.kept c.as_slice-positions.ensures.value c.as_slice-pokes.ensures.value c.self.invariant.is_kept

pub invariant_of-self : goal.invariant_of-self
invariant_of-self g c =
    let old = c.self.inside in
    let found = c.search_shallow-found.new.machine in
    let new = c.jump.new.machine in
    held-jumped (g.M.HasCopies.present old.machine).program (g.M.HasCopies.present found).program (g.M.HasCopies.present new) (g.M.HasCopies.kept old.machine) (g.M.HasCopies.kept found) (g.M.HasCopies.kept new) old.positions.items old.pokes.items c.as_slice-pokes.result.now old.position
    c.self.invariant.is_kept c.search_shallow-found.ensures.program c.search_shallow-found.ensures.kept c.jump.ensures.program c.jump.ensures.kept c.as_slice-pokes.ensures.value c.jump.ensures.state

pub returns-clause-same : goal.returns-clause-same
returns-clause-same g c =
    let old = c.self.inside in
    let new = c.jump.new.machine in
    timeline-as (g.M.HasCopies.present new).program (g.M.HasCopies.present old.machine).program (g.M.HasCopies.kept new) (g.M.HasCopies.kept old.machine) old.pokes.items old.position
    (c.jump.ensures.program ∙ c.search_shallow-found.ensures.program) (c.jump.ensures.kept ∙ c.search_shallow-found.ensures.kept)
    ∙ ap (λ (h : Held g.row.M.Denot). held_timeline g.M.HasCopies.present g.M.HasCopies.kept h) c.self.view_is

pub returns-clause-first : goal.returns-clause-first
returns-clause-first g c =
    let old = c.self.inside in
    let found = c.search_shallow-found.result in
    subst (λ (h : Held g.row.M.Denot). IsFirstShallow (held_timeline g.M.HasCopies.present g.M.HasCopies.kept h) c.args.most c.args.limit c.moves_back.result) c.self.view_is
    (subst (λ (o : Option ℕ). IsFirstShallow (held_timeline g.M.HasCopies.present g.M.HasCopies.kept (record { machine = old.machine; pokes = old.pokes.items; position = old.position })) c.args.most c.args.limit o) (sym c.moves_back.ensures)
    (first-held (g.M.HasCopies.present old.machine).program (first_of (g.M.HasCopies.kept old.machine)) old.pokes.items c.as_slice-pokes.result.now old.position c.args.most c.args.limit c.saturating_sub-lowest.result found found
    c.saturating_sub-lowest.ensures c.as_slice-pokes.ensures.value c.search_shallow-found.ensures.hit refl))
