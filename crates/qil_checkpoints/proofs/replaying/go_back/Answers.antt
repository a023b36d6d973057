-- The earlier state, with what leads to it.
use Rattle.std.proofs.Common.{refl, sym, ap, ◌∙◌, subst, List}
use Rattle.qil_semantics.specs.State.{State}
use Rattle.qil_state.specs.State.{Whole, state_of}
use Rattle.qil_checkpoints.specs.declared.poked.Poked.{Poked}
use Rattle.qil_checkpoints.specs.Walk.{walk}
use Rattle.qil_checkpoints.specs.Held.{first_of, IsKept, StillKept}
use Rattle.qil_checkpoints.proofs.Choices.{kept-by}
use Rattle.qil_checkpoints.proofs.Parts.{are_rising}
use Rattle.qil_checkpoints.proofs.HeldLemmas.{reaches-as, held-cut, timeline-cut}
use Rattle.qil_checkpoints.proofs.replaying.go_back.Goals as goal

pub come_to-requires : goal.come_to-requires
come_to-requires g c = reaches-as (g.M.HasCopies.present c.args.machine.now).program (g.M.HasCopies.kept c.args.machine.now) c.args.positions.now.items c.args.positions.now.items c.args.pokes.now.items c.as_slice.result.now c.args.position
    refl c.as_slice.ensures.value c.requires

pub cut-requires-clause-rising : goal.cut-requires-clause-rising
cut-requires-clause-rising g c = are_rising 0 c.args.pokes.now.items c.requires.0 c.requires.2.poked

pub returns-clause-holds : goal.returns-clause-holds
returns-clause-holds g c =
    let p = (g.M.HasCopies.present c.args.machine.now).program in
    let kept = g.M.HasCopies.kept c.args.machine.now in
    let held = g.M.HasCopies.kept c.come_to.new.machine in
    let other = g.M.HasCopies.kept c.cut.new.machine in
    let mid = g.M.HasCopies.present c.come_to.new.machine in
    let new = g.M.HasCopies.present c.cut.new.machine in
    let ks = c.args.positions.now.items in
    let pokes = c.args.pokes.now.items in
    let same = c.come_to.ensures.program in
    let one = subst (λ (qs : List Poked). StillKept p kept held c.come_to.new.positions.items qs c.requires.0) c.as_slice.ensures.value
    (c.come_to.ensures.kept c.requires.0 c.requires.1 (subst (λ (qs : List Poked). IsKept p kept ks qs c.requires.0) (sym c.as_slice.ensures.value) c.requires.2)) in
    let two = c.cut.ensures.kept c.requires.0 (kept-by p mid.program held held c.come_to.new.positions.items pokes c.requires.0 same refl one.is_kept) c.requires.1 in
    held-cut p new kept other ks c.cut.new.positions.items pokes c.cut.new.pokes.items c.requires.0 c.args.position c.requires.2 c.requires.1
    (ap (λ (w : Whole g.row.A.Denot). w.program) c.cut.ensures.whole ∙ same)
    (ap (λ (w : Whole g.row.A.Denot). state_of w) c.cut.ensures.whole ∙ c.come_to.ensures.state ∙ ap (λ (qs : List Poked). walk p (first_of kept) qs c.args.position) c.as_slice.ensures.value)
    (two.first ∙ one.first) c.cut.ensures.pokes (kept-by mid.program p other other c.cut.new.positions.items c.cut.new.pokes.items c.args.position (sym same) refl two.is_kept)

pub returns-clause-gone : goal.returns-clause-gone
returns-clause-gone g c = λ n k is sum.
    let p = (g.M.HasCopies.present c.args.machine.now).program in
    let kept = g.M.HasCopies.kept c.args.machine.now in
    let held = g.M.HasCopies.kept c.come_to.new.machine in
    let other = g.M.HasCopies.kept c.cut.new.machine in
    let mid = g.M.HasCopies.present c.come_to.new.machine in
    let ks = c.args.positions.now.items in
    let pokes = c.args.pokes.now.items in
    let same = c.come_to.ensures.program in
    let one = subst (λ (qs : List Poked). StillKept p kept held c.come_to.new.positions.items qs c.requires.0) c.as_slice.ensures.value
    (c.come_to.ensures.kept c.requires.0 c.requires.1 (subst (λ (qs : List Poked). IsKept p kept ks qs c.requires.0) (sym c.as_slice.ensures.value) c.requires.2)) in
    let two = c.cut.ensures.kept c.requires.0 (kept-by p mid.program held held c.come_to.new.positions.items pokes c.requires.0 same refl one.is_kept) c.requires.1 in
    timeline-cut p (g.M.HasCopies.present c.cut.new.machine).program kept other ks pokes c.cut.new.pokes.items n c.args.position k is sum
    (ap (λ (w : Whole g.row.A.Denot). w.program) c.cut.ensures.whole ∙ same) (two.first ∙ one.first) c.cut.ensures.pokes
