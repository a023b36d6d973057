use Rattle.qil_machine.proofs.KindsWeigh.{wrote_weighs}
use Rattle.std.proofs.Common.{◌≡◌, ◌∙◌, sym, ap, Some}
use Rattle.qil_machine.specs.Kinds.{wrote_move, received}
use Rattle.qil_machine.proofs.Writing.{wrote_made}
use Rattle.qil_machine.proofs.machine.Machine.wrote.Goals as goal
use Rattle.qil_machine.proofs.machine.Machine.wrote.Goals.{in-None, in-Some}

pub returns-clause-made : goal.returns-clause-made
returns-clause-made g c =
    let said : c.match-to.result ≡ wrote_move c.args.index c.args.count (received c.args.to c.receive-old.result) =
    elim c.match-to.branch [
      | in-None w ↦ w.result-is ∙ w.wrote.ensures ∙ ap (λ t. wrote_move c.args.index c.args.count (received t c.receive-old.result)) (sym w.in-None.is)
      | in-Some w ↦ w.result-is ∙ w.wrote_to.ensures ∙ ap (λ t. wrote_move c.args.index c.args.count (received t c.receive-old.result)) (sym w.in-Some.is)
    ] in
    wrote_made _ c.args.self.now _ c.args.to c.args.index c.args.count (Some c.args.value) c.receive-old.result c.receive-old.new.frames _ c.self.view_is c.self.invariant
    c.requires.running c.requires.receiver c.requires.next c.requires.behind c.receive-old.ensures.after c.receive-old.ensures.old c.set_index.ensures said

pub returns-clause-weighs : goal.returns-clause-weighs
returns-clause-weighs g c =
    let said : c.match-to.result ≡ wrote_move c.args.index c.args.count (received c.args.to c.receive-old.result) =
    elim c.match-to.branch [
      | in-None w ↦ w.result-is ∙ w.wrote.ensures ∙ ap (λ t. wrote_move c.args.index c.args.count (received t c.receive-old.result)) (sym w.in-None.is)
      | in-Some w ↦ w.result-is ∙ w.wrote_to.ensures ∙ ap (λ t. wrote_move c.args.index c.args.count (received t c.receive-old.result)) (sym w.in-Some.is)
    ] in
    wrote_weighs _ c.args.index c.args.count c.args.to c.receive-old.result said
