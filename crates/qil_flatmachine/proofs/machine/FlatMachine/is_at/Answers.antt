-- Places by number are places by name.
use Rattle.std.proofs.Common.{◌∙◌, ap, refl, sym}
use Rattle.qil_machine.proofs.Jumps.{first_frame}
use Rattle.qil_machine.proofs.Standing.{is_standing, lacks_place}
use Rattle.qil_flatmachine.specs.Seen.{FlatWhole}
use Rattle.qil_flatmachine.proofs.Replacing.{machine_now}
use Rattle.qil_flatmachine.proofs.machine.FlatMachine.is_at.Goals as goal

pub returns-in-Running-clause-named : goal.returns-in-Running-clause-named
returns-in-Running-clause-named g c = λ source target func block.
    let machine = machine_now _ _ _ _ _ _ c.args.self.now c.self.invariant c.self.view_is in
    let run = sym (ap (λ (x : FlatWhole _). x.whole.status) c.self.view_is) ∙ c.in-Running.is in
    let first = first_frame c.args.self.now.whole c.args.self.now.whole refl machine run in
    is_standing c.args.self.now.whole c.args.self.now.whole c.code.result.now first.frame c.args.func.index c.args.block.index c.args.index source target c.stands_at.result refl machine
    (c.code.ensures.code ∙ ap (λ (x : FlatWhole _). x.whole.program) c.self.view_is) run first.at c.names_are_distinct.ensures.finds c.names_are_distinct.ensures.numbers (c.stands_at.ensures first.frame first.at) func block

pub returns-in-Running-clause-unknown : goal.returns-in-Running-clause-unknown
returns-in-Running-clause-unknown g c = λ none.
    let machine = machine_now _ _ _ _ _ _ c.args.self.now c.self.invariant c.self.view_is in
    let run = sym (ap (λ (x : FlatWhole _). x.whole.status) c.self.view_is) ∙ c.in-Running.is in
    let first = first_frame c.args.self.now.whole c.args.self.now.whole refl machine run in
    lacks_place c.args.self.now.whole c.args.self.now.whole first.frame c.args.func.index c.args.block.index c.args.index c.stands_at.result refl machine first.at (c.stands_at.ensures first.frame first.at) none
