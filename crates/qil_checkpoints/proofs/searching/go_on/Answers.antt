-- A poke, or steps up to the next one.
use Rattle.std.proofs.Common.{◌∙◌, sym, subst, ◌+◌, List, arith}
use Rattle.std.proofs.lemmas.List.{take_rest}
use Rattle.qil_state.specs.State.{state_of}
use Rattle.qil_checkpoints.specs.declared.poked.Poked.{Poked}
use Rattle.qil_checkpoints.specs.Walk.{ArePoked, IsPart}
use Rattle.qil_checkpoints.specs.Hits.{IsNextStand}
use Rattle.qil_checkpoints.proofs.Parts.{poked-lower, some-wide, some-rest, some-part}
use Rattle.qil_checkpoints.proofs.Quiet.{one-made, steps-state, steps-quiet}
use Rattle.qil_checkpoints.proofs.searching.go_on.Goals as goal

pub poke_again-requires : goal.poke_again-requires
poke_again-requires g c = some-wide c.args.rest.now c.args.at c.args.to c.in-Some.made c.requires.poked (sym (c.poke_now.ensures c.args.to c.requires.poked) ∙ c.in-Some.is)

pub returns-in-Some-clause-poked : goal.returns-in-Some-clause-poked
returns-in-Some-clause-poked g c =
    subst (λ (qs : List Poked). ArePoked (c.args.at + 1) qs c.args.to) (sym (take_rest c.args.rest.now 1))
    (some-rest c.args.rest.now c.args.at c.args.to c.in-Some.made c.requires.poked (sym (c.poke_now.ensures c.args.to c.requires.poked) ∙ c.in-Some.is))

pub returns-in-Some-clause-part : goal.returns-in-Some-clause-part
returns-in-Some-clause-part g c = λ pokes part.
    subst (λ (qs : List Poked). IsPart pokes qs (c.args.at + 1) c.args.to) (sym (take_rest c.args.rest.now 1))
    (some-part pokes c.args.rest.now c.args.at c.args.to c.in-Some.made c.requires.poked (sym (c.poke_now.ensures c.args.to c.requires.poked) ∙ c.in-Some.is) part)

pub returns-in-None-clause-poked : goal.returns-in-None-clause-poked
returns-in-None-clause-poked g c =
    let is : IsNextStand c.args.rest.now c.args.at c.args.to c.next_stand.result = c.next_stand.ensures c.args.at c.requires.poked (sym (c.poke_now.ensures c.args.to c.requires.poked) ∙ c.in-None.is) c.requires.order in
    poked-lower c.next_stand.result (c.args.at + c.max.result) c.args.rest.now c.args.to is.poked (omega (arith, is.later, c.run_quietly-made.ensures.few, c.max.ensures))

pub returns-in-None-clause-state : goal.returns-in-None-clause-state
returns-in-None-clause-state g c = λ s pokes part moves here.
    let p = (g.M.HasCopies.present c.args.machine.now).program in
    let now = state_of (g.M.HasCopies.present c.args.machine.now) in
    let new = state_of (g.M.HasCopies.present c.run_quietly-made.new.self) in
    let is : IsNextStand c.args.rest.now c.args.at c.args.to c.next_stand.result = c.next_stand.ensures c.args.at c.requires.poked (sym (c.poke_now.ensures c.args.to c.requires.poked) ∙ c.in-None.is) c.requires.order in
    let one = one-made p s now new pokes c.args.rest.now c.args.at c.args.to c.next_stand.result c.run_quietly-made.result c.max.result is part moves here c.run_quietly-made.ensures.steps c.run_quietly-made.ensures.some c.max.ensures in
    steps-state p s now new pokes c.args.rest.now c.args.at c.args.to c.next_stand.result c.run_quietly-made.result c.max.result is part here c.run_quietly-made.ensures.steps c.run_quietly-made.ensures.few one

pub returns-in-None-clause-quiet : goal.returns-in-None-clause-quiet
returns-in-None-clause-quiet g c = λ s pokes part moves here told.
    let p = (g.M.HasCopies.present c.args.machine.now).program in
    let now = state_of (g.M.HasCopies.present c.args.machine.now) in
    let new = state_of (g.M.HasCopies.present c.run_quietly-made.new.self) in
    let is : IsNextStand c.args.rest.now c.args.at c.args.to c.next_stand.result = c.next_stand.ensures c.args.at c.requires.poked (sym (c.poke_now.ensures c.args.to c.requires.poked) ∙ c.in-None.is) c.requires.order in
    let one = one-made p s now new pokes c.args.rest.now c.args.at c.args.to c.next_stand.result c.run_quietly-made.result c.max.result is part moves here c.run_quietly-made.ensures.steps c.run_quietly-made.ensures.some c.max.ensures in
    steps-quiet p s now pokes c.args.rest.now c.args.stops.now c.args.before.now c.args.at c.args.to c.next_stand.result c.run_quietly-made.result c.max.result is part here c.run_quietly-made.ensures.few one
    (c.run_quietly-made.ensures.quiet told) c.run_quietly-made.ensures.unbroken
