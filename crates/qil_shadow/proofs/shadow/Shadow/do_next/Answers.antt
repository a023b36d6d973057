-- An instruction or the jump of the block.
use Rattle.std.proofs.Common.{◌∙◌, sym, ap}
use Rattle.std.specs.Prelude.{slice_get}
use Rattle.std.specs.Option.{option_copied}
use Rattle.qil_shadow.proofs.FollowLemmas.{inst_follows, inst_finds, jump_finds, jump_follows, inst_code, end_code, jump_code}
use Rattle.qil_shadow.proofs.shadow.Shadow.do_next.Goals as goal

pub returns-in_ok-do_inst-in-Some-inst_at-clause-found : goal.returns-in_ok-do_inst-in-Some-inst_at-clause-found
returns-in_ok-do_inst-in-Some-inst_at-clause-found g c = λ s f gs r.
    let block = sym (ap (λ o. option_copied o) c.in-Some.is) ∙ c.block.ensures.code in
    let there = ap (λ xs. slice_get xs c.args.place.index) (sym c.as_slice.ensures) ∙ sym c.inst_at.ensures ∙ ap (λ o. option_copied o) c.in-Some-inst_at.is in
    let h = inst_code c.args.code.now s f gs c.args.place c.args.slots.now c.args.self.now r c.in-Some.block.now c.in-Some-inst_at.inst.now block there in
    inst_finds c.args.code.now s f gs c.args.place c.args.slots.now c.args.self.now c.do_inst.new.self c.in-Some-inst_at.inst.now h.source c.block.ensures.finds r h.here h.form c.in_ok-do_inst-in-Some-inst_at.ensures.done c.in_ok-do_inst-in-Some-inst_at.ensures.left

pub returns-in_ok-do_inst-in-Some-inst_at-clause-next : goal.returns-in_ok-do_inst-in-Some-inst_at-clause-next
returns-in_ok-do_inst-in-Some-inst_at-clause-next g c = λ s f gs r goes_on.
    let block = sym (ap (λ o. option_copied o) c.in-Some.is) ∙ c.block.ensures.code in
    let there = ap (λ xs. slice_get xs c.args.place.index) (sym c.as_slice.ensures) ∙ sym c.inst_at.ensures ∙ ap (λ o. option_copied o) c.in-Some-inst_at.is in
    let h = inst_code c.args.code.now s f gs c.args.place c.args.slots.now c.args.self.now r c.in-Some.block.now c.in-Some-inst_at.inst.now block there in
    inst_follows c.args.code.now s f gs c.args.place c.args.slots.now c.args.self.now c.do_inst.new.self c.in-Some-inst_at.inst.now h.source c.block.ensures.finds r h.here h.form c.in_ok-do_inst-in-Some-inst_at.ensures.done c.in_ok-do_inst-in-Some-inst_at.ensures.left goes_on

pub returns-in_ok-leave-in-None-inst_at-clause-found : goal.returns-in_ok-leave-in-None-inst_at-clause-found
returns-in_ok-leave-in-None-inst_at-clause-found g c = λ s f gs r.
    let block = sym (ap (λ o. option_copied o) c.in-Some.is) ∙ c.block.ensures.code in
    let end = end_code c.args.code.now s f gs c.args.place c.args.slots.now c.args.self.now r c.in-Some.block.now block (ap (λ xs. slice_get xs c.args.place.index) (sym c.as_slice.ensures) ∙ sym c.inst_at.ensures ∙ ap (λ o. option_copied o) c.in-None-inst_at.is) in
    jump_finds c.args.code.now s f gs c.args.place c.args.slots.now c.args.self.now c.leave.new.self c.block.ensures.finds r end (c.in_ok-leave-in-None-inst_at.ensures.rest r.beside.none).found_is

pub returns-in_ok-leave-in-None-inst_at-clause-next : goal.returns-in_ok-leave-in-None-inst_at-clause-next
returns-in_ok-leave-in-None-inst_at-clause-next g c = λ s f gs r goes_on.
    let block = sym (ap (λ o. option_copied o) c.in-Some.is) ∙ c.block.ensures.code in
    let end = end_code c.args.code.now s f gs c.args.place c.args.slots.now c.args.self.now r c.in-Some.block.now block (ap (λ xs. slice_get xs c.args.place.index) (sym c.as_slice.ensures) ∙ sym c.inst_at.ensures ∙ ap (λ o. option_copied o) c.in-None-inst_at.is) in
    jump_follows c.args.code.now s f gs c.args.place c.args.slots.now c.args.self.now c.leave.new.self c.in-Some.block.now.jump c.block.ensures.finds c.block.ensures.knows r end
    (jump_code c.args.code.now s f gs c.args.place c.args.slots.now c.args.self.now r c.in-Some.block.now block) (λ f fs func left is label at none by. c.in_ok-leave-in-None-inst_at.ensures.named f fs func left is label at none by) (λ f fs func left is at none by. c.in_ok-leave-in-None-inst_at.ensures.lies f fs func left is at none by)
    (c.in_ok-leave-in-None-inst_at.ensures.rest r.beside.none) goes_on
