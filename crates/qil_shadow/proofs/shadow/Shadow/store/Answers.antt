-- The access is looked at, and then the value is stored.
use Rattle.std.proofs.Common.{◌≡◌, ◌∙◌, ◌<◌, ◌^◌, sym, subst, true, false, rules, arith}
use Rattle.std.specs.Prelude.{is_none}
use Rattle.qil_shadow.specs.Shadowed.{operand_origin}
use Rattle.qil_shadow.specs.Numbered.{value_in}
use Rattle.qil_shadow.specs.Reads.{innermost}
use Rattle.qil_shadow.proofs.KeptLemmas.{own_kept, slots_behind, stored_is, reported_as, same_value}
use Rattle.qil_shadow.proofs.StoreInstLemmas.{store_unset_number, store_unset_address, store_done}
use Rattle.qil_shadow.proofs.ShapeLemmas.{none_is, store_left, is_set, none_unset}
use Rattle.qil_shadow.proofs.shadow.Shadow.store.Goals as goal

pub returns-clause-found : goal.returns-clause-found
returns-clause-found g c = λ b v t s sh f holds is own slots read stands.
    reported_as c.args.code.now s sh f _ _ _ _ _ _ _ _ _ (c.origin_of-origin.ensures b own slots read) (same_value _ _ t (sym c.in-Some.is ∙ c.value_of-2.ensures) is) c.byte_count-count.ensures.value
    (c.in_ok-look_through.ensures.named c.args.code.now s sh f own stands)

pub returns-clause-memory : goal.returns-clause-memory
returns-clause-memory g c = λ a v t holds is spot own slots read.
    stored_is _ _ _ _ _ t _ _ _ _ (sym c.in-Some.is ∙ c.value_of-2.ensures) is c.byte_count-count.ensures.value c.in_ok-look_through.ensures.rest.memory_is
    (c.origin_of-stored.ensures a (own_kept _ _ _ c.in_ok-look_through.ensures.rest own) (slots_behind _ _ _ _ c.in_ok-look_through.ensures.rest slots) read
    ∙ (λ i. operand_origin c.args.code.now (innermost c.args.code.now c.args.place.func.index (c.in_ok-look_through.ensures.rest.calls_are i).calls) (c.class_stored-class.ensures i) a))
    c.store.ensures spot

pub returns-clause-done : goal.returns-clause-done
returns-clause-done g c =
    let kept = c.in_ok-look_through.ensures.rest in
    let low : c.in-Some.target < 2 ^ 64 = omega arith in
    store_done c.args.code.now c.args.place c.args.slots.now c.args.width c.args.number c.args.address c.args.self.now _
    (λ t is. subst (λ n. n < 2 ^ 64) (same_value _ c.in-Some.target t (sym c.in-Some.is ∙ c.value_of-2.ensures) is) low)
    (λ a v t holds is spot own slots read. returns-clause-memory g c a v t holds is spot own slots read) (λ b v t s sh f holds is own slots read stands. returns-clause-found g c b v t s sh f holds is own slots read stands)
    (record { calls_are = kept.calls_are; names_are = kept.names_are; end_is = kept.end_is; position_is = kept.position_is; roles_are = kept.roles_are })

pub returns-clause-left : goal.returns-clause-left
returns-clause-left g c =
    let kept = c.in_ok-look_through.ensures.rest in
    let set : is_none (value_in c.args.slots.now c.args.number) ≡ false = search rules in
    store_left c.args.code.now c.args.place c.args.slots.now c.args.width c.args.number c.args.address c.args.self.now _
    (record { calls_are = kept.calls_are; names_are = kept.names_are; end_is = kept.end_is; position_is = kept.position_is; roles_are = kept.roles_are })
    (λ none. none_unset c.args.slots.now c.args.number c.args.address _ set (is_set _ c.in-Some.target (sym c.in-Some.is ∙ c.value_of-2.ensures)) none)

pub returns-then-is_none-clause-done : goal.returns-then-is_none-clause-done
returns-then-is_none-clause-done g c =
    let unset : is_none (value_in c.args.slots.now c.args.number) ≡ true = search rules in
    store_unset_number c.args.code.now c.args.place c.args.slots.now c.args.width c.args.number c.args.address c.args.self.now (none_is (value_in c.args.slots.now c.args.number) unset)

pub returns-in_default-clause-done : goal.returns-in_default-clause-done
returns-in_default-clause-done g c =
    store_unset_address c.args.code.now c.args.place c.args.slots.now c.args.width c.args.number c.args.address c.args.self.now (sym c.in_default.is ∙ c.value_of-2.ensures)
