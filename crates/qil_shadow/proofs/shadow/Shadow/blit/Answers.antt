-- Nothing where an operand is unset or no byte is copied; the target is looked at where the source is live.
use Rattle.std.proofs.Common.{◌≡◌, ◌∙◌, ◌<◌, ◌^◌, sym, refl, true, false, rules, arith}
use Rattle.qil_shadow.proofs.BlitLemmas.{blit_unset_source, blit_unset_target, blit_empty, blit_dead, blit_done}
use Rattle.qil_shadow.proofs.ShapeLemmas.{blit_left, kept_memory, memory_behind, is_set, none_unset}
use Rattle.qil_shadow.proofs.shadow.Shadow.blit.Goals as goal

pub returns-then-count-eq0-clause-done : goal.returns-then-count-eq0-clause-done
returns-then-count-eq0-clause-done g c = blit_empty c.args.code.now c.args.place c.args.slots.now c.args.source c.args.target c.args.count c.args.self.now (omega (arith, c.if-count-eq0.true))

pub returns-then-not-is_live-clause-done : goal.returns-then-not-is_live-clause-done
returns-then-not-is_live-clause-done g c =
    let dead : c.is_live.result ≡ false = search rules in
    let low : c.in-Some.source_address < 2 ^ 64 = omega arith in
    blit_dead c.args.code.now c.args.place c.args.slots.now c.args.source c.args.target c.args.count c.in-Some.source_address c.args.self.now c.look_through.new.self c.origin_of-origin.result c.is_live.result (omega (arith, c.if-count-eq0.false))
    (sym c.in-Some.is ∙ c.value_of.ensures) low (λ x read own slots. c.origin_of-origin.ensures x own slots read) (λ s sh f own stands. c.in_ok-look_through.ensures.named c.args.code.now s sh f own stands) c.in_ok-look_through.ensures.rest
    c.is_live.ensures dead

pub returns-clause-done : goal.returns-clause-done
returns-clause-done g c =
    let alive : c.is_live.result ≡ true = search rules in
    let low : c.in-Some.source_address < 2 ^ 64 = omega arith in
    let other_low : c.in-Some-value_of.target_address < 2 ^ 64 = omega arith in
    blit_done c.args.code.now c.args.place c.args.slots.now c.args.source c.args.target c.args.count c.in-Some.source_address c.in-Some-value_of.target_address c.args.self.now c.look_through.new.self c.look_through-2.new.self _
    c.origin_of-origin.result c.origin_of-other.result c.is_live.result (omega (arith, c.if-count-eq0.false)) (sym c.in-Some.is ∙ c.value_of.ensures) (sym c.in-Some-value_of.is ∙ c.value_of-2.ensures) low other_low
    (λ x read own slots. c.origin_of-origin.ensures x own slots read) (λ s sh f own stands. c.in_ok-look_through.ensures.named c.args.code.now s sh f own stands) c.in_ok-look_through.ensures.rest c.is_live.ensures alive
    (λ x read own slots. c.origin_of-other.ensures x own slots read) (λ s sh f own stands. c.in_ok-look_through-2.ensures.named c.args.code.now s sh f own stands) c.in_ok-look_through-2.ensures.rest
    (record { calls_are = refl; names_are = refl; end_is = refl; position_is = refl; roles_are = refl }) refl c.copy.ensures

pub returns-then-not-is_live-clause-left : goal.returns-then-not-is_live-clause-left
returns-then-not-is_live-clause-left g c =
    blit_left c.args.code.now c.args.place c.args.slots.now c.args.source c.args.target c.args.count c.args.self.now c.look_through.new.self (kept_memory c.args.self.now c.look_through.new.self c.in_ok-look_through.ensures.rest)
    (λ none. none_unset c.args.slots.now c.args.source c.args.target _ (is_set _ c.in-Some.source_address (sym c.in-Some.is ∙ c.value_of.ensures)) (is_set _ c.in-Some-value_of.target_address (sym c.in-Some-value_of.is ∙ c.value_of-2.ensures)) none)

pub returns-clause-left : goal.returns-clause-left
returns-clause-left g c =
    blit_left c.args.code.now c.args.place c.args.slots.now c.args.source c.args.target c.args.count c.args.self.now _
    (memory_behind c.args.self.now c.look_through.new.self c.look_through-2.new.self _ c.in_ok-look_through.ensures.rest c.in_ok-look_through-2.ensures.rest (record { calls_are = refl; names_are = refl; end_is = refl; position_is = refl; roles_are = refl }))
    (λ none. none_unset c.args.slots.now c.args.source c.args.target _ (is_set _ c.in-Some.source_address (sym c.in-Some.is ∙ c.value_of.ensures)) (is_set _ c.in-Some-value_of.target_address (sym c.in-Some-value_of.is ∙ c.value_of-2.ensures)) none)

pub returns-in_default-clause-done : goal.returns-in_default-clause-done
returns-in_default-clause-done g c = blit_unset_source c.args.code.now c.args.place c.args.slots.now c.args.source c.args.target c.args.count c.args.self.now (sym c.in_default.is ∙ c.value_of.ensures)

pub returns-in_default-value_of-clause-done : goal.returns-in_default-value_of-clause-done
returns-in_default-value_of-clause-done g c = blit_unset_target c.args.code.now c.args.place c.args.slots.now c.args.source c.args.target c.args.count c.args.self.now (sym c.in_default-value_of.is ∙ c.value_of-2.ensures)
