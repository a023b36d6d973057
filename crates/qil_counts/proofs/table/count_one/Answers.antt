-- One more at a place, or nothing where it has no counter.
use Rattle.std.proofs.Common.{◌∙◌, ◌<◌, ◌≤◌, refl, sym, arith, length}
use Rattle.std.proofs.lemmas.Option.{slice_get_read}
use Rattle.qil_counts.proofs.Meeting.{found_only, met_more, more_met, none_more, only_more, other_none, past_none}
use Rattle.qil_counts.proofs.table.count_one.Goals as goal

pub returns-in_default-clause-counted : goal.returns-in_default-clause-counted
returns-in_default-clause-counted g c = λ found. sym (none_more c.args.place c.args.counts.now.items (λ i x at same. c.in_default.not-Some i (found i x at same)))

pub returns-then-number-len-clause-counted : goal.returns-then-number-len-clause-counted
returns-then-number-len-clause-counted g c = λ found.
    let past : length c.args.counts.now.items ≤ c.in-Some.number = omega (arith, c.if-number-len.true) in
    sym (past_none c.args.counts.now.items c.args.place c.in-Some.number c.args.number c.in-Some.is past found)

pub returns-then-not-same_place-clause-counted : goal.returns-then-not-same_place-clause-counted
returns-then-not-same_place-clause-counted g c = λ found.
    let counts = c.args.counts.now.items in
    let inside : c.in-Some.number < length counts = omega (arith, c.if-number-len.false) in
    let there = slice_get_read counts (length counts) c.in-Some.number c.index-one.result.now refl inside c.index-one.ensures in
    sym (other_none counts c.args.place c.in-Some.number c.args.number c.index-one.result.now c.in-Some.is there (sym c.same_place.ensures ∙ c.if-not-same_place.true) found)

pub overflow_add-one : goal.overflow_add-one
overflow_add-one g c =
    let counts = c.args.counts.now.items in
    let inside : c.in-Some.number < length counts = omega (arith, c.if-number-len.false) in
    let there = slice_get_read counts (length counts) c.in-Some.number c.index-one.result.now refl inside c.index-one.ensures in
    let few = c.requires c.in-Some.number c.index-one.result.now there in
    omega (arith, few)

pub returns-clause-counted : goal.returns-clause-counted
returns-clause-counted g c = λ found.
    let counts = c.args.counts.now.items in
    let inside : c.in-Some.number < length counts = omega (arith, c.if-number-len.false) in
    let there = slice_get_read counts (length counts) c.in-Some.number c.index-one.result.now refl inside c.index-one.ensures in
    only_more c.args.place counts c.in-Some.number c.index-one.result.now there (sym c.same_place.ensures ∙ c.if-not-same_place.false)
    (found_only counts c.args.place c.in-Some.number (λ i x at same. sym c.in-Some.is ∙ found i x at same))

pub returns-clause-met : goal.returns-clause-met
returns-clause-met g c =
    let counts = c.args.counts.now.items in
    let inside : c.in-Some.number < length counts = omega (arith, c.if-number-len.false) in
    let there = slice_get_read counts (length counts) c.in-Some.number c.index-one.result.now refl inside c.index-one.ensures in
    met_more counts c.in-Some.number c.index-one.result.now _ there (more_met c.index-one.result.now.count)
