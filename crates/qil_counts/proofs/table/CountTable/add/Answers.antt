-- One more at a place.
use Rattle.std.proofs.Common.{◌∙◌, ◌<◌, ◌^◌, sym, ap, arith, length, Some}
use Rattle.std.specs.Prelude.{map}
use Rattle.qil_counts.specs.Counts.{one_more}
use Rattle.qil_counts.proofs.Meeting.{first_byte, found_by, nowhere_more, numbered_kept}
use Rattle.qil_counts.proofs.table.CountTable.add.Goals as goal

pub returns-in_default : goal.returns-in_default
returns-in_default g c = sym (ap (λ o. map (one_more o) c.args.self.now) c.in_default.is ∙ nowhere_more c.args.self.now)

pub invariant_of-self : goal.invariant_of-self
invariant_of-self g c =
    let rows = c.self.inside.rows in
    let bound : length rows.counts.items < 2 ^ 64 = omega arith in
    let found = found_by rows.blocks.items c.as_slice.result.now rows.firsts.items c.as_slice-2.result.now rows.counts.items c.in-Some.place c.number_of-number.result bound c.self.invariant.0 c.as_slice.ensures.value c.as_slice-2.ensures.value c.number_of-number.ensures in
    let byte = c.from.ensures ∙ first_byte c.count_one-is_first.result in
    (numbered_kept rows.blocks.items rows.firsts.items rows.counts.items _ (Some c.in-Some.place) c.self.invariant.0 (c.count_one-is_first.ensures.counted found), omega (arith, byte, c.self.invariant.1, c.count_one-is_first.ensures.met))

pub returns : goal.returns
returns g c =
    let rows = c.self.inside.rows in
    let bound : length rows.counts.items < 2 ^ 64 = omega arith in
    let found = found_by rows.blocks.items c.as_slice.result.now rows.firsts.items c.as_slice-2.result.now rows.counts.items c.in-Some.place c.number_of-number.result bound c.self.invariant.0 c.as_slice.ensures.value c.as_slice-2.ensures.value c.number_of-number.ensures in
    c.count_one-is_first.ensures.counted found ∙ (λ k. map (one_more (sym c.in-Some.is k)) (c.self.view_is k))
