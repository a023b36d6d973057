-- One field more is noted.
use Rattle.std.proofs.Common.{arith, refl, ap, ◌∙◌, ◌+◌, ◌++◌, drop}
use Rattle.std.specs.List.{sum_by}
use Rattle.qil_memory.specs.qil_layout.Layout.{field_size}
use Rattle.qil_shadow.specs.Objects.{object_named}
use Rattle.qil_shadow.specs.Shadow.{field_origins}
use Rattle.qil_shadow.proofs.NumberedNames.{left_from}
use Rattle.qil_shadow.proofs.StartLemmas.{rest_first, one_noted, one_size, all_noted, all_sizes}
use Rattle.qil_shadow.proofs.start.note_fields.Goals as goal

pub loop-field-init : goal.loop-field-init
loop-field-init g c = record { low = c.requires.low; left = refl; noted = λ bs was. rest_first bs _ _ _ was }

pub note_field-at-requires : goal.note_field-at-requires
note_field-at-requires g c =
    let xs = c.args.fields.now in
    let left = left_from xs c.loop-field.field-index c.field-item.result c.loop-field-test.true c.field-item.is in
    let size = one_size field_size xs c.loop-field.field-index c.field-item.result _ _ left c.loop-field.invariant.left in
    record { low = c.loop-field.invariant.low; fits = omega (arith, size, c.requires.fits) }

pub loop-field-preserved : goal.loop-field-preserved
loop-field-preserved g c =
    let xs = c.args.fields.now in
    let left = left_from xs c.loop-field.field-index c.field-item.result c.loop-field-test.true c.field-item.is in
    let size = one_size field_size xs c.loop-field.field-index c.field-item.result _ _ left c.loop-field.invariant.left in
    record {
      low = omega (arith, c.loop-field.invariant.low, c.note_field-at.ensures.next);
      left = ap (λ n. n + sum_by field_size (drop (c.loop-field.field-index + 1) xs)) c.note_field-at.ensures.next ∙ size;
      noted = λ bs was. one_noted (field_origins (object_named c.args.names.now)) xs _ _ _ _ _ _ _ left c.note_field-at.ensures.noted (c.loop-field.invariant.noted bs was);
    }

pub returns-clause-next : goal.returns-clause-next
returns-clause-next g c = all_sizes field_size c.args.fields.now _ _ _ (omega (arith, c.loop-field-test.false)) c.loop-field.invariant.left

pub returns-clause-noted : goal.returns-clause-noted
returns-clause-noted g c = λ bs was. all_noted (field_origins (object_named c.args.names.now)) c.args.fields.now _ _ _ _ (omega (arith, c.loop-field-test.false)) (c.loop-field.invariant.noted bs was)
