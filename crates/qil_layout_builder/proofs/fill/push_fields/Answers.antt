-- One field more.
use Rattle.qil_symbols.specs.Tables.{value_at}
use Rattle.qil_layout.specs.Layout.{field_bytes}
use Rattle.qil_layout_builder.proofs.OneMore.{one_more}
use Rattle.qil_layout_builder.proofs.fill.push_fields.Goals as goal

pub loop-field-preserved : goal.loop-field-preserved
loop-field-preserved g c = one_more (field_bytes (value_at c.args.names.now.values)) c.args.fields.now c.loop-field.field-index c.field-item.result _ _ _ c.loop-field-test.true c.field-item.is c.in_ok-push_field.ensures c.loop-field.invariant
