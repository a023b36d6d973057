-- Numbers up to its start, and then its fields.
use Rattle.qil_shadow.specs.Objects.{object_named}
use Rattle.qil_shadow.specs.Shadow.{field_origins}
use Rattle.qil_shadow.proofs.StartLemmas.{object_noted}
use Rattle.qil_shadow.proofs.start.note_object.Goals as goal

pub returns-clause-noted : goal.returns-clause-noted
returns-clause-noted g c = λ bs was.
    object_noted (field_origins (object_named c.args.names.now)) _ _ bs c.args.at c.start_of-begin.result _ _ _ _ c.start_of-begin.ensures.start c.start_of-begin.ensures.high c.as_slice.ensures c.note_fields-end.ensures.noted was
