-- A field of zeros is one of numbers.
use Rattle.qil_shadow.specs.Objects.{object_named}
use Rattle.qil_shadow.proofs.StartLemmas.{field_zeros}
use Rattle.qil_shadow.proofs.start.note_field.Goals as goal

pub returns-in-Zeros-clause-noted : goal.returns-in-Zeros-clause-noted
returns-in-Zeros-clause-noted g c = λ bs was. field_zeros (object_named c.args.names.now) c.args.field.now c.in-Zeros.count bs c.args.begin _ c.in-Zeros.is was
