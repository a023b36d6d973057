-- The occurrences so far, and those of the fields that are left, are all occurrences.
use Rattle.std.proofs.Common.{◌≡◌, ◌++◌, drop}
use Rattle.std.specs.List.{flat_map}
use Rattle.qil_rules.specs.Occurrences.{field_occurrences}
use Rattle.qil_checker.proofs.walk.push_fields.Given as goal

abbrev pub invariant-loop-field : goal.invariant-loop-field
invariant-loop-field g l = l.out.items ++ flat_map (field_occurrences l.line) (drop l.field-index l.fields) ≡ l.fn.out.items ++ flat_map (field_occurrences l.line) l.fields
