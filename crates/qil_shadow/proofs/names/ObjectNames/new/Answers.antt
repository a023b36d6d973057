-- The data, the functions, and those that every program has.
use Rattle.std.proofs.Common.{◌∙◌, ◌+◌, ap, length}
use Rattle.std.specs.Option.{option_or}
use Rattle.qil_symbols.specs.Tables.{value_at}
use Rattle.qil_shadow.specs.ObjectNumbers.{data_number, function_number}
use Rattle.qil_shadow.proofs.NumberedNames.{recorded_names}
use Rattle.qil_shadow.proofs.names.ObjectNames.new.Goals as goal

pub invariant_of-result : goal.invariant_of-result
invariant_of-result g c = λ x.
    recorded_names c.args.program.now x c.in_ok-functions.functions c.in_ok-built_ins.built_ins _ _ _ _ (c.new-numbers.ensures x)
    (c.in_ok-functions.ensures.next ∙ ap length c.as_slice.ensures)
    (c.in_ok-built_ins.ensures.next ∙ ap (λ fs. c.in_ok-functions.functions + length fs) c.as_slice-2.ensures)
    (c.in_ok-functions.ensures.recorded x ∙ ap (λ ds. option_or (value_at c.new-numbers.result.values x) (data_number 0 ds x)) c.as_slice.ensures)
    (c.in_ok-built_ins.ensures.recorded x ∙ ap (λ fs. option_or (value_at c.note_datas.new.table.values x) (function_number c.in_ok-functions.functions fs x)) c.as_slice-2.ensures)
    (c.in_ok-note_built_ins.ensures x)
