-- Data first, then functions, then what is built in.
use Rattle.std.proofs.Common.{◌∙◌, ap, None}
use Rattle.std.specs.Option.{option_or}
use Rattle.qil_layout.specs.Layout.{data_address, func_address}
use Rattle.qil_symbols.specs.Tables.{value_at}
use Rattle.qil_layout_builder.proofs.TableLemmas.{three_recorded}
use Rattle.qil_layout_builder.proofs.names.names_of.Goals as goal

pub returns-clause-addresses : goal.returns-clause-addresses
returns-clause-addresses g c = λ x.
    let p = c.args.program.now in
    three_recorded None (data_address 65536 p.datas x) (func_address 4096 p.funcs x) _ _ _ _
    (c.in_ok-note_datas.ensures.recorded x ∙ ap (λ o. option_or o (data_address 65536 c.as_slice.result.now x)) (c.new-table.ensures x) ∙ ap (λ ds. option_or None (data_address 65536 ds x)) c.as_slice.ensures)
    (c.in_ok-note_funcs.ensures x ∙ ap (λ fs. option_or (value_at c.note_datas.new.table.values x) (func_address 4096 fs x)) c.as_slice-2.ensures)
    (c.in_ok-note_built_ins.ensures x)
