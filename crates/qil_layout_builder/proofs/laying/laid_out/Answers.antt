-- A well-formed program has few functions; what an image keeps.
use Rattle.std.proofs.Common.{◌∙◌, ap, length, arith, List, ℕ, Option}
use Rattle.qil_layout.specs.Layout.{bytes_from}
use Rattle.qil_symbols.specs.Tables.{value_at}
use Rattle.qil_layout.proofs.FewFunctions.{few_functions}
use Rattle.qil_layout_builder.proofs.laying.laid_out.Goals as goal

pub names_of-requires : goal.names_of-requires
names_of-requires g c =
    let few = few_functions c.args.checked.now.program c.program-program.ensures.well_formed in
    let same = ap (λ p. length p.funcs) c.program-program.ensures.program in
    omega (arith, few, same)

pub new-requires : goal.new-requires
new-requires g c =
    let few = few_functions c.args.checked.now.program c.program-program.ensures.well_formed in
    let same = ap (λ p. length p.funcs) c.program-program.ensures.program in (
      c.in_ok-names.ensures.addresses,
      c.in_ok-bytes.ensures ∙ ap (bytes_from (value_at c.in_ok-names.names.values) 65536) c.as_slice.ensures ∙ ap (λ (address : List ℕ → Option ℕ). bytes_from address 65536 c.program-program.result.now.datas) (λ i x. c.in_ok-names.ensures.addresses x i),
      c.in_ok-names.ensures.no_fault,
      omega (arith, few, same),
    )
