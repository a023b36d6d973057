-- An instruction by number is that of the tree, read back through names.
use Rattle.std.proofs.Common.{◌≡◌, ◌∙◌, ap}
use Rattle.std.specs.Prelude.{option_map, slice_get}
use Rattle.std.specs.Option.{option_and_then, option_copied}
use Rattle.qil_code.specs.Numbered.{names_of}
use Rattle.qil_code.specs.Named.{named_inst}
use Rattle.qil_code.specs.Reading.{inst_code_at}
use Rattle.qil_code.proofs.NamedCode.{copied_at, inst-named}
use Rattle.qil_code.proofs.code.Code.inst.Goals as goal

pub returns-in-Some-clause-named : goal.returns-in-Some-clause-named
returns-in-Some-clause-named g c = λ inst at.
    let code : option_copied c.get.result ≡ inst_code_at c.args.self.now c.args.func.index c.args.block.index c.args.index =
    copied_at c.get.result c.as_slice.result.now c.args.index c.get.ensures.lookup.3
    ∙ ap (λ xs. slice_get xs c.args.index) c.as_slice.ensures
    ∙ ap (λ o. option_and_then (λ block. slice_get block.insts c.args.index) o) c.in-Some.ensures.code in
    ap (λ o. option_map (named_inst (names_of c.args.self.now c.args.func.index)) o) code
    ∙ inst-named c.args.self.now c.args.func.index c.args.block.index c.args.index inst at
