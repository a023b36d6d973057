-- The jump of a block by number is that of the tree, read back through names.
use Rattle.std.proofs.Common.{◌∙◌, ap, subst}
use Rattle.std.specs.Prelude.{option_map}
use Rattle.qil_code.specs.Numbered.{names_of}
use Rattle.qil_code.specs.Named.{named_jump}
use Rattle.qil_code.specs.Facts.{KnowsLabels}
use Rattle.qil_code.specs.Reading.{labels_at}
use Rattle.qil_code.proofs.NamedCode.{jump-named}
use Rattle.qil_code.proofs.code.Code.jump.Goals as goal

pub returns-in-Some-clause-named : goal.returns-in-Some-clause-named
returns-in-Some-clause-named g c = λ source at.
    ap (λ o. option_map (named_jump (names_of c.args.self.now c.args.func.index) (labels_at c.args.self.now c.args.func.index)) (option_map (λ block. block.jump) o)) c.in-Some.ensures.code
    ∙ jump-named c.args.self.now c.args.func.index c.args.block.index source (subst KnowsLabels c.self.view_is c.self.invariant.knows) at
