-- The moves between two blocks are those of the phis, read back through names.
use Rattle.std.proofs.Common.{◌∙◌, ap, subst}
use Rattle.std.specs.Prelude.{map}
use Rattle.qil_code.specs.Numbered.{names_of}
use Rattle.qil_code.specs.Named.{named_move}
use Rattle.qil_code.specs.Facts.{AreNumerable, Finds, KnowsLabels}
use Rattle.qil_code.proofs.EdgesNamed.{phis-named}
use Rattle.qil_code.proofs.code.Code.phis.Goals as goal

pub returns-clause-named : goal.returns-clause-named
returns-clause-named g c = λ left target at at_target among.
    ap (map (named_move (names_of c.args.self.now c.args.func.index))) c.moves_between.ensures
    ∙ phis-named c.args.self.now c.args.func.index c.args.from.index c.args.to.index left target
    (subst AreNumerable c.self.view_is c.self.invariant.numerable) (subst Finds c.self.view_is c.self.invariant.finds) (subst KnowsLabels c.self.view_is c.self.invariant.knows)
    at at_target among
