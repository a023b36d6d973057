-- The table has the definitions, so the classes are those of the temporaries.
use Rattle.std.proofs.Common.{◌∙◌, ap}
use Rattle.std.specs.Prelude.{map, unwrap_or}
use Rattle.qil_tree.specs.declared.ops.Class.TheVariants as classes
use Rattle.qil_symbols.specs.Tables.{value_at}
use Rattle.qil_resolution.proofs.Defining.{map-class}
use Rattle.qil_resolution.proofs.classes.classes_of.Goals as goal

pub returns : goal.returns
returns g c =
    let same = ap (λ ns. map (λ x. unwrap_or (value_at c.in_ok-table.table.values x) classes.W) ns) c.names.ensures
    ∙ map-class c.args.func.now (λ x. value_at c.in_ok-table.table.values x) c.args.names.now (λ x. c.in_ok-table.ensures x) in
    rw (← same) c.listed.ensures
