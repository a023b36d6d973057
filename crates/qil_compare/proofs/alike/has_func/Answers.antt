-- A function that has a number by its name is one of that name, and so is one that has the name at a number.
use Rattle.std.proofs.Common.{refl}
use Rattle.qil_compare.proofs.Happening.{func_known, func_at_number}
use Rattle.qil_compare.proofs.alike.has_func.Goals as goal

pub returns-then-is_named : goal.returns-then-is_named
returns-then-is_named g c = func_at_number c.args.code.now c.image.result.now c.args.func.index c.args.name.now _ c.image.ensures (c.is_named.ensures c.if-is_named.true) refl

pub returns : goal.returns
returns g c = func_known c.args.code.now c.args.name.now (λ f. f.index) c.func_named.result c.is_some.result c.func_named.ensures c.is_some.ensures
