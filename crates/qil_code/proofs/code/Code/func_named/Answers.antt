-- Functions are few, so that their numbers have 16 bits.
use Rattle.std.proofs.Common.{arith, ap, length}
use Rattle.std.proofs.lemmas.List.{length-map}
use Rattle.qil_code.proofs.code.Code.func_named.Goals as goal

pub overflow_cast-result : goal.overflow_cast-result
overflow_cast-result g c =
    omega (arith, c.in-Some.ensures.within, ap length c.self.invariant.names_are, length-map c.self.inside.program.now.funcs (λ f. f.name), c.self.invariant.few)
