-- What has no fault has few bytes.
use Rattle.std.proofs.Common.{arith, ap, length}
use Rattle.qil_layout.proofs.BytesLemmas.{few_bytes}
use Rattle.qil_layout.proofs.image.Image.bytes.Goals as goal

pub returns-clause-few : goal.returns-clause-few
returns-clause-few g c =
    let few = few_bytes c.self.inside.program.now c.self.invariant.2 in
    let same = ap length c.as_slice.ensures.value in
    let value = ap length c.self.invariant.1 in
    omega (arith, few, same, value)
