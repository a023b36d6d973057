-- Answers to the goals of `byte_at`.
use Rattle.std.proofs.Common.{◌∙◌, ◌≡◌, ◌+◌, ap, arith}
use Rattle.qil_memory.specs.Live.{live}
use Rattle.qil_render.proofs.bytes.byte_at.Goals as goal

pub returns : goal.returns
returns g c =
    let same : c.args.address + 0 ≡ c.args.address = omega arith in
    c.byte_after.ensures ∙ ap (live (g.M.Readers.whole c.args.machine.now).memory) same
