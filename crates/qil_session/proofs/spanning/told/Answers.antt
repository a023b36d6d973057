-- The machine is that of the state now.
use Rattle.std.proofs.Common.{◌≡◌, ◌∙◌, sym, ap, arith, length, rules}
use Rattle.qil_tree.specs.declared.tree.Program.{Program}
use Rattle.qil_semantics.specs.State.{State}
use Rattle.qil_spans.specs.Table.{told_of}
use Rattle.qil_session.proofs.spanning.told.Goals as goal

pub told_of-requires : goal.told_of-requires
told_of-requires g c =
    let here = ap (λ (s : State). length s.frames) c.machine.ensures.now in
    λ lifetimes. (search rules, omega (arith, here, c.requires))

pub returns : goal.returns
returns g c = c.told_of.ensures ∙ (λ i. told_of (c.machine.ensures.program i) (c.machine.ensures.now i) c.args.table)
