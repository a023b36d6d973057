-- The first poke is of the position, or there is none.
use Rattle.std.proofs.Common.{◌∙◌, sym, ap}
use Rattle.std.specs.Option.{option_copied}
use Rattle.qil_checkpoints.proofs.Parts.{first-other}
use Rattle.qil_checkpoints.proofs.searching.poke_now.Goals as goal

pub returns-then-made-at : goal.returns-then-made-at
returns-then-made-at c = λ to poked.
    first-other c.args.rest.now c.in-Some.made.now c.args.at to (sym c.first.ensures.value ∙ ap option_copied c.in-Some.is) c.if-made-at.true poked
