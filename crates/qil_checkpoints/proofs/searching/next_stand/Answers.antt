-- The position of the first poke, or the end.
use Rattle.std.proofs.Common.{◌∙◌, sym, ap}
use Rattle.std.specs.Option.{option_copied}
use Rattle.qil_checkpoints.proofs.Parts.{stand-none, stand-some}
use Rattle.qil_checkpoints.proofs.searching.next_stand.Goals as goal

pub returns-in-Some : goal.returns-in-Some
returns-in-Some c = λ at poked none lt. stand-some c.args.rest.now c.in-Some.made.now at c.args.to (sym c.first.ensures.value ∙ ap option_copied c.in-Some.is) poked none

pub returns-in-None : goal.returns-in-None
returns-in-None c = λ at poked none lt. stand-none c.args.rest.now at c.args.to (sym c.first.ensures.value ∙ ap option_copied c.in-None.is) lt
