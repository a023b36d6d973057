-- By the first of the blocks after it.
use Rattle.std.proofs.Common.{sym, ap, ◌∙◌}
use Rattle.std.specs.Option.{option_copied}
use Rattle.qil_lines.proofs.Places.{written_before}
use Rattle.qil_lines.proofs.lines.has_jump.Goals as goal

pub returns-in-Some : goal.returns-in-Some
returns-in-Some g c = written_before c.args.block.now c.in-Some.next.now c.args.after.now (sym c.first.ensures.value ∙ ap option_copied c.in-Some.is)
