-- A text that is a name gives the whole of it: by hand, so that any other bytes are refused at once.
use Rattle.std.proofs.Common.{◌∙◌, sym, ap, Some, None}
use Rattle.std.specs.Prelude.{cond}
use Rattle.qil_commands.proofs.numbers.name_of.Goals as goal

pub returns-then-is_name : goal.returns-then-is_name
returns-then-is_name c = ap Some c.new.ensures ∙ ap (λ b. cond b (Some c.args.text.now) None) (sym c.if-is_name.true ∙ c.is_name.ensures)
