-- The functions are counted by hand, so that another count is refused at once.
use Rattle.std.proofs.Common.{◌∙◌, ap, length}
use Rattle.qil_layout.proofs.image.Image.func_count.Goals as goal

pub returns-clause-count : goal.returns-clause-count
returns-clause-count g c = ap length (c.as_slice.ensures ∙ ap (λ p. p.funcs) c.self.view_is)
