-- Where both found something and don't agree, they part.
use Rattle.std.proofs.Common.{rules, ◌∙◌, sym}
use Rattle.std.proofs.lemmas.Bool.{true≢false}
use Rattle.qil_compare.proofs.comparing.judge.Goals as goal

pub returns-then-not-agree : goal.returns-then-not-agree
returns-then-not-agree g c = (search rules, λ at. true≢false (sym (c.agree.ensures.1 at) ∙ c.if-not-agree.true))
