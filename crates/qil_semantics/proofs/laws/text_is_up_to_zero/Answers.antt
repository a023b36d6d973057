-- The goals of `text_is_up_to_zero` that the check leaves open.
use Rattle.qil_semantics.proofs.laws.text_is_up_to_zero.Goals as goal
use Rattle.qil_semantics.proofs.TextLemmas.{text-at, cut-at}

pub returns-clause-text : goal.returns-clause-text
returns-clause-text c m a bytes h t = text-at m a bytes h t

pub returns-clause-dead : goal.returns-clause-dead
returns-clause-dead c m a k h t = cut-at m a k h t
