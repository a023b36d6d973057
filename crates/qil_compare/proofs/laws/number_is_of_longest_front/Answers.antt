-- By the lemmas of the events of two runs.
use Rattle.qil_compare.proofs.Longest.{answer_part, answer_same, answer_front}
use Rattle.qil_compare.proofs.laws.number_is_of_longest_front.Goals as goal

pub returns-clause-part : goal.returns-clause-part
returns-clause-part g c = λ kinds limit p q t u w v answer answered is. answer_part kinds limit p q t u w v answer answered is

pub returns-clause-same : goal.returns-clause-same
returns-clause-same g c = λ kinds limit p q t u w v answer answered is. answer_same kinds limit p q t u w v answer answered is

pub returns-clause-limit : goal.returns-clause-limit
returns-clause-limit g c = λ kinds limit p q t u w v answer answered. answer_front kinds limit p q t u w v answer answered
