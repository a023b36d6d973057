-- The goals of `objects_stand_in_order` that the check leaves open.
use Rattle.qil_layout_builder.proofs.LawLemmas.{first_is_least, next_is_least, objects_apart, data_ends, no_bytes}
use Rattle.qil_layout_builder.proofs.laws.objects_stand_in_order.Goals as goal

pub returns-clause-first : goal.returns-clause-first
returns-clause-first g c = λ p d a none own l. first_is_least p none own d a l

pub returns-clause-next : goal.returns-clause-next
returns-clause-next g c = λ p k d e a b none own l m. next_is_least p none own k d e a b l m

pub returns-clause-apart : goal.returns-clause-apart
returns-clause-apart g c = λ p j k d e a b none own h l m. objects_apart p none own j k d e a b h l m

pub returns-clause-last : goal.returns-clause-last
returns-clause-last g c = λ p k d a none own h l. data_ends p none own k d a h l

pub returns-clause-none : goal.returns-clause-none
returns-clause-none g c = λ p e. no_bytes p e
