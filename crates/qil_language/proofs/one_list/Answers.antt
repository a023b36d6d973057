-- The goals of `one_list` that the check leaves open.
use Rattle.qil_language.proofs.Loop.{one_list}
use Rattle.qil_language.proofs.one_list.Goals as goal

pub returns : goal.returns
returns g c = λ f ts xs ys h k. one_list f ts xs ys h k
