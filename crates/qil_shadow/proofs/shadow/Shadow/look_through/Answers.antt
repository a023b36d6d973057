-- Open bits and blocks leave all else as it was.
use Rattle.qil_shadow.proofs.KeptLemmas.{keeps_on, looked_through}
use Rattle.qil_shadow.proofs.shadow.Shadow.look_through.Goals as goal

pub returns-clause-named : goal.returns-clause-named
returns-clause-named g c = λ p s sh f own stands.
    looked_through p s sh f c.args.place c.args.self.now c.use_access.new.self c.look.new.self _ _ _ _ _ c.access.ensures c.use_access.ensures (c.in_ok-look.ensures.named p s sh f) own stands

pub returns-clause-rest : goal.returns-clause-rest
returns-clause-rest g c = keeps_on c.args.self.now c.use_access.new.self _ c.use_access.ensures.rest c.in_ok-look.ensures.rest
