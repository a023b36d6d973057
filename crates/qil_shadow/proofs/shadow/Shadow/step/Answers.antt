-- One move later.
use Rattle.std.proofs.Common.{refl}
use Rattle.qil_shadow.proofs.FollowLemmas.{moved_on, one_later_is}
use Rattle.qil_shadow.proofs.shadow.Shadow.step.Goals as goal

pub returns-clause-next : goal.returns-clause-next
returns-clause-next g c = λ s f gs r few goes_on.
    let k = c.in_ok-do_next.ensures.next s f gs r goes_on in
    moved_on c.args.code.now s c.args.self.now c.do_next.new.self _ k refl refl refl refl refl (one_later_is c.do_next.new.self.position c.args.self.now.position _ k.position_is few c.saturating_add-self.ensures)
