-- By number and by names.
use Rattle.qil_shadow.proofs.DoubtsByName.{looked_named}
use Rattle.qil_shadow.proofs.shadow.Shadow.look.Goals as goal

pub returns-clause-named : goal.returns-clause-named
returns-clause-named g c = λ p s sh f own stands.
    looked_named p s sh f c.args.self.now.names c.args.self.now.calls.objects.starts c.args.self.now.calls.objects.objects c.args.self.now.data_end c.args.self.now.calls.top c.args.self.now.position
    c.args.place c.args.access c.args.self.now.found.items _ c.are_low.ensures own stands c.in_ok-look_at.ensures.noted
