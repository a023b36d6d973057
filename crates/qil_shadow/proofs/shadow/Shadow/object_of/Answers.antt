-- One of the data alone begins there.
use Rattle.qil_shadow.proofs.DataPlaces.{only_object}
use Rattle.qil_shadow.proofs.shadow.Shadow.object_of.Goals as goal

pub returns-in-Some : goal.returns-in-Some
returns-in-Some g c = λ are is. only_object _ _ _ _ _ are is c.in-Some.ensures
