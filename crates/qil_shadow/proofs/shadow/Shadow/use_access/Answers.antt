-- One after the other.
use Rattle.qil_shadow.proofs.KeptLemmas.{keeps_all_on}
use Rattle.qil_shadow.proofs.shadow.Shadow.use_access.Goals as goal

pub returns : goal.returns
returns g c = keeps_all_on _ _ _ c.use_address.ensures c.use_block.ensures
