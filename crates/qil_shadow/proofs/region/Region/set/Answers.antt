-- One byte of the word is another.
use Rattle.qil_shadow.proofs.WordLemmas.{kept_set_found}
use Rattle.qil_shadow.proofs.region.Region.set.Goals as goal

pub returns-clause-kept : goal.returns-clause-kept
returns-clause-kept g c = kept_set_found _ _ _ _ _ _ c.self.view_is c.index.ensures c.spread-bytes.ensures c.requires
