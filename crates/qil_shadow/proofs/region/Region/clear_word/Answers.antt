-- A word of numbers is stored.
use Rattle.qil_shadow.proofs.ClearLemmas.{word_cleared}
use Rattle.qil_shadow.proofs.region.Region.clear_word.Goals as goal

pub returns-clause-kept : goal.returns-clause-kept
returns-clause-kept g c = word_cleared _ _ _ c.self.view_is c.requires
