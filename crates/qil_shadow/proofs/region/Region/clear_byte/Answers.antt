-- A byte of a word of numbers is one.
use Rattle.qil_shadow.proofs.WordLemmas.{kept_number_found}
use Rattle.qil_shadow.proofs.region.Region.clear_byte.Goals as goal

pub returns-else-not-is_of_numbers-clause-kept : goal.returns-else-not-is_of_numbers-clause-kept
returns-else-not-is_of_numbers-clause-kept g c = kept_number_found _ _ _ _ _ c.self.view_is c.index.ensures c.requires c.if-not-is_of_numbers.false c.is_of_numbers.ensures
