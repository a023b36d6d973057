-- The goals of `overlap_is_of_some_bytes_not_all` that the check leaves open.
use Rattle.qil_memory.proofs.Overlaps.{overlap_is, overlap_either_way}
use Rattle.qil_memory.proofs.laws.overlap_is_of_some_bytes_not_all.Goals as goal

pub returns-clause-part : goal.returns-clause-part
returns-clause-part c = overlap_is

pub returns-clause-either_way : goal.returns-clause-either_way
returns-clause-either_way c = overlap_either_way
