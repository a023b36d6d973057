-- Bytes are cut at the first tabulator.
use Rattle.qrev_map.proofs.Fields.{cut_found, cut_none}
use Rattle.qrev_map.proofs.line.cut.Goals as goal

pub returns-in-Some-clause-cut : goal.returns-in-Some-clause-cut
returns-in-Some-clause-cut c = cut_found c.args.bytes.now c.in-Some.at (rw c.in-Some.is at c.memchr.ensures)

pub returns-in-None-clause-whole : goal.returns-in-None-clause-whole
returns-in-None-clause-whole c = cut_none c.args.bytes.now (rw c.in-None.is at c.memchr.ensures)
