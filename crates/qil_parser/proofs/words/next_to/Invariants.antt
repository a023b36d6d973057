-- The text stands next to the same in the rows that are left as in all.
use Rattle.std.proofs.Common.{◌≡◌, map, drop}
use Rattle.qil_parser.specs.Words.{next_to}
use Rattle.qil_parser.proofs.words.next_to.Given as goal

abbrev pub invariant-loop-row : goal.invariant-loop-row
invariant-loop-row l = next_to (map (λ row. (row.0.now, row.1)) (drop l.row-index l.rows)) l.text ≡ next_to (map (λ row. (row.0.now, row.1)) l.rows) l.text
