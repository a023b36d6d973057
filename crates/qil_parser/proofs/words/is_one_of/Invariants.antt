-- The text is one of the words that are left exactly if it is one of all.
use Rattle.std.proofs.Common.{◌≡◌, map, drop}
use Rattle.qil_parser.specs.Words.{is_one_of}
use Rattle.qil_parser.proofs.words.is_one_of.Given as goal

abbrev pub invariant-loop-word : goal.invariant-loop-word
invariant-loop-word l = is_one_of (map (λ word. word.now) (drop l.word-index l.table)) l.text ≡ is_one_of (map (λ word. word.now) l.table) l.text
