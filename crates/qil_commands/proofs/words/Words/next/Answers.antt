-- The slices `&line[n..]` are what is left after the first n bytes.
use Rattle.std.proofs.Common.{◌≡◌, [], drop, sym, ◌∙◌}
use Rattle.std.specs.List.{prefix_len}
use Rattle.std.proofs.lemmas.List.{take_rest}
use Rattle.qil_commands.specs.Words.{is_word_byte, words_of}
use Rattle.qil_commands.proofs.WordLemmas.{words_of-split, words_of-none}
use Rattle.qil_commands.proofs.words.Words.next.Goals as goal

pub returns-then-len-eq0 : goal.returns-then-len-eq0
returns-then-len-eq0 c =
    let line = c.args.self.now.rest.now in
    let none : prefix_len is_word_byte (drop c.spacing_len.result line) ≡ 0 =
    sym (rw (take_rest line c.spacing_len.result) at c.word_len-len.ensures.is) ∙ c.if-len-eq0.true in
    let empty : words_of line ≡ [] = words_of-none line (rw c.spacing_len.ensures.is at none) in
    (empty, empty)

pub returns : goal.returns
returns c =
    let line = c.args.self.now.rest.now in
    rw (take_rest line c.spacing_len.result, take_rest (drop c.spacing_len.result line) c.word_len-len.result)
    (words_of-split line c.spacing_len.result c.word_len-len.result c.spacing_len.ensures.is
    (rw (take_rest line c.spacing_len.result) at c.word_len-len.ensures.is) c.if-len-eq0.false)
