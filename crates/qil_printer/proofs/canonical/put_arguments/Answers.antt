-- Answers to the goals of `put_arguments`.
use Rattle.std.proofs.Common.{refl}
use Rattle.qil_printer.specs.Canonical.{argument_words, more_argument_words, arguments_words}
use Rattle.qil_printer.proofs.CanonicalLemmas.{listed_put, listed_stop}
use Rattle.qil_printer.proofs.canonical.put_arguments.Goals as goal

pub returns-in_err-put_first_argument-in-len1-up : goal.returns-in_err-put_first_argument-in-len1-up
returns-in_err-put_first_argument-in-len1-up g c = listed_stop argument_words more_argument_words arguments_words (λ x others. refl) c.args.arguments.now c.first-item.result c.in-len1-up.len_at_least c.first-item.is _ _ c.from_residual.ensures.1 _ _ _ c.in_err-put_first_argument-in-len1-up.ensures

pub returns-in_ok-put_first_argument-in-len1-up : goal.returns-in_ok-put_first_argument-in-len1-up
returns-in_ok-put_first_argument-in-len1-up g c = listed_put argument_words more_argument_words arguments_words (λ x others. refl) c.args.arguments.now c.first-item.result c.in-len1-up.len_at_least c.first-item.is _ _ _ _ _ c.in_ok-put_first_argument-in-len1-up.ensures c.put_more_arguments.ensures
