-- Answers to the goals of `put_sources`.
use Rattle.std.proofs.Common.{refl}
use Rattle.qil_printer.specs.Canonical.{source_words, more_source_words, sources_words}
use Rattle.qil_printer.proofs.CanonicalLemmas.{listed_put, listed_stop}
use Rattle.qil_printer.proofs.canonical.put_sources.Goals as goal

pub returns-in_err-put_first_source-in-len1-up : goal.returns-in_err-put_first_source-in-len1-up
returns-in_err-put_first_source-in-len1-up g c = listed_stop source_words more_source_words sources_words (λ x others. refl) c.args.sources.now c.first-item.result c.in-len1-up.len_at_least c.first-item.is _ _ c.from_residual.ensures.1 _ _ _ c.in_err-put_first_source-in-len1-up.ensures

pub returns-in_ok-put_first_source-in-len1-up : goal.returns-in_ok-put_first_source-in-len1-up
returns-in_ok-put_first_source-in-len1-up g c = listed_put source_words more_source_words sources_words (λ x others. refl) c.args.sources.now c.first-item.result c.in-len1-up.len_at_least c.first-item.is _ _ _ _ _ c.in_ok-put_first_source-in-len1-up.ensures c.put_more_sources.ensures
