-- The mappings of a source, in order.
use Rattle.std.proofs.Common.{rules}
use Rattle.std.proofs.lemmas.List.Sorted.{IsPermutation-trans, IsNonDecreasingBy-from_sort_by_key, answers_always, ties_still_rise}
use Rattle.qrev_map.proofs.file.SourceFile.new.Goals as goal

pub returns-clause-same : goal.returns-clause-same
returns-clause-same g c = IsPermutation-trans _ _ _ c.in_ok-sort_by_key.ensures.permutation c.in_ok-sort_by_key-2.ensures.permutation

pub returns-clause-rise : goal.returns-clause-rise
returns-clause-rise g c = record {
  lines = IsNonDecreasingBy-from_sort_by_key (λ m. m.line) _ c.in_ok-sort_by_key-2.ensures.sorted (λ a r f h. search rules);
  ties = ties_still_rise (λ m. m.text_line) (λ m. m.line) _ _ (c.in_ok-sort_by_key.ensures.sorted (λ m. m.text_line) (answers_always _ _ _ (λ f a r f2 h. search rules)))
      (c.in_ok-sort_by_key-2.ensures.stable (λ m. m.line) (answers_always _ _ _ (λ f a r f2 h. search rules)));
}
