-- What is kept are the counts of places that were met.
use Rattle.std.proofs.Common.{◌∙◌, rules}
use Rattle.std.proofs.lemmas.Fn.{filter_same}
use Rattle.qil_counts.specs.Counts.{is_met}
use Rattle.qil_counts.proofs.table.met_of.Goals as goal

pub returns : goal.returns
returns g c = c.new.ensures ∙ filter_same _ is_met _ (λ x b f' k. search rules) _ _ c.retain.ensures.filtered
