-- No place was met.
use Rattle.std.proofs.Common.{◌∙◌, sym, ap, length}
use Rattle.std.specs.List.{filter}
use Rattle.qil_counts.specs.Counts.{is_met, places}
use Rattle.qil_counts.proofs.Counting.{none_met}
use Rattle.qil_counts.proofs.table.CountTable.new.Goals as goal

pub invariant_of-result : goal.invariant_of-result
invariant_of-result g c = (c.in_ok-rows.ensures.numbered, sym (ap (λ l. length (filter is_met l)) c.in_ok-rows.ensures.counts ∙ ap length (none_met (places c.args.code.now))))
