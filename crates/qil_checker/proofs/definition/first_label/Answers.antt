-- The first occurrence that begins a block has the first label.
use Rattle.std.proofs.Common.{◌∙◌, sym, ap, Some, List, ℕ, arith}
use Rattle.qil_checker.proofs.Texts.Homes.{begun_at, begun_behind, begun_none}
use Rattle.qil_checker.proofs.definition.first_label.Goals as goal

pub returns-in-Label : goal.returns-in-Label
returns-in-Label c =
    sym (begun_at c.args.occurrences.now c.loop-occurrence.occurrence-index c.occurrence-item.result c.in-Label.label (omega arith) c.occurrence-item.is c.in-Label.is c.loop-occurrence.invariant
    ∙ ap (λ (x : List ℕ). Some x) (sym (c.new.ensures ∙ c.bytes.ensures)))

pub loop-occurrence-preserved : goal.loop-occurrence-preserved
loop-occurrence-preserved c = begun_behind c.args.occurrences.now c.loop-occurrence.occurrence-index c.occurrence-item.result (omega arith) c.occurrence-item.is c.in_default.not-Label c.loop-occurrence.invariant

pub returns : goal.returns
returns c = sym (begun_none c.args.occurrences.now c.loop-occurrence.occurrence-index (omega arith) c.loop-occurrence.invariant)
