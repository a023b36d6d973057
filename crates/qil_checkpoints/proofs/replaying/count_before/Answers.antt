-- The pokes rise.
use Rattle.std.proofs.Common.{rules}
use Rattle.std.proofs.lemmas.List.Sorted.{IsPartitionPoint-from_clause}
use Rattle.qil_checkpoints.specs.Walk.{is_before}
use Rattle.qil_checkpoints.proofs.Parts.{are_parted, found_count}
use Rattle.qil_checkpoints.proofs.replaying.count_before.Goals as goal

pub returns-clause-count : goal.returns-clause-count
returns-clause-count c =
    found_count c.args.pokes.now c.args.position c.partition_point.result c.partition_point.ensures.bound
    (IsPartitionPoint-from_clause (is_before c.args.position) _ _ c.partition_point.ensures.partitioned (are_parted c.args.pokes.now c.args.position c.requires) (λ a r q k. search rules))
