-- A search by halves for the first mapping that isn't before a line.
use Rattle.std.proofs.Common.{rules, sym, subst, ltb}
use Rattle.std.specs.List.Sorted.{IsPartitionedBy}
use Rattle.std.proofs.lemmas.List.Sorted.{IsPartitionPoint-from_clause, IsPartitionedBy-ltb}
use Rattle.qrev_map.proofs.Ranks.{from_point}
use Rattle.qrev_map.proofs.file.SourceFile.mappings_from.Goals as goal

pub returns : goal.returns
returns g c = λ rise.
    let parted = subst (λ v. IsPartitionedBy (λ m. ltb m.line c.args.line) v) (sym c.as_slice-mappings.ensures.value) (IsPartitionedBy-ltb (λ m. m.line) c.args.self.now.mappings.items c.args.line rise.lines) in
    let point = IsPartitionPoint-from_clause (λ m. ltb m.line c.args.line) _ _ c.partition_point-first.ensures.partitioned parted (λ a r f h. search rules) in
    rw (← c.as_slice-mappings.ensures.value) (from_point c.args.line c.as_slice-mappings.result.now c.partition_point-first.result c.partition_point-first.ensures.bound point)
