use Rattle.std.proofs.Common.{nat_le, rules}
use Rattle.std.proofs.lemmas.List.Sorted.{IsPartitionPoint-from_clause, IsPartitionedBy-leb}
use Rattle.text_lines.proofs.table.count_up_to.Goals as goal

pub returns-clause-point : goal.returns-clause-point
returns-clause-point c =
    IsPartitionPoint-from_clause (λ start. nat_le start c.args.offset) _ _ c.partition_point.ensures.partitioned
    (IsPartitionedBy-leb (λ start. start) c.args.starts.now c.args.offset c.requires) (λ a r q k. search rules)
