use Rattle.std.proofs.Common.{rules}
use Rattle.std.specs.Prelude.{nat_le}
use Rattle.std.proofs.lemmas.List.Sorted.{IsPartitionPoint-from_clause, IsPartitionedBy-leb}
use Rattle.unit_index.proofs.UnderLemmas.{ends_rise}
use Rattle.unit_index.proofs.under.count_before.Goals as goal

pub returns-clause-point : goal.returns-clause-point
returns-clause-point c =
    IsPartitionPoint-from_clause (λ place. nat_le place.1 c.args.offset) _ _ c.partition_point.ensures.partitioned
    (IsPartitionedBy-leb (λ place. place.1) c.args.places.now c.args.offset (ends_rise c.args.places.now c.requires)) (λ a r q k. search rules)
