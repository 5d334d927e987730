use Rattle.scope_tables.proofs.LinkedLemmas.{IsLeft, places_left}
use Rattle.scope_tables.proofs.table.Table.linked.Given as goal

abbrev pub invariant-loop-place : goal.invariant-loop-place
invariant-loop-place l = IsLeft l.name l.self l.place

abbrev pub decreases-loop-place : goal.decreases-loop-place
decreases-loop-place l = places_left l.place
