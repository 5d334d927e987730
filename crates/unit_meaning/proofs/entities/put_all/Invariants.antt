-- What is left is what stands behind the entities that were put.
use Rattle.std.proofs.Common.{◌≡◌, ◌≤◌, ◌-◌, length, drop}
use Rattle.unit_meaning.specs.Entities.{put_all}
use Rattle.unit_meaning.proofs.entities.put_all.Given as goal

abbrev pub invariant-entities : goal.invariant-entities
invariant-entities l = record {
  all : l.count ≡ length l.entities;
  short : length l.rest ≤ length l.entities;
  here : drop (length l.entities - length l.rest) l.entities ≡ l.rest;
  put : put_all l.sources l.all l.rest ≡ put_all l.sources l.fn.all l.entities;
}

abbrev pub decreases-entities : goal.decreases-entities
decreases-entities l = length l.rest
