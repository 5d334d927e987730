-- What a store knows of who reads what.
use Rattle.std.specs.Prelude.{ℕ, List, Option}
use Rattle.query_core.specs.Readers.{Entries}
use Rattle.query_core.specs.Tallies.{Tallied, AreTallied}
use Rattle.query_core.specs.Stored.{AreNamed}
use Rattle.query_core.specs.declared.record.Record.{Record}

-- each record is named among the readers of what it reads, and the tallies are those of the records and of these roots
pub record AreKnown {K V : Type 0} (rows : List Entries) (t : Tallied) (slots : List (Option (Record K V))) (roots : List ℕ) : Type 0 where
  pub named : AreNamed rows slots
  pub tallied : AreTallied slots t roots
