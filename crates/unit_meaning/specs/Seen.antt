-- What the code's own records are seen as.
use Rattle.unit_meaning.specs.Faults.{Showing}
use Rattle.unit_meaning.specs.Meanings as meanings
use Rattle.unit_meaning.specs.declared.elaborated.Elaborated.{Elaborated}
use Rattle.unit_meaning.specs.declared.faults.Showing.{Showing as Shows}

abbrev pub showing_of : Shows → Showing
showing_of s = record { unit = s.sources.now; reached = s.reached.now; tags = s.tags.now }

abbrev pub elaborated_of : Elaborated → meanings.Elaborated
elaborated_of e = record {
  unit = e.sources.now;
  reached = e.reached.now;
  heads = e.heads.now;
  bodies = e.bodies.now;
}
