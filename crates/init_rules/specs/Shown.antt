-- What the code's part is seen as.
use Rattle.init_rules.specs.Parts as spec
use Rattle.init_rules.specs.declared.parts.Part.{Part}

abbrev pub shown : Part → spec.Part
shown p = spec.part_of p.number p.ty.now
