-- What the code's member that was found is seen as.
use Rattle.expr_rules.specs.Members as spec
use Rattle.expr_rules.specs.declared.members.Found.{Found}

abbrev pub shown : Found → spec.Found
shown f = record { ty = f.ty.now; qual = f.qual; width = f.width; place = f.place }
