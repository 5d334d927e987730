use Rattle.c_session.specs.Classed.{class_in}
use Rattle.c_session.specs.Outcomes.{all_occs}
use Rattle.c_session.proofs.Plans.{short_plan}
use Rattle.c_session.proofs.rename_laws.names_are_short.Goals as goal

pub returns : goal.returns
returns c = λ texts conf t name p is. short_plan (class_in (all_occs texts conf) t) name p is
