use Rattle.c_session.proofs.Standing.{ranges_stand}
use Rattle.c_session.proofs.rename_laws.edits_stand_apart.Goals as goal

pub returns : goal.returns
returns c = λ texts conf t name edits utf8 is. ranges_stand texts edits.toks utf8 (c.renames_keep_bindings.ensures texts conf t name edits is).class.ordered
