-- What the code's params stand for.
use Rattle.std.specs.Prelude.{option_map}
use Rattle.c_session.specs.Params as spec
use Rattle.c_session.specs.declared.params.Opening.{Opening}
use Rattle.c_session.specs.declared.params.Changing.{Changing}
use Rattle.c_session.specs.declared.params.FileChange.{FileChange}
use Rattle.c_session.specs.declared.params.Starting.{Starting}
use Rattle.c_session.specs.Questions as asking
use Rattle.c_session.specs.declared.questions.Asked.{Asked}

abbrev pub seen_opening : Opening → spec.Opening
seen_opening x = record { uri = x.uri.now; version = x.version; text = x.text.now }

abbrev pub seen_changing : Changing → spec.Changing
seen_changing x = record { uri = x.uri.now; version = x.version; changes = x.changes.items }

abbrev pub seen_file_change : FileChange → spec.FileChange
seen_file_change x = record { uri = x.uri.now; kind = x.kind }

abbrev pub seen_starting : Starting → spec.Starting
seen_starting x = record { root = option_map (λ uri. uri.now) x.root; encoding = x.encoding; prepare = x.prepare }

abbrev pub seen_asked : Asked → asking.Asked
seen_asked x = record { uri = x.uri.now; question = x.question }
