use Rattle.std.proofs.Common.{◌≡◌, length}
use Rattle.std.specs.List.{filter}
use Rattle.doc_texts.specs.Texts.{add_all, marked}
use Rattle.c_session.specs.Files.{is_wanted, files_in}
use Rattle.c_session.proofs.files.to_load.Given as goal

abbrev pub invariant-listed : goal.invariant-listed
invariant-listed l = add_all l.paths (filter (is_wanted l.root) (files_in l.rest)) ≡ marked (filter (is_wanted l.fn.root) (files_in l.fn.found))

abbrev pub decreases-listed : goal.decreases-listed
decreases-listed l = length l.rest
