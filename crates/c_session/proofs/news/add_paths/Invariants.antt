use Rattle.std.proofs.Common.{◌≡◌}
use Rattle.doc_texts.specs.Texts.{add_all}
use Rattle.c_session.proofs.news.add_paths.Given as goal

abbrev pub invariant-paths : goal.invariant-paths
invariant-paths l = add_all l.set l.path-iterator.rest.items ≡ add_all l.fn.set l.fn.paths.items
