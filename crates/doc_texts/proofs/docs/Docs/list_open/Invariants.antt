use Rattle.std.proofs.Common.{◌≡◌}
use Rattle.std.specs.FinMap.{keys}
use Rattle.doc_texts.specs.Texts.{add_all}
use Rattle.doc_texts.proofs.docs.Docs.list_open.Given as goal

abbrev pub invariant-loop-path : goal.invariant-loop-path
invariant-loop-path l = add_all l.set l.path-iterator ≡ add_all l.fn.set (keys l.self.opened)
