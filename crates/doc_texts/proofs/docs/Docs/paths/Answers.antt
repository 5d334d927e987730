use Rattle.std.proofs.Common.{◌≡◌, subst, IfOk}
use Rattle.doc_texts.proofs.Counts.{paths_listed}
use Rattle.doc_texts.proofs.docs.Docs.paths.Goals as goal

pub returns : goal.returns
returns c =
    let listed = paths_listed c.args.self.now c.new-set.result c.list_disk.new.set c.list_open.new.set c.new-set.ensures c.in_ok-list_disk.ensures c.in_ok-list_open.ensures in
    subst (λ all. IfOk c.paths.result (λ paths. paths.items ≡ all)) listed c.paths.ensures
