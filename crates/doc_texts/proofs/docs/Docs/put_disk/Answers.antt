use Rattle.std.proofs.Common.{sym, subst}
use Rattle.doc_texts.specs.Kept.{Counted}
use Rattle.doc_texts.proofs.Found.{disk_put}
use Rattle.doc_texts.proofs.docs.Docs.put_disk.Goals as goal

pub invariant_of-self-2 : goal.invariant_of-self-2
invariant_of-self-2 c =
    subst (λ t. Counted t c.args.counts.files c.args.counts.bytes) (sym (disk_put c.self.inside c.args.self.now c.self.view_is c.args.path c.insert.new.self c.args.text c.in_ok-insert.ensures.updates.0)) c.requires

pub returns-clause-ok : goal.returns-clause-ok
returns-clause-ok c = disk_put c.self.inside c.args.self.now c.self.view_is c.args.path c.insert.new.self c.args.text c.in_ok-insert.ensures.updates.0
