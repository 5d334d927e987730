use Rattle.std.proofs.Common.{Some, None, sym, ◌≤◌, subst}
use Rattle.doc_texts.specs.Texts.{byte_count}
use Rattle.doc_texts.proofs.Found.{disk_size_is, disk_size_within}
use Rattle.doc_texts.proofs.docs.Docs.disk_len.Goals as goal

pub returns-in-Some-clause-size : goal.returns-in-Some-clause-size
returns-in-Some-clause-size c = sym (disk_size_is c.args.self.now c.args.path.now (Some c.in-Some.text.now) c.in-Some.ensures.text)

pub returns-in-Some-clause-within : goal.returns-in-Some-clause-within
returns-in-Some-clause-within c =
    subst (λ n. n ≤ byte_count c.args.self.now) (disk_size_is c.args.self.now c.args.path.now (Some c.in-Some.text.now) c.in-Some.ensures.text) (disk_size_within c.args.self.now c.args.path.now)

pub returns-in-None-clause-size : goal.returns-in-None-clause-size
returns-in-None-clause-size c = sym (disk_size_is c.args.self.now c.args.path.now None c.in-None.ensures.text)
