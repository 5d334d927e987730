use Rattle.std.proofs.Common.{rules, ◌≡◌, sym, true}
use Rattle.stmt_checks.proofs.folding.Folding.take_kept.Goals as goal
use Rattle.stmt_checks.specs.Taking.{BodyStays, HeadStays}

pub put-requires-clause-meant : goal.put-requires-clause-meant
put-requires-clause-meant c =
    let kept = c.args.kept in
    let head_true : c.in_ok-head_stays.field-0 ≡ true = search rules in
    let body_true : c.in_ok-body_stays.field-0 ≡ true = search rules in
    let head : HeadStays c.args.name.now c.args.tokens.now c.args.changed.now kept.part = c.in_ok-head_stays.ensures head_true in
    let body : BodyStays c.args.tokens.now kept.head c.args.changed.now kept.part.body = search (c.in_ok-body_stays.ensures body_true, rules) in
    record {
      head = c.requires.head head;
      body = c.requires.body body.p c.in-Some.body body.is c.in-Some.is body.same;
      checked = sym body.checked;
    }
