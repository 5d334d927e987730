use Rattle.std.proofs.Common.{◌≡◌, true, false, rules, ap, sym, ◌∙◌}
use Rattle.include_units.specs.Coming.{question}
use Rattle.plain_mean.specs.Marks.{is_marked}
use Rattle.plain_mean.specs.Renewed.{has_other_by, path_of}
use Rattle.plain_mean.proofs.Comparing.{lines_wanted, none_changed}
use Rattle.plain_mean.proofs.changes.Changes.has_other.Goals as goal

pub returns-then-not-has-clause-other : goal.returns-then-not-has-clause-other
returns-then-not-has-clause-other c =
    let is : c.has.result ≡ false = search rules in
    sym (none_changed c.self.inside.prior.now c.self.inside.docs.now (question c.args.want.now)
    (sym (c.self.invariant.changed (path_of (question c.args.want.now))) ∙ ap (is_marked c.self.inside.changed) (sym c.path_of.ensures) ∙ sym c.has.ensures ∙ is))
    ∙ ap (λ v. has_other_by v.prior v.now (question c.args.want.now)) c.self.view_is

pub returns-in-Lines-clause-other : goal.returns-in-Lines-clause-other
returns-in-Lines-clause-other c =
    let is : c.has.result ≡ true = search rules in
    lines_wanted c.self.inside.prior.now c.self.inside.docs.now c.args.want.now _ c.in-Lines.is
    (sym (c.self.invariant.changed (path_of (question c.args.want.now))) ∙ ap (is_marked c.self.inside.changed) (sym c.path_of.ensures) ∙ sym c.has.ensures ∙ is)
    ∙ ap (λ v. has_other_by v.prior v.now (question c.args.want.now)) c.self.view_is
