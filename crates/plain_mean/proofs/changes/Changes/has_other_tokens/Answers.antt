use Rattle.std.proofs.Common.{not, ap, sym, ◌∙◌}
use Rattle.std.specs.BTreeMap.{is_at}
use Rattle.std.specs.Cmp.Lexicographic.{slice_cmp}
use Rattle.std.specs.Map.{lookup}
use Rattle.std.specs.Ordering.{nat_cmp}
use Rattle.c_tokens.specs.Lexed.{lexed}
use Rattle.include_units.specs.Files.{Text}
use Rattle.plain_mean.specs.Given.{text_in}
use Rattle.plain_mean.specs.Renewed.{has_other_by}
use Rattle.plain_mean.proofs.Comparing.{right_more, tokens_compared}
use Rattle.plain_mean.proofs.changes.Changes.has_other_tokens.Goals as goal

pub invariant_of-self-in_err-insert : goal.invariant_of-self-in_err-insert
invariant_of-self-in_err-insert c = record {
  changed = c.self.invariant.changed;
  before = c.self.invariant.before;
  others = λ path other found. c.self.invariant.others path other (ap (lookup (is_at (slice_cmp nat_cmp path))) (sym c.in_err-insert.ensures.err) ∙ found);
}

pub invariant_of-self-2 : goal.invariant_of-self-2
invariant_of-self-2 c = record {
  changed = c.self.invariant.changed;
  before = c.self.invariant.before;
  others = right_more c.self.inside.prior.now c.self.inside.docs.now c.self.inside.others c.insert.new.self c.args.path.now c.in_ok-share.field-0 (not c.same_tokens-other.result) c.self.invariant.others
      (tokens_compared c.self.inside.prior.now c.self.inside.docs.now c.args.path.now c.as_slice.result.now c.as_slice-2.result.now (not c.same_tokens-other.result) (ap not c.same_tokens-other.ensures)
      (c.as_slice.ensures ∙ c.in_ok-before.ensures.tokens)
      (c.as_slice-2.ensures ∙ c.in_ok-now.ensures.lexed.tokens ∙ ap (λ t. (lexed (text_in t c.args.path.now)).tokens) (c.requires ∙ ap (λ v. v.now) (sym c.self.view_is))))
      c.in_ok-share.ensures c.in_ok-insert.ensures.updates.0;
}

pub returns-clause-other : goal.returns-clause-other
returns-clause-other c =
    tokens_compared c.self.inside.prior.now c.self.inside.docs.now c.args.path.now c.as_slice.result.now c.as_slice-2.result.now (not c.same_tokens-other.result) (ap not c.same_tokens-other.ensures)
    (c.as_slice.ensures ∙ c.in_ok-before.ensures.tokens)
    (c.as_slice-2.ensures ∙ c.in_ok-now.ensures.lexed.tokens ∙ ap (λ t. (lexed (text_in t c.args.path.now)).tokens) (c.requires ∙ ap (λ v. v.now) (sym c.self.view_is)))
    ∙ ap (λ v. has_other_by v.prior v.now (Text c.args.path.now)) c.self.view_is
