use Rattle.std.proofs.Common.{bytes_eq, ap, ◌∙◌}
use Rattle.std.specs.List.{list_any}
use Rattle.plain_mean.proofs.Comparing.{changed_listed, right_none}
use Rattle.plain_mean.proofs.Lexed.{lexed_stays, still_lexed}
use Rattle.plain_mean.proofs.changes.Changes.of.Goals as goal

pub over-lexings-requires : goal.over-lexings-requires
over-lexings-requires c =
    lexed_stays c.args.docs.now c.give_all.new.self c.forget_gone.new.self c.forget_gone.ensures
    (still_lexed c.args.prior.now c.args.docs.now c.args.kept c.give_all.new.self c.as_slice-2.result.now
    (λ q. ap (list_any (bytes_eq q)) (c.as_slice-2.ensures.value ∙ c.in_ok-paths.ensures) ∙ changed_listed c.args.prior.now c.args.docs.now q)
    c.in_ok-before.ensures.kept c.requires)

pub invariant_of-changes : goal.invariant_of-changes
invariant_of-changes c = record {
  changed = λ q. c.in_ok-changed.ensures q ∙ ap (list_any (bytes_eq q)) (c.as_slice.ensures.value ∙ c.in_ok-paths.ensures) ∙ changed_listed c.args.prior.now c.args.docs.now q;
  before = c.in_ok-before.ensures.given;
  others = right_none c.args.prior.now c.args.docs.now c.none_compared-others.result c.none_compared-others.ensures;
}
