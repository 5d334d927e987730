use Rattle.std.proofs.Common.{ap, ◌∙◌}
use Rattle.scope_tables.specs.Scopes.{or_outside}
use Rattle.earlier_items.specs.Before.{tag, tag_by}
use Rattle.earlier_items.proofs.Tagging.{tag_then}
use Rattle.earlier_items.proofs.tags.add_tag.Goals as goal

pub returns-in_ok-push-in-Tag : goal.returns-in_ok-push-in-Tag
returns-in_ok-push-in-Tag c =
    let tags = c.args.tags.now.items in
    λ q. ap (tag q) c.in_ok-push-in-Tag.ensures.items ∙ tag_then q tags c.in_ok-one-in-Tag.one
    ∙ ap (λ e. or_outside (tag_by q e e.kind) (tag q tags)) c.in_ok-one-in-Tag.ensures
