use Rattle.std.proofs.Common.{sym, ap, ◌∙◌}
use Rattle.elab_core.specs.Ends.{group_name}
use Rattle.elab_core.proofs.Layers.{declarator_is, group_grouped, group_named, group_no_group}
use Rattle.elab_core.specs.Ends.{name_of}
use Rattle.tree_data.specs.Seen.{declarator_of}
use Rattle.elab_core.proofs.ends.+names.Goals as goal

pub group_name-returns-in-NoGroup : goal.group_name-returns-in-NoGroup
group_name-returns-in-NoGroup t c = sym (ap group_name (group_no_group c.args.group.now c.in-NoGroup.is))

pub group_name-returns-in-Named : goal.group_name-returns-in-Named
group_name-returns-in-Named t c = sym (ap group_name (group_named c.args.group.now c.in-Named.at c.in-Named.is))

pub group_name-returns-in-Grouped : goal.group_name-returns-in-Grouped
group_name-returns-in-Grouped t c = c.name_of.ensures ∙ ap (λ x. name_of (declarator_of x)) c.deref.ensures ∙ sym (ap group_name (group_grouped c.args.group.now c.in-Grouped.field-0 c.in-Grouped.inner c.in-Grouped.field-2 c.in-Grouped.is))

pub name_of-returns : goal.name_of-returns
name_of-returns t c = c.group_name.ensures ∙ sym (ap name_of (declarator_is c.args.declarator.now))
