use Rattle.std.proofs.Common.{ap, ◌∙◌}
use Rattle.std.specs.Prelude.{reverse}
use Rattle.scope_tables.specs.Scopes.{linked}
use Rattle.scope_tables.proofs.LinkedLemmas.{linked_scopes}
use Rattle.scope_tables.proofs.scopes.Scopes.find_linked.Goals as goal

pub returns : goal.returns
returns c =
    c.linked.ensures
    ∙ linked_scopes c.args.name.now (reverse c.self.inside.marks.items) c.self.inside.table c.self.invariant
    ∙ ap (linked c.args.name.now) c.self.view_is
