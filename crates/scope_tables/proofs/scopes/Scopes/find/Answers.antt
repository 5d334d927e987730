use Rattle.std.proofs.Common.{ap, sym, ◌∙◌}
use Rattle.std.specs.Prelude.{reverse}
use Rattle.scope_tables.specs.Scopes.{found}
use Rattle.scope_tables.proofs.MarkLemmas.{entity_if, found_newest}
use Rattle.scope_tables.proofs.NewestLemmas.{newest_below}
use Rattle.scope_tables.proofs.scopes.Scopes.find.Goals as goal

pub entity-requires : goal.entity-requires
entity-requires c = newest_below c.args.space.now c.args.name.now c.self.inside.table c.in-Some.place (sym c.in-Some.ensures)

pub returns-in-Some : goal.returns-in-Some
returns-in-Some c =
    c.entity.ensures ∙ ap (entity_if c.self.inside.table) c.in-Some.ensures
    ∙ sym (found_newest c.args.space.now c.args.name.now (reverse c.self.inside.marks.items) c.self.inside.table c.self.invariant)
    ∙ ap (found c.args.space.now c.args.name.now) c.self.view_is

pub returns-in-None : goal.returns-in-None
returns-in-None c =
    ap (entity_if c.self.inside.table) c.in-None.ensures
    ∙ sym (found_newest c.args.space.now c.args.name.now (reverse c.self.inside.marks.items) c.self.inside.table c.self.invariant)
    ∙ ap (found c.args.space.now c.args.name.now) c.self.view_is
