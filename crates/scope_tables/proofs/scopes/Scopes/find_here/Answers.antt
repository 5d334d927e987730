use Rattle.std.proofs.Common.{rules, ◌≡◌, ◌<◌, ◌-◌, length, get_or, ap, ◌∙◌}
use Rattle.scope_tables.specs.Scopes.{here}
use Rattle.scope_tables.specs.declared.scopes.Mark.{Mark}
use Rattle.scope_tables.proofs.MarkLemmas.{here_old, here_new}
use Rattle.scope_tables.proofs.NewestLemmas.{newest_below}
use Rattle.scope_tables.proofs.scopes.Scopes.find_here.Goals as goal

pub entity-requires : goal.entity-requires
entity-requires c = newest_below c.args.space.now c.args.name.now c.self.inside.table c.in-Some.place c.in-Some.ensures.found.0

pub returns-in-Some : goal.returns-in-Some
returns-in-Some c =
    let marks = c.self.inside.marks.items in
    let m : Mark = c.in_ok-mark.mark.now in
    let some : length marks - 1 < length marks = search rules in
    let last : m ≡ get_or marks (length marks - 1) m = search rules in
    c.entity.ensures
    ∙ here_old c.args.space.now c.args.name.now marks m c.self.inside.table c.in-Some.place some last c.self.invariant c.in-Some.ensures.found.0 c.in-Some.ensures.found.1
    ∙ ap (here c.args.space.now c.args.name.now) c.self.view_is

pub returns-in-None : goal.returns-in-None
returns-in-None c =
    let marks = c.self.inside.marks.items in
    let m : Mark = c.in_ok-mark.mark.now in
    let some : length marks - 1 < length marks = search rules in
    let last : m ≡ get_or marks (length marks - 1) m = search rules in
    here_new c.args.space.now c.args.name.now marks m c.self.inside.table some last c.self.invariant c.in-None.ensures.missing
    ∙ ap (here c.args.space.now c.args.name.now) c.self.view_is
