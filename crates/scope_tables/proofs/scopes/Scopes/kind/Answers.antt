use Rattle.std.proofs.Common.{rules, ◌≡◌, ◌<◌, ◌-◌, length, get_or, ap, ◌∙◌}
use Rattle.scope_tables.specs.Scopes.{innermost_kind}
use Rattle.scope_tables.specs.declared.scopes.Mark.{Mark}
use Rattle.scope_tables.proofs.MarkLemmas.{kind_some, kind_none}
use Rattle.scope_tables.proofs.scopes.Scopes.kind.Goals as goal

pub returns-in-Some : goal.returns-in-Some
returns-in-Some c =
    let marks = c.self.inside.marks.items in
    let m : Mark = c.in-Some.mark.now in
    let some : length marks - 1 < length marks = search rules in
    let last : m ≡ get_or marks (length marks - 1) m = search rules in
    kind_some marks m c.self.inside.table some last ∙ ap innermost_kind c.self.view_is

pub returns-in-None : goal.returns-in-None
returns-in-None c =
    let none : length c.self.inside.marks.items ≡ 0 = search rules in
    kind_none c.self.inside.marks.items c.self.inside.table none ∙ ap innermost_kind c.self.view_is
