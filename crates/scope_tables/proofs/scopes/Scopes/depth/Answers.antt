use Rattle.std.proofs.Common.{rules, ◌≡◌, length, ap, sym, ◌∙◌}
use Rattle.std.specs.Prelude.{reverse}
use Rattle.std.proofs.lemmas.List.{length-reverse}
use Rattle.scope_tables.proofs.MarkLemmas.{length_cut}
use Rattle.scope_tables.proofs.scopes.Scopes.depth.Goals as goal

pub returns : goal.returns
returns c =
    let count : c.len.result ≡ length c.self.inside.marks.items = search rules in
    count ∙ sym (length-reverse c.self.inside.marks.items) ∙ sym (length_cut (reverse c.self.inside.marks.items) c.self.inside.table) ∙ ap length c.self.view_is
