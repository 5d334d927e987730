use Rattle.std.proofs.Common.{arith, rules, ◌≡◌, length, get_or, Some, ap, ◌∙◌}
use Rattle.std.proofs.lemmas.List.{length-map}
use Rattle.scope_tables.specs.Indexed.{binding_of}
use Rattle.scope_tables.specs.Places.{entity_in}
use Rattle.scope_tables.specs.declared.table.Entry.{Entry}
use Rattle.scope_tables.proofs.TableLemmas.{entity_at}
use Rattle.scope_tables.proofs.table.Table.entity.Goals as goal

pub returns : goal.returns
returns c =
    let is : c.index.result.now ≡ get_or c.self.inside.entries.items c.args.place c.index.result.now = search rules in
    let count = length-map c.self.inside.entries.items binding_of in
    let size = ap length c.self.view_is in
    let below = c.requires in
    ap (λ (x : Entry). Some x.binding.entity) is
    ∙ entity_at c.self.inside.entries.items c.args.place c.index.result.now (omega (arith, count, size, below))
    ∙ ap (λ bs. entity_in bs c.args.place) c.self.view_is
