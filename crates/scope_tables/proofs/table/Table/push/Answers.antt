use Rattle.std.proofs.Common.{rules, ◌≡◌, ℕ, ◌++◌, [], ◌∷◌, List, length, Some, ap, subst, sym, ◌∙◌}
use Rattle.std.specs.Prelude.{if◌then◌else◌}
use Rattle.type_data.specs.declared.members.Space.{Space}
use Rattle.scope_tables.specs.Indexed.{IsIndexed}
use Rattle.scope_tables.specs.Places.{is_key, place_at}
use Rattle.scope_tables.specs.declared.table.Entry.{Entry}
use Rattle.scope_tables.proofs.TableLemmas.{indexed_push}
use Rattle.scope_tables.proofs.table.Table.push.Goals as goal

pub invariant_of-self-2 : goal.invariant_of-self-2
invariant_of-self-2 c =
    let e : Entry = record { binding = c.args.binding; hidden = c.get-hidden.result } in
    let same = c.as_str-name.ensures in
    let count : c.len.result ≡ length c.self.inside.entries.items = search rules in
    let items : c.push_reserved.new.self.items ≡ c.self.inside.entries.items ++ e ∷ [] = search rules in
    subst (λ xs. IsIndexed xs c.put.new.self) (sym items)
    (indexed_push c.self.inside.entries.items e c.self.inside.index c.put.new.self
    (c.get-hidden.ensures ∙ ap (place_at c.self.inside.index c.args.binding.space) same)
    (λ (s : Space) (q : List ℕ). c.in_ok-put.ensures.put s q
    ∙ ap (λ n. if is_key c.args.binding.space n s q then Some c.len.result else place_at c.self.inside.index s q) same
    ∙ ap (λ n. if is_key c.args.binding.space c.args.binding.name s q then Some n else place_at c.self.inside.index s q) count)
    c.self.invariant)
