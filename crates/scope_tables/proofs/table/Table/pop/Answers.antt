use Rattle.std.proofs.Common.{rules, ◌≡◌, ℕ, ◌++◌, [], ◌∷◌, List, ap, subst, sym, ◌∙◌}
use Rattle.std.specs.Prelude.{if◌then◌else◌, IsSome}
use Rattle.type_data.specs.declared.members.Space.{Space}
use Rattle.scope_tables.specs.Indexed.{IsIndexed}
use Rattle.scope_tables.specs.Places.{is_key, place_at}
use Rattle.scope_tables.proofs.TableLemmas.{indexed_pop, last_is_seen}
use Rattle.scope_tables.proofs.table.Table.pop.Goals as goal

pub put_back-requires : goal.put_back-requires
put_back-requires c =
    let split : c.self.inside.entries.items ≡ c.pop.new.self.items ++ c.in-Some.entry ∷ [] = search rules in
    λ h. subst (λ n. IsSome (place_at c.self.inside.index c.in-Some.entry.binding.space n)) (sym c.as_str.ensures)
    (last_is_seen c.pop.new.self.items c.in-Some.entry c.self.inside.index (subst (λ xs. IsIndexed xs c.self.inside.index) split c.self.invariant))

pub invariant_of-self : goal.invariant_of-self
invariant_of-self c =
    let e = c.in-Some.entry in
    let split : c.self.inside.entries.items ≡ c.pop.new.self.items ++ e ∷ [] = search rules in
    indexed_pop c.pop.new.self.items e c.self.inside.index c.put_back.new.self
    (λ (s : Space) (q : List ℕ). c.put_back.ensures s q
    ∙ ap (λ n. if is_key e.binding.space n s q then e.hidden else place_at c.self.inside.index s q) c.as_str.ensures)
    (subst (λ xs. IsIndexed xs c.self.inside.index) split c.self.invariant)
