use Rattle.std.proofs.Common.{arith, rules, ◌≡◌, length, map, set, get_or, Some, ap, subst, ◌∙◌}
use Rattle.std.proofs.lemmas.List.{length-map}
use Rattle.scope_tables.specs.Indexed.{IsIndexed, binding_of}
use Rattle.scope_tables.specs.Places.{entity_in, with_entity}
use Rattle.scope_tables.specs.declared.entities.Entity.{Entity}
use Rattle.scope_tables.specs.declared.table.Entry.{Entry}
use Rattle.scope_tables.proofs.TableLemmas.{entity_at, indexed_with, map_with, with_other}
use Rattle.scope_tables.proofs.table.Table.replace.Goals as goal

pub invariant_of-self : goal.invariant_of-self
invariant_of-self c =
    let e = c.index_mut.result.now in
    let is : get_or c.self.inside.entries.items c.args.place e ≡ e = search rules in
    let after : c.args.entity ≡ c.replace.new.dest = search rules in
    subst (λ x. IsIndexed (set c.self.inside.entries.items c.args.place x) c.self.inside.index)
    (ap (λ (x : Entry). with_other x c.args.entity) is ∙ ap (λ (y : Entity). with_other e y) after)
    (indexed_with c.self.inside.entries.items c.args.place e c.args.entity c.self.inside.index c.self.invariant)

pub returns-clause-before : goal.returns-clause-before
returns-clause-before c =
    let e = c.index_mut.result.now in
    let is : e ≡ get_or c.self.inside.entries.items c.args.place e = search rules in
    let before : c.replace.result ≡ e.binding.entity = search rules in
    let count = length-map c.self.inside.entries.items binding_of in
    let size = ap length c.self.view_is in
    let below = c.requires in
    ap Some before ∙ ap (λ (x : Entry). Some x.binding.entity) is
    ∙ entity_at c.self.inside.entries.items c.args.place e (omega (arith, count, size, below))
    ∙ ap (λ bs. entity_in bs c.args.place) c.self.view_is

pub returns-clause-set : goal.returns-clause-set
returns-clause-set c =
    let e = c.index_mut.result.now in
    let is : e ≡ get_or c.self.inside.entries.items c.args.place e = search rules in
    let after : c.replace.new.dest ≡ c.args.entity = search rules in
    ap (λ (y : Entity). map binding_of (set c.self.inside.entries.items c.args.place (with_other e y))) after
    ∙ ap (λ (x : Entry). map binding_of (set c.self.inside.entries.items c.args.place (with_other x c.args.entity))) is
    ∙ map_with c.self.inside.entries.items c.args.place e c.args.entity
    ∙ ap (λ bs. with_entity bs c.args.place c.args.entity) c.self.view_is
