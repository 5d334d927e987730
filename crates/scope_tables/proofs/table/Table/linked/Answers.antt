use Rattle.std.proofs.Common.{rules, ◌≡◌, ◌<◌, ℕ, length, map, get_or, None, Some, true, false, ap, subst, sym, ◌∙◌}
use Rattle.scope_tables.specs.Indexed.{binding_of}
use Rattle.scope_tables.specs.Places.{last_linked}
use Rattle.scope_tables.specs.Scopes.{is_linked}
use Rattle.scope_tables.proofs.LinkedLemmas.{IsLeft, left_begins, left_within, left_found, left_turns, left_smaller, left_ends, fewer_left}
use Rattle.scope_tables.proofs.table.Table.linked.Goals as goal

pub loop-place-init : goal.loop-place-init
loop-place-init c = left_begins c.args.name.now c.args.self.now c.get-place.result (c.get-place.ensures ∙ search rules)

pub index-entry-requires : goal.index-entry-requires
index-entry-requires c =
    let left : IsLeft c.args.name.now (map binding_of c.self.inside.entries.items) (Some c.in-Some.i) =
    subst (λ bs. IsLeft c.args.name.now bs (Some c.in-Some.i)) (sym c.self.view_is) (subst (λ p. IsLeft c.args.name.now c.args.self.now p) c.in-Some.is c.loop-place.invariant) in
    let within : c.in-Some.i < length c.self.inside.entries.items = left_within c.args.name.now c.self.inside.entries.items c.in-Some.i left in
    search (rules, within)

pub returns-then-has_linkage : goal.returns-then-has_linkage
returns-then-has_linkage c =
    let left : IsLeft c.args.name.now (map binding_of c.self.inside.entries.items) (Some c.in-Some.i) =
    subst (λ bs. IsLeft c.args.name.now bs (Some c.in-Some.i)) (sym c.self.view_is) (subst (λ p. IsLeft c.args.name.now c.args.self.now p) c.in-Some.is c.loop-place.invariant) in
    let e = c.index-entry.result.now in
    let here : e ≡ get_or c.self.inside.entries.items c.in-Some.i e = search rules in
    let has : is_linked e.binding.entity.linkage ≡ true = search rules in
    left_found c.args.name.now c.self.inside.entries.items c.in-Some.i e here left has ∙ ap (last_linked c.args.name.now) c.self.view_is

pub loop-place-smaller : goal.loop-place-smaller
loop-place-smaller c =
    let left : IsLeft c.args.name.now (map binding_of c.self.inside.entries.items) (Some c.in-Some.i) =
    subst (λ bs. IsLeft c.args.name.now bs (Some c.in-Some.i)) (sym c.self.view_is) (subst (λ p. IsLeft c.args.name.now c.args.self.now p) c.in-Some.is c.loop-place.invariant) in
    let e = c.index-entry.result.now in
    let here : e ≡ get_or c.self.inside.entries.items c.in-Some.i e = search rules in
    fewer_left e.hidden c.loop-place.place c.in-Some.i c.in-Some.is
    (λ (j : ℕ). left_smaller c.args.name.now c.self.inside.entries.items c.self.inside.index c.in-Some.i j e here c.self.invariant
    (left_within c.args.name.now c.self.inside.entries.items c.in-Some.i left))

pub loop-place-preserved : goal.loop-place-preserved
loop-place-preserved c =
    let left : IsLeft c.args.name.now (map binding_of c.self.inside.entries.items) (Some c.in-Some.i) =
    subst (λ bs. IsLeft c.args.name.now bs (Some c.in-Some.i)) (sym c.self.view_is) (subst (λ p. IsLeft c.args.name.now c.args.self.now p) c.in-Some.is c.loop-place.invariant) in
    let e = c.index-entry.result.now in
    let here : e ≡ get_or c.self.inside.entries.items c.in-Some.i e = search rules in
    let lacks : is_linked e.binding.entity.linkage ≡ false = search rules in
    subst (λ bs. IsLeft c.args.name.now bs e.hidden) c.self.view_is
    (left_turns c.args.name.now c.self.inside.entries.items c.self.inside.index c.in-Some.i e here c.self.invariant left lacks)

pub returns : goal.returns
returns c =
    let none : c.loop-place.place ≡ None = search rules in
    left_ends c.args.name.now c.args.self.now (subst (λ p. IsLeft c.args.name.now c.args.self.now p) none c.loop-place.invariant)
