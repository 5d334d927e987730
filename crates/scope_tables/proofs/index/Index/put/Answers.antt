use Rattle.std.proofs.Common.{rules, ◌≡◌, ℕ, List, None, Some, cond, ap, sym, ◌∙◌}
use Rattle.std.specs.HashMap.{get, get_by_text}
use Rattle.std.specs.Str.{bytes_eq}
use Rattle.type_data.specs.declared.members.Space.{Space}
use Rattle.type_data.specs.contracts.members.SpacePartialEq.TheImpl as spaces
use Rattle.scope_tables.proofs.IndexLemmas.{is_put, placed_in}
use Rattle.scope_tables.proofs.index.Index.put.Goals as goal

pub returns-in-Some-clause-put : goal.returns-in-Some-clause-put
returns-in-Some-clause-put c =
    let some : get spaces.eq-value.it c.args.self.now.spaces c.args.space.now ≡ Some c.in-Some.places.now = search rules in
    is_put c.args.space.now c.args.name.now (Some c.args.place) c.args.self.now.spaces (c.get_mut.follows.lender c.put.new.places) c.put.new.places
    (((c.get_mut.follows.holds c.put.new.places).3 (search rules)).0)
    (λ (q : List ℕ). c.in_ok-put.ensures.put q ∙ ap (λ o. cond (bytes_eq c.args.name.now q) (Some c.args.place) (placed_in o q)) (sym some))

pub returns-in-Ok-clause-put : goal.returns-in-Ok-clause-put
returns-in-Ok-clause-put c =
    let none : get spaces.eq-value.it c.args.self.now.spaces c.args.space.now ≡ None = search rules in
    is_put c.args.space.now c.args.name.now (Some c.args.place) c.args.self.now.spaces c.insert.new.self c.put-2.new.places
    (λ (s : Space). c.in-Ok.ensures.updates.0 s
    ∙ ap (λ x. cond (spaces.eq-value.it x s) (Some c.put-2.new.places) (get spaces.eq-value.it c.get_mut.follows.lender-at-none s)) c.in_ok-space.ensures
    ∙ ap (λ m. cond (spaces.eq-value.it c.args.space.now s) (Some c.put-2.new.places) (get spaces.eq-value.it m s)) c.get_mut.follows.holds-at-none)
    (λ (q : List ℕ). c.in_ok-put-2.ensures.put q
    ∙ ap (cond (bytes_eq c.args.name.now q) (Some c.args.place)) (let nothing : get_by_text c.new-places.result q ≡ None = search rules in nothing)
    ∙ ap (λ o. cond (bytes_eq c.args.name.now q) (Some c.args.place) (placed_in o q)) (sym none))
