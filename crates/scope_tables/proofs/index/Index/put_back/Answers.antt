use Rattle.std.proofs.Common.{rules, ◌≡◌, ℕ, List, None, Some, cond, ap, sym, ◌∙◌}
use Rattle.std.specs.HashMap.{get}
use Rattle.std.specs.Str.{bytes_eq}
use Rattle.type_data.specs.contracts.members.SpacePartialEq.TheImpl as spaces
use Rattle.scope_tables.proofs.IndexLemmas.{is_put, is_put_nowhere, placed_in}
use Rattle.scope_tables.proofs.index.Index.put_back.Goals as goal

pub returns-in-Some : goal.returns-in-Some
returns-in-Some c =
    let some : get spaces.eq-value.it c.args.self.now.spaces c.args.space.now ≡ Some c.in-Some.places.now = search rules in
    is_put c.args.space.now c.args.name.now c.args.place c.args.self.now.spaces (c.get_mut.follows.lender c.put_back.new.places) c.put_back.new.places
    (((c.get_mut.follows.holds c.put_back.new.places).3 (search rules)).0)
    (λ (q : List ℕ). c.put_back.ensures q ∙ ap (λ o. cond (bytes_eq c.args.name.now q) c.args.place (placed_in o q)) (sym some))

pub returns-in_default : goal.returns-in_default
returns-in_default c =
    let none : get spaces.eq-value.it c.args.self.now.spaces c.args.space.now ≡ None = search rules in
    let nowhere : c.args.place ≡ None = search rules in
    rw (c.get_mut.follows.holds-at-none) (is_put_nowhere c.args.space.now c.args.name.now c.args.place c.args.self.now.spaces none nowhere)
