use Rattle.std.proofs.Common.{refl, ap, sym, ◌∙◌, ◌≡◌, map, subst, List}
use Rattle.std.specs.Prelude.{IfOk}
use Rattle.scope_tables.specs.declared.entities.Entity.{Entity}
use Rattle.meaning_lists.specs.Entities.{last_entities}
use Rattle.meaning_lists.specs.Firsts.{placed_entity}
use Rattle.meaning_lists.specs.Found.{entities_in_order}
use Rattle.meaning_lists.specs.Order.{ascends_from, by_place}
use Rattle.meaning_lists.proofs.InOrder.{stays}
use Rattle.meaning_lists.proofs.found.entities_in_order.Goals as goal

pub returns-then-entities_ascend : goal.returns-then-entities_ascend
unfolding entities_in_order
returns-then-entities_ascend c =
    subst (λ (es : List Entity). IfOk c.from_vec.result (λ l. l ≡ es))
    (stays (placed_entity c.args.firsts.now) (λ e. refl) c.in_ok-last.last.items
    (ap (λ es. ascends_from 0 (map (placed_entity c.args.firsts.now) es)) (sym c.as_slice.ensures.value) ∙ sym c.entities_ascend.ensures ∙ c.if-entities_ascend.true)
    ∙ ap (λ es. by_place (map (placed_entity c.args.firsts.now) es)) (c.in_ok-last.ensures ∙ ap last_entities c.into_vec.ensures))
    c.from_vec.ensures
