use Rattle.std.proofs.Common.{◌≡◌, ◌∷◌, ◌∙◌}
use Rattle.earlier_items.proofs.Tagging.{next_place, tag_turns}
use Rattle.earlier_items.proofs.tags.add_tags.Goals as goal

pub add_tag-requires : goal.add_tag-requires
add_tag-requires c = c.entities.invariant.place ∙ c.in-Some.ensures.cases.0

pub entities-preserved : goal.entities-preserved
entities-preserved c =
    let is : c.entities.rest.now ≡ c.in-Some.entity.now ∷ c.in-Some.behind.now = c.in-Some.ensures.cases.0 in
    record {
      place = next_place c.args.entities.now c.in-Some.entity.now c.entities.rest.now c.in-Some.behind.now c.entities.at c.entities.invariant.place is;
      tags = λ q. tag_turns q c.entities.rest.now c.in-Some.behind.now c.entities.tags.items c.add_tag.new.tags.items c.in-Some.entity.now _ is (c.in_ok-add_tag.ensures q) (c.entities.invariant.tags q);
    }
