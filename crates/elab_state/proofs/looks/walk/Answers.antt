use Rattle.std.proofs.Common.{rules, ◌≡◌, sym, ◌∙◌, ◌+◌, ◌-◌, ◌<◌, ◌^◌, Some, None}
use Rattle.std.specs.Map.{lookup}
use Rattle.std.specs.Prelude.{slice_get}
use Rattle.asking.specs.LookUps.{Ends, run_by}
use Rattle.type_data.specs.Same.{same_tag}
use Rattle.type_rel.specs.Inside.{most_tags}
use Rattle.elab_state.specs.Comes.{Stops}
use Rattle.elab_state.specs.Looks.{reached_info, told, walk_from, walked}
use Rattle.elab_state.specs.Seen.{told_of}
use Rattle.elab_state.specs.Ties.{leads}
use Rattle.elab_state.specs.Wants.{answered}
use Rattle.elab_state.proofs.Runs.{stops_as}
use Rattle.elab_state.proofs.Walks.{one_more, walk_ends, walk_stops, walk_turns}
use Rattle.elab_state.proofs.looks.walk.Goals as goal

pub returns-in_default-found : goal.returns-in_default-found
returns-in_default-found c =
    let none : slice_get c.tags.reached c.tags.place ≡ None = search rules in
    sym c.tags.invariant
    ∙ walk_ends (answered (told_of c.args.around.now)) (leads c.args.through) c.args.around.now.item.now (most_tags - c.tags.place) c.tags.reached c.tags.place c.tags.made none

pub returns-in-Err : goal.returns-in-Err
returns-in-Err c =
    let look = answered (told_of c.args.around.now) in
    let item = c.args.around.now.item.now in
    let way = leads c.args.through in
    let place = c.tags.place in
    let id = c.in-Some.next in
    let here : slice_get c.tags.reached place ≡ Some id = search rules in
    let small : place < 2 ^ 63 = search rules in
    let off : Stops (run_by look (told item id c.tags.made)) c.in-Err.halt = search rules in
    stops_as (run_by look (walk_from way item c.args.id.now c.args.made.now)) (run_by look (walked (most_tags - place) way item c.tags.reached place c.tags.made)) c.in-Err.halt
    (sym c.tags.invariant)
    (walk_stops look way item (most_tags - place) (most_tags - (place + 1)) c.tags.reached place c.tags.made id c.in-Err.halt (one_more place small) here off)

pub tags-preserved : goal.tags-preserved
tags-preserved c =
    let look = answered (told_of c.args.around.now) in
    let item = c.args.around.now.item.now in
    let way = leads c.args.through in
    let place = c.tags.place in
    let id = c.in-Some.next in
    let here : slice_get c.tags.reached place ≡ Some id = search rules in
    let small : place < 2 ^ 63 = search rules in
    let passed : (run_by look (told item id c.tags.made) ≡ Ends c.pass.new.made) × (c.pass.new.reached ≡ reached_info way c.tags.reached (lookup (same_tag id) c.pass.new.made.tags)) = search rules in
    sym (walk_turns look way item (most_tags - place) (most_tags - (place + 1)) c.tags.reached c.pass.new.reached place c.tags.made c.pass.new.made id (one_more place small) here passed.0 passed.1)
    ∙ c.tags.invariant
