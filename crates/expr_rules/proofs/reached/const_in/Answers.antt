use Rattle.std.proofs.Common.{rules, ◌≡◌, ◌<◌, Some, None, sym}
use Rattle.std.specs.Map.{lookup}
use Rattle.std.specs.Prelude.{slice_get}
use Rattle.type_data.specs.Same.{same_tag}
use Rattle.type_rel.specs.Inside.{most_tags}
use Rattle.expr_rules.specs.Reached.{noted_info}
use Rattle.expr_rules.proofs.ReachedLemmas.{below_most, reached_ends, reached_finds, reached_turns}
use Rattle.expr_rules.proofs.reached.const_in.Goals as goal

pub returns-in_default : goal.returns-in_default
returns-in_default c =
    let none : None ≡ slice_get c.tags.reached c.tags.place = search rules in
    sym (reached_ends most_tags c.args.tags.now c.args.id.now c.tags.place c.tags.reached c.tags.invariant none)

pub returns-then-branch : goal.returns-then-branch
returns-then-branch c =
    let id = c.in-Some.next.now in
    let here : Some id ≡ slice_get c.tags.reached c.tags.place = search rules in
    let small : c.tags.place < most_tags = below_most c.tags.place c.in-Some.ensures.small in
    let found : noted_info c.tags.reached (lookup (same_tag id) c.args.tags.now) ≡ None = search rules in
    sym (reached_finds most_tags c.args.tags.now c.args.id.now c.tags.place c.tags.reached id c.tags.invariant here small found)

pub tags-preserved : goal.tags-preserved
tags-preserved c =
    let id = c.in-Some.next.now in
    let here : Some id ≡ slice_get c.tags.reached c.tags.place = search rules in
    let noted : noted_info c.tags.reached (lookup (same_tag id) c.args.tags.now) ≡ Some c.note_info.new.reached = search rules in
    reached_turns most_tags c.args.tags.now c.args.id.now c.tags.place c.tags.reached c.note_info.new.reached id c.tags.invariant here noted
