use Rattle.std.proofs.Common.{rules, ◌≡◌, None}
use Rattle.std.proofs.lemmas.List.{nil_from_length}
use Rattle.earlier_items.specs.Before.{bound, members_only}
use Rattle.earlier_items.proofs.Tagging.{head_turns, heads_end}
use Rattle.earlier_items.proofs.tags.tags_of.Goals as goal

pub heads-preserved : goal.heads-preserved
heads-preserved c = λ q.
    let none : members_only q.space (bound q c.in-Some.head.now.declared) ≡ None = search rules in
    head_turns q c.args.heads.now c.heads.rest.now c.in-Some.behind.now c.in-Some.head.now c.heads.tags.items c.add_tags.new.tags.items c.in-Some.ensures.cases.0 none
    (c.in_ok-add_tags.ensures q) (c.heads.invariant q)

pub returns : goal.returns
returns c = λ q. heads_end q c.args.heads.now c.heads.rest.now c.heads.tags.items (nil_from_length c.heads.rest.now c.in_default.ensures.cases) (c.heads.invariant q)
