use Rattle.std.proofs.Common.{rules, ◌≡◌, true}
use Rattle.earlier_items.specs.Before.{is_other}
use Rattle.earlier_items.proofs.Tagging.{other_turns}
use Rattle.earlier_items.proofs.tags.are_other.Goals as goal

pub bindings-preserved : goal.bindings-preserved
bindings-preserved c =
    let other : is_other c.in-Some.binding.now.space ≡ true = search rules in
    λ none. c.bindings.invariant (λ q. other_turns q c.bindings.rest.now c.in-Some.behind.now c.in-Some.binding.now c.in-Some.ensures.cases.0 other (none q))
