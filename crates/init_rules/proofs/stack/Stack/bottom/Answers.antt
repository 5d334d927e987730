use Rattle.std.proofs.Common.{rules, ◌≡◌, ◌∷◌, ◌∙◌, ap}
use Rattle.init_rules.specs.Stacks as spec
use Rattle.init_rules.proofs.StackLemmas.{bottom_first}
use Rattle.init_rules.proofs.stack.Stack.bottom.Goals as goal

pub returns-in-Some : goal.returns-in-Some
returns-in-Some g c =
    let is : c.self.inside.items.items ≡ c.in-Some.value.now ∷ c.in-Some.field-0-1.now = search rules in
    bottom_first _ _ _ is ∙ ap spec.bottom c.self.view_is
