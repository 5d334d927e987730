use Rattle.std.proofs.Common.{◌++◌, ap, ◌∙◌}
use Rattle.plain_mean.specs.Messages.{front_of, round}
use Rattle.plain_mean.proofs.messages.message.Goals as goal

pub returns-in_ok-name-in-Some : goal.returns-in_ok-name-in-Some
returns-in_ok-name-in-Some c =
    c.in_ok-name-in-Some.ensures ∙ c.as_str.ensures.value ∙ c.in_ok-whole-in-Some.ensures.ok
    ∙ (λ i. c.front_of-front.ensures i ++ (c.args.text.now ++ c.in-Some.behind.now)) ∙ ap (round (front_of c.args.rule) c.args.text.now) c.in-Some.ensures
