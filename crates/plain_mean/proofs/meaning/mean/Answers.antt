use Rattle.std.proofs.Common.{ap, ◌∙◌}
use Rattle.asking.specs.LookUps.{asked}
use Rattle.include_units.specs.Units.{unit_tokens}
use Rattle.plain_mean.specs.Given.{given}
use Rattle.plain_mean.specs.Renewed.{questions}
use Rattle.plain_mean.proofs.OneUnit.{means}
use Rattle.plain_mean.proofs.meaning.mean.Goals as goal

pub returns-clause-meaning : goal.returns-clause-meaning
returns-clause-meaning g c =
    means c.args.lexings.now c.args.reading.now c.args.unit.now c.in_ok-conf.ensures.conf c.in_ok-tokens.ensures.same c.in_ok-tokens.ensures.tokens c.in_ok-tokens.ensures.asked
    c.in_ok-marks.ensures.marks c.in_ok-meaning.ensures

pub returns-clause-grounds : goal.returns-clause-grounds
unfolding questions
returns-clause-grounds g c = record {
  conf = c.in_ok-conf.ensures.conf;
  asked = c.in_ok-tokens.ensures.asked ∙ ap (λ conf. asked (given c.args.lexings.now) (unit_tokens conf)) c.in_ok-conf.ensures.conf;
}
