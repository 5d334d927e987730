use Rattle.std.proofs.Common.{ap, ◌∙◌}
use Rattle.include_units.specs.Fronts.{parts_after}
use Rattle.include_units.specs.Texts.{parts_from}
use Rattle.include_units.proofs.Moving.{part_taken}
use Rattle.include_units.proofs.reading.take_part.Goals as goal

pub returns-in_ok-show_first-in-Some : goal.returns-in_ok-show_first-in-Some
returns-in_ok-show_first-in-Some c = λ folders.
    part_taken folders c.args.place.now c.args.rest.now c.take_part.new.self c.args.opens.now c.in-Some.part c.args.made.now c.show_first.new.made
    (c.in_ok-part.ensures ∙ ap (λ o. parts_after o (parts_from c.args.place.now.text.name c.take_part.new.self.at c.take_part.new.self.tokens)) c.in-Some.is)
    c.in_ok-show_first-in-Some.ensures
