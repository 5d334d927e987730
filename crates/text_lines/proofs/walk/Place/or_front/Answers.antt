use Rattle.text_lines.proofs.walk.Place.or_front.Goals as goal

pub returns-then-offset-self-clause-place : goal.returns-then-offset-self-clause-place
returns-then-offset-self-clause-place c enc reached = c.front.ensures.place enc
