use Rattle.text_lines.proofs.walk.Walk.new.Goals as goal

pub invariant_of-result : goal.invariant_of-result
invariant_of-result c = c.front.ensures.place c.args.encoding
