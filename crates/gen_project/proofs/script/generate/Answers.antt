use Rattle.std.proofs.Common.{map, string_bytes, ap}
use Rattle.gen_project.proofs.Loops.{joined, counted}
use Rattle.gen_project.proofs.script.generate.Goals as goal

pub returns-clause-contents : goal.returns-clause-contents
returns-clause-contents c = joined c.args.number (map string_bytes c.new-contents.result.items) (map string_bytes c.begin.new.contents.items) (map string_bytes c.open_header.new.contents.items)
    (map string_bytes c.open_units.new.contents.items) (map string_bytes c.change_units.new.contents.items) (map string_bytes c.end.new.contents.items)
    (ap (map string_bytes) c.new-contents.ensures.items) c.in_ok-begin.ensures c.in_ok-open_header.ensures c.in_ok-open_units.ensures c.in_ok-change_units.ensures c.in_ok-end.ensures

pub returns-clause-count : goal.returns-clause-count
returns-clause-count c = counted string_bytes c.end.new.contents.items c.args.number (returns-clause-contents c)
