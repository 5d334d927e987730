use Rattle.std.proofs.Common.{sym, ◌∙◌}
use Rattle.include_units.proofs.RoomLemmas.{cut_comes}
use Rattle.include_units.proofs.runs.run_of.Goals as goal

pub returns-in_ok-put_output-in-Ok-clause-run : goal.returns-in_ok-put_output-in-Ok-clause-run
returns-in_ok-put_output-in-Ok-clause-run c =
    cut_comes c.args.files.now c.args.text.now c.args.tokens.now c.args.made.now c.with_expansion.new.made c.put_output.new.made c.wanted-room.result c.in-Ok.within c.in_ok-output-in-Ok.output
    c.wanted-room.ensures c.in-Ok.ensures (sym c.hides_pragma.ensures ∙ c.if-hides_pragma.false) c.in_ok-output-in-Ok.ensures.tokens c.in_ok-output-in-Ok.ensures.made c.in_ok-put_output-in-Ok.ensures
