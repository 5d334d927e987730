use Rattle.std.proofs.Common.{sym, ◌∙◌}
use Rattle.macro_table.proofs.TableLemmas.{get_seen}
use Rattle.macro_table.proofs.table.MacroTable.get.Goals as goal

pub returns : goal.returns
returns c = c.get.ensures.value ∙ rw (← c.self.view_is) (sym (get_seen c.args.name.now c.self.inside.macros.entries))
