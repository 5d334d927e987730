use Rattle.std.proofs.Common.{ap, sym, ◌∙◌, is_some}
use Rattle.macro_table.proofs.TableLemmas.{get_seen, seen_remove}
use Rattle.macro_table.proofs.table.MacroTable.undef.Goals as goal

pub returns-clause-removed : goal.returns-clause-removed
returns-clause-removed c = c.is_some.ensures ∙ ap is_some (c.remove.ensures.value ∙ rw (← c.self.view_is) (sym (get_seen c.args.name.now c.self.inside.macros.entries)))

pub returns-clause-table : goal.returns-clause-table
returns-clause-table c = rw (← c.self.view_is) (seen_remove c.args.name.now c.self.inside.macros c.remove.new.self c.remove.ensures.updates)
