use Rattle.std.proofs.Common.{sym, ◌∙◌}
use Rattle.rename_core.proofs.CompareLemmas.{became_name, became_same}
use Rattle.rename_core.proofs.comparing.became_named.Goals as goal

pub returns-then-names : goal.returns-then-names
returns-then-names c = c.names-then-names.ensures ∙ became_name c.args.old.now c.args.new.now c.args.before.now c.args.after.now (sym c.names.ensures ∙ c.if-names.true)

pub returns : goal.returns
returns c = c.same_anchor.ensures ∙ became_same c.args.old.now c.args.new.now c.args.before.now c.args.after.now (sym c.names.ensures ∙ c.if-names.false)
