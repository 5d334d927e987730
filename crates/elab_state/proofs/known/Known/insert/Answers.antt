use Rattle.std.proofs.Common.{ap, ◌∙◌}
use Rattle.indexmap.specs.IndexMap.{insert_entry}
use Rattle.elab_state.specs.Same.{same_wanted}
use Rattle.elab_state.specs.Wants.{Told}
use Rattle.elab_state.proofs.known.Known.insert.Goals as goal

pub returns-clause-entries : goal.returns-clause-entries
returns-clause-entries c = c.in_ok-insert.ensures.entries ∙ ap (λ (t : Told). insert_entry same_wanted t.entries c.args.wanted c.args.answer) c.self.view_is
