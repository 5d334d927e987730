use Rattle.rename_core.proofs.ConfirmLemmas.{confirmed_edits, confirmed_keeps, confirmed_name}
use Rattle.rename_core.proofs.laws.confirmed_renames_keep.Goals as goal

pub returns-clause-kept : goal.returns-clause-kept
returns-clause-kept c = λ p before after edits is. confirmed_keeps p before after edits is

pub returns-clause-edits : goal.returns-clause-edits
returns-clause-edits c = λ p before after edits is. confirmed_edits p before after edits is

pub returns-clause-name : goal.returns-clause-name
returns-clause-name c = λ p before after edits is. confirmed_name p before after edits is
