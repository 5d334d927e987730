use Rattle.lsp_framing.proofs.Laws.{bad_stays}
use Rattle.lsp_framing.proofs.facts.bad_stays.Goals as goal

pub returns : goal.returns
returns c = bad_stays
