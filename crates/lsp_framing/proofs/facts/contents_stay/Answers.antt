use Rattle.lsp_framing.proofs.Laws.{contents_stay}
use Rattle.lsp_framing.proofs.facts.contents_stay.Goals as goal

pub returns : goal.returns
returns c = contents_stay
