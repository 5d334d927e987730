use Rattle.lsp_framing.proofs.Bounds.{contents_short}
use Rattle.lsp_framing.proofs.facts.contents_short.Goals as goal

pub returns : goal.returns
returns c = contents_short
