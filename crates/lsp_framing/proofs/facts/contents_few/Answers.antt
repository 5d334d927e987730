use Rattle.lsp_framing.proofs.Sizes.{contents_few}
use Rattle.lsp_framing.proofs.facts.contents_few.Goals as goal

pub returns : goal.returns
returns c = contents_few
