use Rattle.lsp_framing.proofs.Sizes.{open_in_front}
use Rattle.lsp_framing.proofs.facts.open_in_front.Goals as goal

pub returns : goal.returns
returns c = open_in_front
