use Rattle.lsp_framing.proofs.Sizes.{frame_in_front}
use Rattle.lsp_framing.proofs.facts.frame_in_front.Goals as goal

pub returns : goal.returns
returns c = frame_in_front
