use Rattle.lsp_framing.proofs.Sizes.{fault_in_front}
use Rattle.lsp_framing.proofs.facts.fault_in_front.Goals as goal

pub returns : goal.returns
returns c = fault_in_front
