use Rattle.lsp_framing.proofs.Bounds.{bad_within}
use Rattle.lsp_framing.proofs.facts.bad_within.Goals as goal

pub returns : goal.returns
returns c = bad_within
