use Rattle.lsp_framing.proofs.Laws.{frames_nil}
use Rattle.lsp_framing.proofs.facts.frames_nil.Goals as goal

pub returns : goal.returns
returns c = frames_nil
