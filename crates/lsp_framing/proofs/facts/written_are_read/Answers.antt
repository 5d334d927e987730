use Rattle.lsp_framing.proofs.Written.{written_are_read}
use Rattle.lsp_framing.proofs.facts.written_are_read.Goals as goal

pub returns : goal.returns
returns c = written_are_read
