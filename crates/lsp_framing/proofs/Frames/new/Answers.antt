use Rattle.lsp_framing.proofs.Follow.{follows_nil}
use Rattle.lsp_framing.proofs.Frames.new.Goals as goal

pub returns : goal.returns
returns c = follows_nil _ c.new.ensures.items
