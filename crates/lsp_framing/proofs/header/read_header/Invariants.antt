use Rattle.std.proofs.Common.{take}
use Rattle.lsp_framing.specs.Known.{Reads}
use Rattle.lsp_framing.proofs.header.read_header.Given as goal

abbrev pub invariant-loop-at : goal.invariant-loop-at
invariant-loop-at l = Reads (take l.at l.window) l.line l.stated
