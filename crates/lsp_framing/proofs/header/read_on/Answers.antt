use Rattle.std.proofs.Common.{sym, subst}
use Rattle.lsp_framing.specs.Known.{Known}
use Rattle.lsp_framing.specs.declared.header.State.{State}
use Rattle.lsp_framing.proofs.Windows.{known_short, known_long}
use Rattle.lsp_framing.proofs.header.read_on.Goals as goal

pub returns-then-standing-lt-LONGEST_HEADER-clause-known : goal.returns-then-standing-lt-LONGEST_HEADER-clause-known
returns-then-standing-lt-LONGEST_HEADER-clause-known c =
    known_short c.args.standing.now c.read_header.result c.if-standing-lt-LONGEST_HEADER.true c.read_header.ensures

pub returns-clause-known : goal.returns-clause-known
returns-clause-known c =
    let P : State → Type 0 = λ s. Known s c.args.standing.now in
    subst P (sym c.or_long.ensures)
    (known_long c.args.standing.now c.read_header-2.result c.if-standing-lt-LONGEST_HEADER.false
    (rw (← c.split_at.ensures.front) c.read_header-2.ensures))
