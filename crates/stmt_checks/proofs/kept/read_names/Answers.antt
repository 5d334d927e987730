use Rattle.std.proofs.Common.{inl}
use Rattle.stmt_checks.proofs.Noting.{new_says_nothing, none_before, nothing_read}
use Rattle.stmt_checks.proofs.kept.read_names.Goals as goal

pub returns-then-alone-clause-read : goal.returns-then-alone-clause-read
returns-then-alone-clause-read c = λ hs are.
    nothing_read c.args.was.now c.new-names.result c.none-changed.result hs (c.requires.nothing c.if-alone.true) (new_says_nothing c.new-names.result c.new-names.ensures)
    (none_before c.args.earlier.now hs (c.requires.alone c.if-alone.true) are) c.args.tokens.now c.args.items.now

pub returns-then-alone-clause-nothing : goal.returns-then-alone-clause-nothing
returns-then-alone-clause-nothing c = λ alone. new_says_nothing c.new-names.result c.new-names.ensures

pub note_items-requires-clause-noted : goal.note_items-requires-clause-noted
note_items-requires-clause-noted c = λ q. inl (new_says_nothing c.new-names.result c.new-names.ensures q)
