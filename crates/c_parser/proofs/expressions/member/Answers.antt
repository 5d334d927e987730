use Rattle.std.proofs.Common.{ap, sym, ◌∙◌}
use Rattle.c_parser.specs.Kinds.{is_word}
use Rattle.c_parser.proofs.Parsing.{member_unnamed}
use Rattle.c_parser.proofs.SameParts.{member_only, any_stop}
use Rattle.c_parser.proofs.expressions.member.Goals as goal

pub returns-then-not-is_word-clause-only : goal.returns-then-not-is_word-clause-only
returns-then-not-is_word-clause-only c =
    member_unnamed
    _
    _
    c.requires.kind
    (ap is_word (sym c.kind_at.ensures.kind) ∙ sym c.is_word.ensures ∙ c.if-not-is_word.true)

pub returns-clause-only : goal.returns-clause-only
returns-clause-only c x end h =
    let same = member_only _ _ c.requires.kind x end h (any_stop _ end) in
    (c.member.ensures ∙ same.0, same.1)
