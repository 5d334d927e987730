use Rattle.std.proofs.Common.{ap, sym, ◌∙◌, true≢false}
use Rattle.c_parser.specs.Kinds.{is_word, is_brace}
use Rattle.c_parser.proofs.SpecifierLists.{tag_found, untagged}
use Rattle.c_parser.proofs.Words.{brace_is}
use Rattle.c_parser.proofs.type_names.tagged.Goals as goal

pub returns-then-not-is_word : goal.returns-then-not-is_word
returns-then-not-is_word c =
    untagged
    _
    _
    _
    c.requires.kind
    c.requires.bare
    (λ w n. true≢false (sym w ∙ ap is_word (sym c.kind_at.ensures.kind) ∙ sym c.is_word.ensures ∙ c.if-not-is_word.true))

pub returns-then-is_brace : goal.returns-then-is_brace
returns-then-is_brace c =
    untagged
    _
    _
    _
    c.requires.kind
    c.requires.bare
    (λ w n. n (brace_is _ (ap is_brace (sym c.kind_at-2.ensures.kind) ∙ sym c.is_brace.ensures ∙ c.if-is_brace.true)))

pub returns : goal.returns
returns c =
    tag_found
    _
    _
    _
    _
    c.tag.ensures
    c.requires.kind
    (ap is_word (sym c.kind_at.ensures.kind) ∙ sym c.is_word.ensures ∙ c.if-not-is_word.false)
    (ap is_brace (sym c.kind_at-2.ensures.kind) ∙ sym c.is_brace.ensures ∙ c.if-is_brace.false)
