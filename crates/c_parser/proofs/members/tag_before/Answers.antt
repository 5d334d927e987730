use Rattle.std.proofs.Common.{ap, sym, ◌∙◌}
use Rattle.c_parser.specs.Kinds.{is_word}
use Rattle.c_parser.proofs.SpecifierLists.{tag_stands, no_tag_stands}
use Rattle.c_parser.proofs.members.tag_before.Goals as goal

pub returns-then-is_word : goal.returns-then-is_word
returns-then-is_word c =
    tag_stands _ _ (ap is_word (sym c.kind_at.ensures.kind) ∙ sym c.is_word.ensures ∙ c.if-is_word.true) c.requires.braces

pub returns : goal.returns
returns c =
    no_tag_stands _ _ (ap is_word (sym c.kind_at.ensures.kind) ∙ sym c.is_word.ensures ∙ c.if-is_word.false) c.requires.braces
