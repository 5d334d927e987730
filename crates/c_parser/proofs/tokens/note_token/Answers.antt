use Rattle.std.proofs.Common.{sym, ◌∙◌, bytes_eq}
use Rattle.c_parser.specs.Noted.{number_in}
use Rattle.c_parser.specs.Words.{is_word}
use Rattle.c_parser.proofs.FirstLemmas.{passed, spelled}
use Rattle.c_parser.proofs.tokens.note_token.Goals as goal

pub returns-then-not-is_word : goal.returns-then-not-is_word
returns-then-not-is_word c t =
    passed (number_in c.args.firsts.now t) (is_word c.args.token.now.kind) (bytes_eq c.args.token.now.spelling t) (sym c.is_word.ensures ∙ c.if-not-is_word.true) c.args.number

pub returns : goal.returns
returns c t =
    c.in_ok-note.ensures t
    ∙ spelled (number_in c.args.firsts.now t) (is_word c.args.token.now.kind) (bytes_eq c.args.token.now.spelling t) (sym c.is_word.ensures ∙ c.if-not-is_word.false) c.args.number
