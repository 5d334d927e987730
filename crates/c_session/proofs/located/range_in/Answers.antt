use Rattle.std.proofs.Common.{subst, sym}
use Rattle.plain_mean.specs.Lexing.{IsLexed}
use Rattle.c_session.proofs.located.range_in.Goals as goal

pub range_of-requires : goal.range_of-requires
range_of-requires c = record {
  lexed = subst (λ t. IsLexed t c.in_ok-lexed.lexed) (sym c.text_in.ensures.text) c.in_ok-lexed.ensures;
  short = c.text_in.ensures.short;
}
