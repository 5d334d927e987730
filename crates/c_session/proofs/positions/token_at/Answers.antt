use Rattle.std.proofs.Common.{subst, sym}
use Rattle.plain_mean.specs.Lexing.{IsLexed}
use Rattle.c_session.proofs.positions.token_at.Goals as goal

pub denoted-requires : goal.denoted-requires
denoted-requires c = record {
  lexed = subst (λ t. IsLexed t c.in_ok-lexed.lexed) (sym c.text_in.ensures.text) c.in_ok-lexed.ensures;
  short = c.text_in.ensures.short;
}
