use Rattle.std.proofs.Common.{arith, sym, ◌∙◌}
use Rattle.c_tokens.proofs.AloneLemmas.{alone}
use Rattle.c_tokens.proofs.logical.stands_alone.Goals as goal

pub returns : goal.returns
returns c = λ _. alone c.args.text.now c.args.at (omega (arith, c.if-text-at-lt2.false)) c.if-byte-eq92.false c.if-byte-eq63.false (sym c.continues.ensures ∙ c.if-continues.false)
