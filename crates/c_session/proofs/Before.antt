-- The texts before a message, by what is remembered of them.
use Rattle.std.proofs.Common.{◌≡◌, ℕ, List, [], Option, None, Some, unwrap_or, refl, sym, subst}
use Rattle.std.specs.FinMap.{get}
use Rattle.doc_texts.specs.Texts.{Texts, text_at}
use Rattle.doc_texts.specs.Prior.{Prior, text_before}
use Rattle.plain_mean.specs.Lexing as lexing
use Rattle.plain_mean.specs.Lexing.{IsLexed, WereLexed}
use Rattle.plain_mean.specs.declared.lexings.KeptLexings.{KeptLexings}
use Rattle.c_session.specs.Ties.News.{IsPrior}

module _ (t now : Texts) (prior : Prior) (is : IsPrior t prior now) where
  before_by : (path : List ℕ) (kept : Option (Option (List ℕ))) → get prior path ≡ kept → unwrap_or kept (text_at now path) ≡ text_at t path
  before_by path None found = is.rest path found
  before_by path (Some text) found = is.held path text found

  -- the text that a path had is told by what is remembered
  pub text_before_is : (path : List ℕ) → text_before prior now path ≡ text_at t path
  unfolding text_before
  text_before_is path = before_by path (get prior path) refl

  pub were_lexed : (kept : KeptLexings) → lexing.HasLexed t kept → WereLexed prior now kept
  were_lexed kept lexed path l found = subst (λ o. IsLexed (unwrap_or o []) l) (sym (text_before_is path)) (lexed path l found)
