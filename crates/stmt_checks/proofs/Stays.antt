-- What is found out of an item with the same tokens.
use Rattle.std.proofs.Common.{◌≡◌, subst, true, false, Bool, Option, Some, Result, Ok, Err, IfOk, List}
use Rattle.earlier_items.specs.Differences.{Asks, has_question}
use Rattle.earlier_items.specs.declared.differences.Changed.{Changed}
use Rattle.elab_state.specs.Tokens.{bare_tokens}
use Rattle.elab_state.specs.declared.wants.Wanted.{Wanted}
use Rattle.item_cut.specs.Items.{body_at}
use Rattle.scope_tables.specs.declared.meanings.HeadMeaning.{HeadMeaning}
use Rattle.tok_data.specs.declared.tokens.OutToken.{OutToken}
use Rattle.stmt_checks.specs.Firm.{tokens_of}
use Rattle.stmt_checks.specs.Folds.{body_tokens, is_checked}
use Rattle.stmt_checks.specs.Taking.{BodyStays}
use Rattle.stmt_checks.specs.declared.parts.BodyPart.{BodyPart}

pub body_stays : {E : Type 0} (ts body : List OutToken) (h : HeadMeaning) (changed : Changed) (found : Option BodyPart) (p : BodyPart) (r : Result Bool E) → found ≡ Some p → is_checked ts h ≡ true →
    body ≡ body_tokens ts → bare_tokens body ≡ tokens_of p.words.items → p.base ≡ body_at ts →
    IfOk r (λ left. left ≡ true → (q : Wanted) → Asks (bare_tokens body) q → has_question changed q ≡ false) → IfOk r (λ left. left ≡ true → BodyStays ts h changed found)
body_stays ts body h changed found p (Ok b) is checked tokens alike base left = λ e. record {
  p = p;
  is = is;
  checked = checked;
  same = record {
    alike = subst (λ us. bare_tokens us ≡ tokens_of p.words.items) tokens alike;
    base = base;
    left = subst (λ us. (q : Wanted) → Asks (bare_tokens us) q → has_question changed q ≡ false) tokens (left e);
  };
}
body_stays ts body h changed found p (Err x) is checked tokens alike base left = left
