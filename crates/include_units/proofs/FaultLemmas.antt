-- Faults of open literals, found by their tokens.
use Rattle.std.proofs.Common.{◌≡◌, rules, refl, sym, ap, ◌∙◌, ℕ, ◌==◌, ◌&&◌, ◌||◌, List, [], ◌∷◌, ◌++◌, Bool, true, false, cond}
use Rattle.std.specs.Bool.{Decides}
use Rattle.tok_data.specs.declared.sources.TokId.{TokId}
use Rattle.tok_data.specs.declared.faults.PpFault.{PpFault}
use Rattle.tok_data.specs.contracts.sources.TokIdPartialEq.TheImpl as toks
use Rattle.include_units.specs.Shown.{is_at, is_shown}

tok_decides : (a b : TokId) → Decides (toks.eq-value.it a b) (a ≡ b)
tok_decides a b = search rules

at_decides : (a b : TokId) → Decides (is_at a b) (a ≡ b)
at_decides a b = search rules

same_tests : (x y : Bool) (P : Type 0) → Decides x P → Decides y P → x ≡ y
same_tests true true P d e = refl
same_tests false false P d e = refl
same_tests true false P d e = sym (e.1 (d.0 refl))
same_tests false true P d e = d.1 (e.0 refl)

pub tok_at : (a b : TokId) → toks.eq-value.it a b ≡ is_at a b
tok_at a b = same_tests (toks.eq-value.it a b) (is_at a b) (a ≡ b) (tok_decides a b) (at_decides a b)

or_false : (b : Bool) → b ≡ b || false
or_false true = refl
or_false false = refl

then_true : (b x : Bool) → cond b true x ≡ x || b
then_true true true = refl
then_true true false = refl
then_true false true = refl
then_true false false = refl

-- no open literal
pub not_noted : (rule : ℕ) (at before : Bool) → (rule == 102) ≡ false → before ≡ before || (rule == 102 && at)
not_noted rule at before e = or_false before ∙ ap (λ b. before || (b && at)) (sym e)

pub noted : (rule : ℕ) (key tok other : TokId) (before after : Bool) → (rule == 102) ≡ true → key ≡ other → after ≡ cond (toks.eq-value.it key tok) true before →
    after ≡ before || (rule == 102 && is_at other tok)
noted rule key tok other before after e k h =
    h ∙ ap (λ b. cond b true before) (tok_at key tok ∙ ap (λ o. is_at o tok) k) ∙ then_true (is_at other tok) before
    ∙ ap (λ b. before || (b && is_at other tok)) (sym e)

pub shown_more : (faults : List PpFault) (fault : PpFault) (tok : TokId) (before after : Bool) → before ≡ is_shown 102 tok faults →
    after ≡ before || (fault.rule == 102 && is_at fault.tok tok) → after ≡ is_shown 102 tok (faults ++ fault ∷ [])
shown_more faults fault tok before after e h = h ∙ ap (λ b. b || (fault.rule == 102 && is_at fault.tok tok)) e ∙ joined faults
  where
    joined : (fs : List PpFault) → is_shown 102 tok fs || (fault.rule == 102 && is_at fault.tok tok) ≡ is_shown 102 tok (fs ++ fault ∷ [])
    joined [] = or_false (fault.rule == 102 && is_at fault.tok tok)
    joined (f ∷ fs) = sym (grouped (f.rule == 102 && is_at f.tok tok) (is_shown 102 tok fs) (fault.rule == 102 && is_at fault.tok tok)) ∙ ap (λ b. (f.rule == 102 && is_at f.tok tok) || b) (joined fs)
      where
        grouped : (a b c : Bool) → a || (b || c) ≡ (a || b) || c
        grouped true b c = refl
        grouped false b c = refl
