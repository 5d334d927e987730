-- What words ask for, by the options that were read of them.
use Rattle.std.proofs.Common.{◌≡◌, ℕ, true, false, List, Option, None, Some, is_none, is_some, option_and_then, unwrap_or, T, refl, sym, ap, ◌∙◌, subst, true≢false}
use Rattle.std.specs.Option.{option_map_or}
use Rattle.project_conf.specs.Options.{no_options}
use Rattle.project_conf.specs.Words.{are_grammatical, options_in, options_of, serves}
use Rattle.project_conf.specs.declared.options.Options.{Options}
use Rattle.c11ls.specs.Generated.{EndsRun, run_asked}
use Rattle.c11ls.specs.declared.status.Status.{Status}
use Rattle.c11ls.specs.declared.status.Status.TheVariants as status

asked_by : (o : Option Options) (options : Options) → is_some o ≡ true → options ≡ unwrap_or o no_options → option_and_then (λ p. p.generate) o ≡ options.generate
asked_by None options h e = absurd (true≢false (sym h))
asked_by (Some o) options h e = ap (λ (p : Options). p.generate) (sym e)

asked_is : (words : List (List ℕ)) (options : Options) → are_grammatical words ≡ true → options ≡ options_of words → run_asked words ≡ options.generate
asked_is words options h e = asked_by (options_in words) options h e

serves_by : (o : Option Options) (options : Options) → is_some o ≡ true → options ≡ unwrap_or o no_options → option_map_or (λ p. is_none p.generate) o false ≡ is_none options.generate
serves_by None options h e = absurd (true≢false (sym h))
serves_by (Some o) options h e = ap (λ (p : Options). is_none p.generate) (sym e)

none_asked : (o : Option Options) → is_some o ≡ false → option_and_then (λ p. p.generate) o ≡ None
none_asked None h = refl
none_asked (Some o) h = absurd (true≢false h)

none_some : {A : Type 0} (x : A) → None ≡ Some x → ⊥
none_some x is = subst (λ o. T (is_none o)) is tt

some_is : {A : Type 0} (x y : A) → Some x ≡ Some y → x ≡ y
some_is x y same = cc

-- words that aren't in the grammar ask for no run
pub asks_none : (words : List (List ℕ)) (n : ℕ) → are_grammatical words ≡ false → run_asked words ≡ Some n → ⊥
asks_none words n h asked = none_some n (sym (none_asked (options_in words) h) ∙ asked)

-- nor do those of a client that is served
pub asks_not : (words : List (List ℕ)) (options : Options) (n : ℕ) → are_grammatical words ≡ true → options ≡ options_of words → options.generate ≡ None → run_asked words ≡ Some n → ⊥
asks_not words options n h e none asked = none_some n (sym none ∙ sym (asked_is words options h e) ∙ asked)

-- words that ask for a run ask for the one that was read
pub asks_run : (words : List (List ℕ)) (options : Options) (number n : ℕ) (P : Options → ℕ → Type 0) → are_grammatical words ≡ true → options ≡ options_of words →
    options.generate ≡ Some number → run_asked words ≡ Some n → P options number → P (options_of words) n
asks_run words options number n P h e read asked holds =
    subst (λ o. P o n) e (subst (P options) (some_is number n (sym read ∙ sym (asked_is words options h e) ∙ asked)) holds)

-- and are no client's
pub serves_none : (words : List (List ℕ)) (options : Options) (number : ℕ) → are_grammatical words ≡ true → options ≡ options_of words → options.generate ≡ Some number →
    serves words ≡ true → ⊥
serves_none words options number h e read serves = true≢false (sym serves ∙ serves_by (options_in words) options h e ∙ ap is_none read)

-- a run never ends with Usage
pub ends_no_usage : (ended : Status) → EndsRun ended → ended ≡ status.Usage → ⊥
ends_no_usage ended ends is = subst EndsRun is ends
