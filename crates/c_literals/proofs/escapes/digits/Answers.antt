use Rattle.std.proofs.Common.{rules, arith, ◌≡◌, ◌≤◌, ◌<◌, ℕ, ◌+◌, ◌*◌, List, [], ◌∷◌, subst, ap, ◌∙◌, inl, inr}
use Rattle.std.specs.Char.{digit_value}
use Rattle.std.specs.Str.{chars}
use Rattle.std.specs.Str.Parse.{digits_value_after}
use Rattle.std.proofs.lemmas.Bool.{cases_lt}
use Rattle.c_literals.specs.CChars
use Rattle.c_literals.specs.Units.{one_unit}
use Rattle.c_literals.specs.declared.prefix.Prefix.{Prefix}
use Rattle.c_literals.proofs.CCharLemmas.{Reading, digits_end, read_count, read_number, read_behind, reading_turns}
use Rattle.c_literals.proofs.escapes.digits.Goals as goal

no_digit : (a b : ℕ) → (a < b → ⊥) → b ≤ a
no_digit a b h = elim (cases_lt a b) [ inl low ↦ absurd (h low) | inr high ↦ high ]

none : (base left c : ℕ) (cs all : List ℕ) → all ≡ c ∷ cs → (digit_value c < base → ⊥) → CChars.digits base left all ≡ []
none base left c cs all e h = ap (λ xs. CChars.digits base left xs) e ∙ digits_end base left c cs (no_digit (digit_value c) base h)

pub returns-in_default-to_digit-clause-count : goal.returns-in_default-to_digit-clause-count
returns-in_default-to_digit-clause-count c = read_count c.loop-left.invariant.1 (none _ _ _ _ _ c.in-Some.ensures.points c.in_default-to_digit.ensures.value)

pub returns-in_default-to_digit-clause-value : goal.returns-in_default-to_digit-clause-value
returns-in_default-to_digit-clause-value c = read_number c.loop-left.invariant.1 (none _ _ _ _ _ c.in-Some.ensures.points c.in_default-to_digit.ensures.value)

pub returns-in_default-to_digit-clause-behind : goal.returns-in_default-to_digit-clause-behind
returns-in_default-to_digit-clause-behind c = read_behind c.loop-left.invariant.1 (none _ _ _ _ _ c.in-Some.ensures.points c.in_default-to_digit.ensures.value)

pub loop-left-preserved : goal.loop-left-preserved
loop-left-preserved c =
    let some : 0 < c.loop-left.left = omega arith in
    let base : 1 ≤ c.args.base = omega arith in
    let digit : digit_value c.in-Some.c < c.args.base = c.in-Some-to_digit.ensures.value.0 in
    let is : c.in-Some-to_digit.digit ≡ digit_value c.in-Some.c = c.in-Some-to_digit.ensures.value.1 in
    let was : Reading c.args.base c.args.most c.loop-left.left c.loop-left.value (chars c.args.text.now) (c.in-Some.c ∷ chars c.in-Some.behind.now) =
    subst (λ xs. Reading c.args.base c.args.most c.loop-left.left c.loop-left.value (chars c.args.text.now) xs) c.in-Some.ensures.points c.loop-left.invariant.1 in
    let alike : (p : Prefix) (b : ℕ) (ds : List ℕ) → 1 ≤ b → one_unit p (digits_value_after b c.capped-value.result ds) ≡ one_unit p (digits_value_after b (c.loop-left.value * c.args.base + digit_value c.in-Some.c) ds) =
    λ p b ds h. c.capped-value.ensures.same p b ds h ∙ ap (λ d. one_unit p (digits_value_after b (c.loop-left.value * c.args.base + d) ds)) is in
    (search rules, reading_turns _ _ _ _ _ _ _ _ base some digit c.capped-value.ensures.bounded alike was, omega (arith, c.in-Some.ensures.shorter, c.loop-left.invariant.2))
