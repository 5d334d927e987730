-- The cases of a switch, one after another.
use Rattle.std.proofs.Common.{◌≡◌, ◌<ℤ◌, ℤ, Bool, true, false, ◌||◌, List, [], ◌∷◌, Option, Some, None, refl, sym, ap, subst, ◌∙◌}
use Rattle.std.specs.BTreeSet.{insert_key}
use Rattle.std.specs.Cmp.{int_ranks}
use Rattle.std.specs.List.{list_any}
use Rattle.std.specs.Ordering.{MatchOrdering, int_cmp, int_eq, match_ordering}
use Rattle.std.specs.declared.cmp.Ordering.{Ordering}
use Rattle.std.specs.declared.cmp.Ordering.TheVariants.{Less, Equal, Greater}
use Rattle.type_data.specs.declared.values.Value.{Value}
use Rattle.type_rel.specs.Kinds.{integer_type}
use Rattle.stmt_rules.specs.Apart.{AreApart, after_cases, same, same_number}
use Rattle.stmt_rules.specs.Cases.{Cases}
use Rattle.stmt_rules.specs.Switches.{case_fault, compared, has, noted, promoted_type, repeated, with_value}

or_assoc : (a b c : Bool) → (a || b) || c ≡ a || (b || c)
or_assoc true b c = refl
or_assoc false b c = refl

or_turned : (a b c : Bool) → a || (b || c) ≡ b || (a || c)
or_turned true true c = refl
or_turned true false c = refl
or_turned false b c = refl

or_twice : (a b : Bool) → a || b ≡ a || (a || b)
or_twice true b = refl
or_twice false b = refl

or_false : (a : Bool) → a || false ≡ a
or_false true = refl
or_false false = refl

equal_is : (a b : ℤ) → int_cmp a b ≡ Equal → a ≡ b
equal_is a b e = subst (λ r. MatchOrdering r (a <ℤ b) (a ≡ b) (b <ℤ a)) e (int_ranks a b)

-- a number more in an ordered list
at_place : (z a x : ℤ) (xs : List ℤ) (r : Ordering) → int_cmp a x ≡ r
    → list_any (int_eq z) (insert_key int_cmp xs a) ≡ (int_eq z a || list_any (int_eq z) xs)
    → list_any (int_eq z) (match_ordering r (a ∷ x ∷ xs) (x ∷ xs) (x ∷ insert_key int_cmp xs a)) ≡ (int_eq z a || (int_eq z x || list_any (int_eq z) xs))
at_place z a x xs Less e more = refl
at_place z a x xs Equal e more =
    or_twice (int_eq z x) (list_any (int_eq z) xs) ∙ ap (λ y. int_eq z y || (int_eq z x || list_any (int_eq z) xs)) (sym (equal_is a x e))
at_place z a x xs Greater e more = ap (λ b. int_eq z x || b) more ∙ or_turned (int_eq z x) (int_eq z a) (list_any (int_eq z) xs)

added : (z a : ℤ) (xs : List ℤ) → list_any (int_eq z) (insert_key int_cmp xs a) ≡ (int_eq z a || list_any (int_eq z) xs)
added z a [] = refl
added z a (x ∷ xs) = at_place z a x xs (int_cmp a x) refl (added z a xs)

has_more : (b c : Option ℤ) (zs : List ℤ) → has (with_value zs c) b ≡ (same_number b c || has zs b)
has_more None None zs = refl
has_more None (Some c) zs = refl
has_more (Some b) None zs = refl
has_more (Some b) (Some c) zs = added b c zs

has_none : (b : Option ℤ) → has [] b ≡ false
has_none None = refl
has_none (Some b) = refl

-- one switch behind its cases
abbrev all_noted : List Value → Cases → Cases
all_noted [] s = s
all_noted (v ∷ vs) s = all_noted vs (noted (compared s.ty v) s)

after_all : (vs : List Value) (s : Cases) (ss : List Cases) → after_cases vs (s ∷ ss) ≡ all_noted vs s ∷ ss
after_all [] s ss = refl
after_all (v ∷ vs) s ss = after_all vs (noted (compared s.ty v) s) ss

has_all : (vs : List Value) (s : Cases) (v : Value) →
    has (all_noted vs s).values (compared (all_noted vs s).ty v) ≡ (list_any (same s.ty v) vs || has s.values (compared s.ty v))
has_all [] s v = refl
has_all (w ∷ ws) s v =
    has_all ws (noted (compared s.ty w) s) v
    ∙ ap (λ b. list_any (same s.ty v) ws || b) (has_more (compared s.ty v) (compared s.ty w) s.values)
    ∙ or_turned (list_any (same s.ty v) ws) (same s.ty v w) (has s.values (compared s.ty v))
    ∙ sym (or_assoc (same s.ty v w) (list_any (same s.ty v) ws) (has s.values (compared s.ty v)))

pub apart : AreApart
apart = record {
  told = λ at controlling vs v outer.
      let ty = integer_type (promoted_type controlling) in
      let s : Cases = record { ty = ty; values = []; defaulted = false } in
      ap (λ ss. case_fault at v ss) (after_all vs s outer)
      ∙ ap (λ b. repeated at b) (has_all vs s v ∙ ap (λ b. list_any (same ty v) vs || b) (has_none (compared ty v)) ∙ or_false (list_any (same ty v) vs));
}
