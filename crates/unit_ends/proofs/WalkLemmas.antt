-- A walk over the statements of a unit, that knows what it has passed.
use Rattle.std.proofs.Common.{arith, ◌≡◌, ◌++◌, ℕ, Bool, true, false, ◌||◌, ◌&&◌, List, [], ◌∷◌, length, Option, Some, None, refl, sym, ap, subst, ◌∙◌, append_assoc}
use Rattle.std.specs.List.{list_any}
use Rattle.std.specs.Prelude.{if◌then◌else◌}
use Rattle.type_data.specs.declared.judged.Fault.{Fault}
use Rattle.type_data.specs.declared.names.ItemName.{ItemName}
use Rattle.scope_tables.specs.declared.meanings.HeadMeaning.{HeadMeaning}
use Rattle.scope_tables.specs.declared.meanings.How.{How}
use Rattle.scope_tables.specs.declared.meanings.Stated.{Stated}
use Rattle.unit_ends.specs.Ends.{any, defines, is_it, states, stated, stated_before, fault_at, of_item, of_items, rule, rule_at_first}
use Rattle.unit_ends.specs.Last.{last}
use Rattle.unit_ends.specs.Items.{Items}
use Rattle.unit_ends.specs.Kept.{has}
use Rattle.unit_ends.specs.Passed.{HasPassed}
use Rattle.unit_ends.specs.declared.passed.Passed.{Passed}

or_assoc : (a b c : Bool) → (a || b) || c ≡ a || (b || c)
or_assoc true b c = refl
or_assoc false b c = refl

or_false : (a : Bool) → a || false ≡ a
or_false true = refl
or_false false = refl

any_more : {A : Type 0} (p : A → Bool) (xs : List A) (x : A) → list_any p (xs ++ x ∷ []) ≡ (list_any p xs || p x)
any_more p [] x = or_false (p x)
any_more p (y ∷ ys) x = ap (λ b. p y || b) (any_more p ys x) ∙ sym (or_assoc (p y) (list_any p ys) (p x))

-- one statement more
before_more : (asked : How → Bool) (q : List ℕ) (front : List HeadMeaning) (before : List Stated) (s : Stated) →
    stated_before asked q front (before ++ s ∷ []) ≡ (stated_before asked q front before || (asked s.how && is_it q s))
before_more asked q front before s =
    ap (λ b. stated asked q front || b) (any_more (λ x. asked x.how && is_it q x) before s)
    ∙ sym (or_assoc (stated asked q front) (states asked q before) (asked s.how && is_it q s))

-- an item's statements are all passed
front_more : (asked : How → Bool) (q : List ℕ) (front : List HeadMeaning) (h : HeadMeaning) →
    stated_before asked q (front ++ h ∷ []) [] ≡ stated_before asked q front h.stated
front_more asked q front h = or_false (stated asked q (front ++ h ∷ [])) ∙ any_more (λ x. states asked q x.stated) front h

pub passes : (p p' : Passed) (s : Stated) (front : List HeadMeaning) (before : List Stated) →
    ((q : List ℕ) → has p'.stated q ≡ (has p.stated q || (any s.how && is_it q s))) →
    ((q : List ℕ) → has p'.defined q ≡ (has p.defined q || (defines s.how && is_it q s))) →
    HasPassed front before p → HasPassed front (before ++ s ∷ []) p'
passes p p' s front before more_stated more_defined was = record {
  statements = λ q. more_stated q ∙ ap (λ b. b || (any s.how && is_it q s)) (was.statements q) ∙ sym (before_more any q front before s);
  definitions = λ q. more_defined q ∙ ap (λ b. b || (defines s.how && is_it q s)) (was.definitions q) ∙ sym (before_more defines q front before s);
}

pub item_passed : (p : Passed) (front : List HeadMeaning) (h : HeadMeaning) → HasPassed front h.stated p → HasPassed (front ++ h ∷ []) [] p
item_passed p front h was = record {
  statements = λ q. was.statements q ∙ sym (front_more any q front h);
  definitions = λ q. was.definitions q ∙ sym (front_more defines q front h);
}

pub both_true : {a : Bool} (b : Bool) → a ≡ true → b ≡ true → a && b ≡ true
both_true b e f = ap (λ x. x && b) e ∙ f

and_false : (a : Bool) → a && false ≡ false
and_false true = refl
and_false false = refl

pub one_false : (a : Bool) {b : Bool} → b ≡ false → a && b ≡ false
one_false a e = ap (λ x. a && x) e ∙ and_false a

-- the rule that a name breaks, by what is known of it before
pub at_first : (items : Items) (front : List HeadMeaning) (before : List Stated) (s : Stated) → stated_before any s.name front before ≡ false →
    rule items.heads items.bodies front before s ≡ rule_at_first s.name items.heads items.bodies (last s.name items.heads)
unfolding rule
at_first items front before s none =
    ap (λ b. if b then (if defines s.how && stated_before defines s.name front before then Some 702 else None) else rule_at_first s.name items.heads items.bodies (last s.name items.heads)) none

pub at_later : (items : Items) (front : List HeadMeaning) (before : List Stated) (s : Stated) (twice : Bool) → stated_before any s.name front before ≡ true →
    defines s.how && stated_before defines s.name front before ≡ twice → rule items.heads items.bodies front before s ≡ (if twice then Some 702 else None)
unfolding rule
at_later items front before s twice some is =
    ap (λ b. if b then (if defines s.how && stated_before defines s.name front before then Some 702 else None) else rule_at_first s.name items.heads items.bodies (last s.name items.heads)) some
    ∙ ap (λ b. if b then Some 702 else None) is

-- within an item: what stands before, what is passed, and the faults so far
pub record IsWithin (items : Items) (front : List HeadMeaning) (h : HeadMeaning) (rest : List Stated) (p : Passed) (made whole : List (ItemName × Fault)) : Type 0 where
  pub before : List Stated
  pub split : before ++ rest ≡ h.stated
  pub passed : HasPassed front before p
  pub faults : made ++ of_item items.heads items.bodies front h.item before rest ≡ whole

pub within_begins : (items : Items) (front : List HeadMeaning) (h : HeadMeaning) (rest : List Stated) (p : Passed) (made : List (ItemName × Fault)) →
    rest ≡ h.stated → HasPassed front [] p → IsWithin items front h rest p made (made ++ of_item items.heads items.bodies front h.item [] h.stated)
within_begins items front h rest p made is passed = record {
  before = [];
  split = is;
  passed = passed;
  faults = ap (λ ss. made ++ of_item items.heads items.bodies front h.item [] ss) is;
}

pub within_turns : (items : Items) (front : List HeadMeaning) (h : HeadMeaning) (rest more : List Stated) (s : Stated) (p p' : Passed)
    (made made' whole : List (ItemName × Fault)) (broken : Option ℕ) → rest ≡ s ∷ more
    → ((before : List Stated) → HasPassed front before p → broken ≡ rule items.heads items.bodies front before s)
    → made' ≡ made ++ fault_at h.item s broken
    → ((before : List Stated) → HasPassed front before p → HasPassed front (before ++ s ∷ []) p')
    → IsWithin items front h rest p made whole → IsWithin items front h more p' made' whole
within_turns items front h rest more s p p' made made' whole broken here found added passes was =
    let before = was.before in
    record {
      before = before ++ s ∷ [];
      split = append_assoc before (s ∷ []) more ∙ ap (λ ss. before ++ ss) (sym here) ∙ was.split;
      passed = passes before was.passed;
      faults =
          ap (λ xs. xs ++ of_item items.heads items.bodies front h.item (before ++ s ∷ []) more) (added ∙ ap (λ o. made ++ fault_at h.item s o) (found before was.passed))
          ∙ append_assoc made (fault_at h.item s (rule items.heads items.bodies front before s)) (of_item items.heads items.bodies front h.item (before ++ s ∷ []) more)
          ∙ ap (λ ss. made ++ of_item items.heads items.bodies front h.item before ss) (sym here) ∙ was.faults;
    }

nothing_behind : {A : Type 0} (xs : List A) → xs ++ [] ≡ xs
nothing_behind [] = refl
nothing_behind (x ∷ xs) = ap (λ ys. x ∷ ys) (nothing_behind xs)

pub within_ends : (items : Items) (front : List HeadMeaning) (h : HeadMeaning) (rest : List Stated) (p : Passed) (made whole : List (ItemName × Fault)) →
    length rest ≡ 0 → IsWithin items front h rest p made whole → (made ≡ whole) × HasPassed (front ++ h ∷ []) [] p
within_ends items front h [] p made whole none was = (
  sym (nothing_behind made) ∙ was.faults,
  item_passed p front h (subst (λ ss. HasPassed front ss p) (sym (nothing_behind was.before) ∙ was.split) was.passed),
)
within_ends items front h (s ∷ rest) p made whole none was = let bad : ⊥ = omega (arith, none) in absurd bad

-- between two items
pub record IsBetween (items : Items) (rest : List HeadMeaning) (p : Passed) (made whole : List (ItemName × Fault)) : Type 0 where
  pub front : List HeadMeaning
  pub passed : HasPassed front [] p
  pub faults : made ++ of_items items.heads items.bodies front rest ≡ whole

pub between_turns : (items : Items) (rest more : List HeadMeaning) (h : HeadMeaning) (p p' : Passed) (made made' whole : List (ItemName × Fault)) → rest ≡ h ∷ more
    → ((front : List HeadMeaning) → HasPassed front [] p → made' ≡ made ++ of_item items.heads items.bodies front h.item [] h.stated)
    → ((front : List HeadMeaning) → HasPassed front [] p → HasPassed (front ++ h ∷ []) [] p')
    → IsBetween items rest p made whole → IsBetween items more p' made' whole
between_turns items rest more h p p' made made' whole here added passes was =
    let front = was.front in
    record {
      front = front ++ h ∷ [];
      passed = passes front was.passed;
      faults =
          ap (λ xs. xs ++ of_items items.heads items.bodies (front ++ h ∷ []) more) (added front was.passed)
          ∙ append_assoc made (of_item items.heads items.bodies front h.item [] h.stated) (of_items items.heads items.bodies (front ++ h ∷ []) more)
          ∙ ap (λ hs. made ++ of_items items.heads items.bodies front hs) (sym here) ∙ was.faults;
    }

pub between_ends : (items : Items) (rest : List HeadMeaning) (p : Passed) (made whole : List (ItemName × Fault)) → length rest ≡ 0 → IsBetween items rest p made whole → made ≡ whole
between_ends items [] p made whole none was = sym (nothing_behind made) ∙ was.faults
between_ends items (h ∷ rest) p made whole none was = let bad : ⊥ = omega (arith, none) in absurd bad
