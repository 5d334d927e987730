-- Maps in which what was put in first stays.
use Rattle.std.proofs.Common.{◌≡◌, refl, sym, ap, ◌∙◌, subst, T, ℕ, List, [], ◌∷◌, ◌++◌, ◌||◌, Bool, true, false, is_some, Option, None, Some, cond, if◌then◌else◌, bytes_eq}
use Rattle.std.specs.Option.{option_or}
use Rattle.std.proofs.lemmas.Slice.Eq.{bytes_eq-Decides}
use Rattle.include_units.specs.First.{first_of}
use Rattle.include_units.specs.Names.{is_one_of}

turned : (a b : List ℕ) → bytes_eq a b ≡ bytes_eq b a
turned a b = step (bytes_eq a b) (bytes_eq b a) refl refl
  where
    step : (x y : Bool) → bytes_eq a b ≡ x → bytes_eq b a ≡ y → x ≡ y
    step true true e f = refl
    step false false e f = refl
    step true false e f = sym ((bytes_eq-Decides b a).1 (sym ((bytes_eq-Decides a b).0 e))) ∙ f
    step false true e f = sym e ∙ (bytes_eq-Decides a b).1 (sym ((bytes_eq-Decides b a).0 f))

pub none_of : {X : Type 0} (o : Option X) → is_some o ≡ false → o ≡ None
none_of None e = refl
none_of (Some x) e = absurd (subst T e tt)

module _ {X : Type 0} where
  or_there : (o p : Option X) → is_some o ≡ true → o ≡ option_or o p
  or_there None p e = absurd (subst T (sym e) tt)
  or_there (Some x) p e = refl

  or_none : (o : Option X) → o ≡ option_or o None
  or_none None = refl
  or_none (Some x) = refl

  -- something is there at the name
  pub stays_first : (look : List ℕ → Option X) (name text : List ℕ) (value : X) → is_some (look name) ≡ true → look text ≡ first_of (look text) name value text
  stays_first look name text value e = step (bytes_eq text name) refl
    where
      step : (b : Bool) → bytes_eq text name ≡ b → look text ≡ option_or (look text) (if b then Some value else None)
      step true h = or_there (look text) (Some value) (ap (λ t. is_some (look t)) ((bytes_eq-Decides text name).0 h) ∙ e)
      step false h = or_none (look text)

  -- nothing was there
  pub goes_first : (look : List ℕ → Option X) (name text : List ℕ) (value : X) (after : Option X) → look name ≡ None →
      after ≡ cond (bytes_eq name text) (Some value) (look text) → after ≡ first_of (look text) name value text
  goes_first look name text value after none e = e ∙ ap (λ b. cond b (Some value) (look text)) (turned name text) ∙ step (bytes_eq text name) refl
    where
      step : (b : Bool) → bytes_eq text name ≡ b → cond b (Some value) (look text) ≡ option_or (look text) (if b then Some value else None)
      step true h = ap (λ o. option_or o (Some value)) (sym (ap look ((bytes_eq-Decides text name).0 h) ∙ none))
      step false h = or_none (look text)

  some_first : (o : Option X) (b : Bool) (value : X) → is_some (option_or o (if b then Some value else None)) ≡ is_some o || b
  some_first None true value = refl
  some_first None false value = refl
  some_first (Some x) true value = refl
  some_first (Some x) false value = refl

any_more : (names : List (List ℕ)) (name text : List ℕ) → is_one_of (names ++ name ∷ []) text ≡ is_one_of names text || bytes_eq name text
any_more [] name text = one (bytes_eq name text)
  where
    one : (b : Bool) → b || false ≡ b
    one true = refl
    one false = refl
any_more (n ∷ ns) name text = ap (λ b. bytes_eq n text || b) (any_more ns name text) ∙ both (bytes_eq n text) (is_one_of ns text) (bytes_eq name text)
  where
    both : (a b c : Bool) → a || (b || c) ≡ a || b || c
    both true b c = refl
    both false b c = refl

-- a name more is known
pub known_more : {X : Type 0} (names : List (List ℕ)) (name text : List ℕ) (before after : Option X) (value : X) →
    is_some before ≡ is_one_of names text → after ≡ first_of before name value text → is_some after ≡ is_one_of (names ++ name ∷ []) text
known_more names name text before after value e f =
    ap is_some f ∙ some_first before (bytes_eq text name) value
    ∙ ap (λ b. b || bytes_eq text name) e ∙ ap (λ b. is_one_of names text || b) (turned text name) ∙ sym (any_more names name text)
