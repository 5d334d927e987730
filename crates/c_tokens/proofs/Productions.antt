-- What the scanner reads as a member of a class is one by the standard's productions, and the other way round: identifiers,
-- numbers, comments and white space.
use Rattle.std.proofs.Common.{◌≡◌, ℕ, inl, inr, Bool, true, false, ◌&&◌, ◌||◌, not, List, [], ◌∷◌, ◌++◌, append_assoc, refl, ap, sym, ◌∙◌, subst, arith, Option, Some, None, slice_index, ◌==◌, codes, if◌then◌else◌}
use Rattle.std.proofs.lemmas.Grind.{common_steps}
use Rattle.std.proofs.lemmas.List.{append-nil}
use Rattle.std.specs.List.{list_all}
use Rattle.std.specs.Option.{option_map_or}
use Rattle.c_tokens.specs.declared.classes.State.{State}
use Rattle.c_tokens.specs.declared.classes.State.TheVariants.{Blanks, Line, Block, Star, BlockEnd, Word, Digits, Exponent}
use Rattle.c_tokens.specs.Logical.{is_line_end}
use Rattle.c_tokens.specs.Classes.{next_state, last_state, is_blank, is_digit, is_nondigit, is_exponent, is_sign, is_word_part, is_number_part}
use Rattle.c_tokens.specs.Pieces.{is_closed}
use Rattle.c_tokens.specs.Languages.{is_identifier, IsNumber, digit, point_digit, number_digit, number_nondigit, number_sign, number_point, IsComment, block, line, StandsIn, AreBlanks, blanks, IsLineEnd, line_end}
use Rattle.c_tokens.proofs.Scanned
use Rattle.c_tokens.proofs.Scanned.{accepts, closes, is_number, is_comment, is_white_space}
use Rattle.c_tokens.proofs.FrontLemmas.{if_cases}
use Rattle.c_tokens.proofs.LongestLemmas.{first_part, second_part, either_part}
use Rattle.c_tokens.proofs.LongestTokens.{same_test}

pub both : (a b : Bool) → a ≡ true → b ≡ true → a && b ≡ true
both a b e f = rw (e, f) refl

pub or_left : (a b : Bool) → a ≡ true → a || b ≡ true
or_left a b e = rw e refl

pub or_right : (a b : Bool) → b ≡ true → a || b ≡ true
or_right true b e = refl
or_right false b e = e

-- identifiers
word_is : (w : List ℕ) → accepts w Word ≡ list_all is_word_part w
unfolding next_state
word_is [] = refl
word_is (c ∷ w) = if_cases (λ (o : Option State). option_map_or (λ t. accepts w t) o false ≡ is_word_part c && list_all is_word_part w) (is_word_part c) _ _ (λ e. rw e (word_is w)) (λ e. rw e refl)

pub identifier_is : (w : List ℕ) → Scanned.is_identifier w ≡ is_identifier w
identifier_is w = ap (λ (b : Bool). is_nondigit (slice_index w 0) && b) (word_is w)

-- numbers: the state behind an exponent letter, or behind another character
abbrev behind : Bool → State
behind true = Exponent
behind false = Digits

abbrev starts : List ℕ → Bool
starts w = is_digit (slice_index w 0) || (slice_index w 0 == 46 && is_digit (slice_index w 1))

starts_more : (w more : List ℕ) → starts w ≡ true → starts (w ++ more) ≡ true
starts_more [] more e = cc e
starts_more (a ∷ []) more e = elim (either_part (is_digit a) (a == 46 && false) e) as (λ _. starts (a ∷ more) ≡ true) [
  | inl f ↦ or_left (is_digit a) _ f
  | inr f ↦ cc (second_part (a == 46) false f)
]
starts_more (a ∷ b ∷ w) more e = e

accepts_more : (w more : List ℕ) → ((b : Bool) → accepts more (behind b) ≡ true) → (b : Bool) → accepts w (behind b) ≡ true → accepts (w ++ more) (behind b) ≡ true
unfolding next_state
accepts_more [] more goes b e = goes b
accepts_more (c ∷ w) more goes false e =
    let P : Option State → Type 0 = λ o. option_map_or (λ t. accepts w t) o false ≡ true → option_map_or (λ t. accepts (w ++ more) t) o false ≡ true in
    if_cases P (is_exponent c) _ _ (λ _. accepts_more w more goes true) (λ _. if_cases P (is_number_part c) _ _ (λ _. accepts_more w more goes false) (λ _ k. cc k)) e
accepts_more (c ∷ w) more goes true e =
    let P : Option State → Type 0 = λ o. option_map_or (λ t. accepts w t) o false ≡ true → option_map_or (λ t. accepts (w ++ more) t) o false ≡ true in
    if_cases P (is_exponent c) _ _ (λ _. accepts_more w more goes true) (λ _. if_cases P (is_number_part c || is_sign c) _ _ (λ _. accepts_more w more goes false) (λ _ k. cc k)) e

part_goes : (c : ℕ) → is_number_part c ≡ true → (b : Bool) → accepts (c ∷ []) (behind b) ≡ true
unfolding next_state
part_goes c e false = if_cases (λ (o : Option State). option_map_or (λ t. true) o false ≡ true) (is_exponent c) _ _ (λ _. refl) (λ _. rw e refl)
part_goes c e true = if_cases (λ (o : Option State). option_map_or (λ t. true) o false ≡ true) (is_exponent c) _ _ (λ _. refl) (λ _. rw e refl)

signed : (sign : ℕ) → is_sign sign ≡ true → accepts (sign ∷ []) Exponent ≡ true
unfolding next_state
signed sign e = if_cases (λ (o : Option State). option_map_or (λ t. true) o false ≡ true) (is_exponent sign) _ _ (λ _. refl) (λ _. rw (or_right (is_number_part sign) (is_sign sign) e) refl)

sign_goes : (e sign : ℕ) → is_exponent e ≡ true → is_sign sign ≡ true → (b : Bool) → accepts (e ∷ sign ∷ []) (behind b) ≡ true
unfolding next_state
sign_goes e sign f g false = rw f (signed sign g)
sign_goes e sign f g true = rw f (signed sign g)

digit_part : (d : ℕ) → is_digit d ≡ true → is_number_part d ≡ true
digit_part d e = or_left (is_word_part d) _ (or_right (is_nondigit d) _ e)

nondigit_part : (c : ℕ) → is_nondigit c ≡ true → is_number_part c ≡ true
nondigit_part c e = or_left (is_word_part c) _ (or_left (is_nondigit c) _ e)

abbrev Scans : List ℕ → Type 0
Scans w = (starts w ≡ true) × (accepts w Digits ≡ true)

scans_more : (w more : List ℕ) → ((b : Bool) → accepts more (behind b) ≡ true) → Scans w → Scans (w ++ more)
scans_more w more goes s = (starts_more w more s.0, accepts_more w more goes false s.1)

number_scanned : (w : List ℕ) → IsNumber w → Scans w
unfolding next_state
number_scanned w (digit d e) = (or_left (is_digit d) _ e, part_goes d (digit_part d e) false)
number_scanned w (point_digit d e) = (e, part_goes d (digit_part d e) false)
number_scanned w (number_digit v d n e) = scans_more v (d ∷ []) (part_goes d (digit_part d e)) (number_scanned v n)
number_scanned w (number_nondigit v c n e) = scans_more v (c ∷ []) (part_goes c (nondigit_part c e)) (number_scanned v n)
number_scanned w (number_sign v e sign n f g) = scans_more v (e ∷ sign ∷ []) (sign_goes e sign f g) (number_scanned v n)
number_scanned w (number_point v n) = scans_more v (46 ∷ []) (part_goes 46 refl) (number_scanned v n)

pub scans_number : (w : List ℕ) → IsNumber w → is_number w ≡ true
scans_number w n = let s : Scans w = number_scanned w n in both (starts w) (accepts w Digits) s.0 s.1

number_part : (w : List ℕ) (c : ℕ) → IsNumber w → is_number_part c ≡ true → IsNumber (w ++ c ∷ [])
number_part w c n e = elim (either_part (is_word_part c) (c == 46) e) as (λ _. IsNumber (w ++ c ∷ [])) [
  | inr f ↦ subst (λ (k : ℕ). IsNumber (w ++ k ∷ [])) (sym (same_test c 46 f)) (number_point w n)
  | inl f ↦ elim (either_part (is_nondigit c) (is_digit c) f) as (λ _. IsNumber (w ++ c ∷ [])) [
    | inl g ↦ number_nondigit w c n g
    | inr g ↦ number_digit w c n g
  ]
]

exponent_nondigit : (c : ℕ) → is_exponent c ≡ true → is_nondigit c ≡ true
exponent_nondigit c e = grind (arith, common_steps, e)

mutual
  unfolding next_state

  digits_on : (w done : List ℕ) → IsNumber done → accepts w Digits ≡ true → IsNumber (done ++ w)
  digits_on [] done n e = subst IsNumber (sym (append-nil done)) n
  digits_on (c ∷ w) done n e =
      let P : Option State → Type 0 = λ o. option_map_or (λ t. accepts w t) o false ≡ true → IsNumber (done ++ c ∷ w) in
      if_cases P (is_exponent c) _ _ (λ f. exponent_on w done c n f)
      (λ _. if_cases P (is_number_part c) _ _ (λ f k. subst IsNumber (append_assoc done (c ∷ []) w) (digits_on w (done ++ c ∷ []) (number_part done c n f) k)) (λ _ k. cc k)) e

  exponent_on : (w done : List ℕ) (x : ℕ) → IsNumber done → is_exponent x ≡ true → accepts w Exponent ≡ true → IsNumber (done ++ x ∷ w)
  exponent_on [] done x n e f = number_nondigit done x n (exponent_nondigit x e)
  exponent_on (c ∷ w) done x n e f =
      let P : Option State → Type 0 = λ o. option_map_or (λ t. accepts w t) o false ≡ true → IsNumber (done ++ x ∷ c ∷ w) in
      let one : IsNumber (done ++ x ∷ []) = number_nondigit done x n (exponent_nondigit x e) in
      if_cases P (is_exponent c) (Some Exponent) (if is_number_part c || is_sign c then Some Digits else None) (λ g k. subst IsNumber (append_assoc done (x ∷ []) (c ∷ w)) (exponent_on w (done ++ x ∷ []) c one g k))
      (λ _. if_cases P (is_number_part c || is_sign c) (Some Digits) None
      (λ g k. elim (either_part (is_number_part c) (is_sign c) g) as (λ _. IsNumber (done ++ x ∷ c ∷ w)) [
        | inl h ↦ subst IsNumber (append_assoc done (x ∷ c ∷ []) w) (digits_on w (done ++ x ∷ c ∷ []) (subst IsNumber (append_assoc done (x ∷ []) (c ∷ [])) (number_part (done ++ x ∷ []) c one h)) k)
        | inr h ↦ subst IsNumber (append_assoc done (x ∷ c ∷ []) w) (digits_on w (done ++ x ∷ c ∷ []) (number_sign done x c n e h) k)
      ]) (λ _ k. cc k)) f

digit_goes : (d : ℕ) (w : List ℕ) → is_digit d ≡ true → accepts (d ∷ w) Digits ≡ true → accepts w Digits ≡ true
unfolding next_state
digit_goes d w e =
    let no : is_exponent d ≡ false = grind (arith, common_steps, e) in
    rw (no, digit_part d e) (λ k. k)

pub number_is : (w : List ℕ) → is_number w ≡ true → IsNumber w
unfolding next_state
number_is [] e = cc e
number_is (a ∷ w) e =
    let goes : accepts (a ∷ w) Digits ≡ true = second_part (starts (a ∷ w)) (accepts (a ∷ w) Digits) e in
    elim (either_part (is_digit a) (a == 46 && is_digit (slice_index w 0)) (first_part (starts (a ∷ w)) (accepts (a ∷ w) Digits) e)) as (λ _. IsNumber (a ∷ w)) [
      | inl f ↦ digits_on w (a ∷ []) (digit a f) (digit_goes a w f goes)
      | inr f ↦ subst (λ (k : ℕ). IsNumber (k ∷ w)) (sym (same_test a 46 (first_part (a == 46) _ f)))
          (point w (second_part (a == 46) (is_digit (slice_index w 0)) f) (subst (λ (k : ℕ). accepts (k ∷ w) Digits ≡ true) (same_test a 46 (first_part (a == 46) _ f)) goes))
    ]
  where
    point : (w : List ℕ) → is_digit (slice_index w 0) ≡ true → accepts w Digits ≡ true → IsNumber (46 ∷ w)
    point [] f e = cc f
    point (d ∷ w) f e = digits_on w (46 ∷ d ∷ []) (point_digit d f) (digit_goes d w f e)

-- comments: whether `*/` stands somewhere
abbrev holds_end : List ℕ → Bool
holds_end [] = false
holds_end (c ∷ cs) = (c == 42 && slice_index cs 0 == 47) || holds_end cs

end_held : (before rest : List ℕ) → holds_end (before ++ 42 ∷ 47 ∷ rest) ≡ true
end_held [] rest = refl
end_held (c ∷ cs) rest = or_right _ _ (end_held cs rest)

none_stands : (cs : List ℕ) → holds_end cs ≡ false → ¬ StandsIn (codes "*/") cs
none_stands cs e s = absurd (clash (holds_end cs) e (subst (λ (w : List ℕ). holds_end w ≡ true) (sym s.2) (end_held s.0 s.1)))
  where
    clash : (b : Bool) → b ≡ false → b ≡ true → ⊥
    clash true e f = cc e
    clash false e f = cc f

end_stands : (cs : List ℕ) → holds_end cs ≡ true → StandsIn (codes "*/") cs
end_stands [] e = cc e
end_stands (c ∷ cs) e = elim (either_part (c == 42 && slice_index cs 0 == 47) (holds_end cs) e) as (λ _. StandsIn (codes "*/") (c ∷ cs)) [
  | inl f ↦ here c cs f
  | inr f ↦ let s = end_stands cs f in (c ∷ s.0, s.1, ap (λ (w : List ℕ). c ∷ w) s.2)
]
  where
    here : (c : ℕ) (cs : List ℕ) → c == 42 && slice_index cs 0 == 47 ≡ true → StandsIn (codes "*/") (c ∷ cs)
    here c [] f = cc (second_part (c == 42) false f)
    here c (d ∷ ds) f = ([], ds, rw (same_test c 42 (first_part (c == 42) (d == 47) f), same_test d 47 (second_part (c == 42) (d == 47) f)) refl)

none_held : (cs : List ℕ) → ¬ StandsIn (codes "*/") cs → holds_end cs ≡ false
none_held cs none = by (holds_end cs) refl
  where
    by : (b : Bool) → holds_end cs ≡ b → b ≡ false
    by true e = absurd (none (end_stands cs e))
    by false e = refl

pub no_or : (a b : Bool) → a || b ≡ false → (a ≡ false) × (b ≡ false)
no_or true b e = cc e
no_or false b e = (refl, e)

-- what `closes` says of a state and what the next character made of it
abbrev pub Closed : List ℕ → State → Option State → Type 0
Closed w s o = option_map_or (λ t. accepts w t) o false && is_closed (option_map_or (λ t. last_state w t) o s) ≡ true

-- in a comment, and behind a `*` in it
mutual
  unfolding next_state

  block_closes : (cs : List ℕ) → holds_end cs ≡ false → closes (cs ++ 42 ∷ 47 ∷ []) Block ≡ true
  block_closes [] none = refl
  block_closes (c ∷ cs) none = if_cases (Closed (cs ++ 42 ∷ 47 ∷ []) Block) (c == 42) _ _ (λ e. star_closes cs (subst (λ (k : ℕ). holds_end (k ∷ cs) ≡ false) (same_test c 42 e) none)) (λ _. block_closes cs (no_or (c == 42 && slice_index cs 0 == 47) _ none).1)

  star_closes : (cs : List ℕ) → holds_end (42 ∷ cs) ≡ false → closes (cs ++ 42 ∷ 47 ∷ []) Star ≡ true
  star_closes [] none = refl
  star_closes (c ∷ cs) none =
      let parts = no_or (c == 47) (holds_end (c ∷ cs)) none in
      if_cases (Closed (cs ++ 42 ∷ 47 ∷ []) Star) (c == 47) _ _ (λ e. cc (e, parts.0))
      (λ _. if_cases (Closed (cs ++ 42 ∷ 47 ∷ []) Star) (c == 42) _ _ (λ e. star_closes cs (subst (λ (k : ℕ). holds_end (k ∷ cs) ≡ false) (same_test c 42 e) parts.1)) (λ _. block_closes cs (no_or (c == 42 && slice_index cs 0 == 47) _ parts.1).1))

pub line_is : (w : List ℕ) → accepts w Line ≡ list_all (λ c. not (is_line_end c)) w
unfolding next_state
line_is [] = refl
line_is (c ∷ w) = if_cases (λ (o : Option State). option_map_or (λ t. accepts w t) o false ≡ not (is_line_end c) && list_all (λ d. not (is_line_end d)) w) (is_line_end c) _ _ (λ e. rw e refl) (λ e. rw e (line_is w))

pub scans_comment : (w : List ℕ) → IsComment w → is_comment w ≡ true
unfolding next_state
scans_comment w (block cs none) = block_closes cs (none_held cs none)
scans_comment w (line cs e) = or_left (accepts cs Line) _ (line_is cs ∙ e)

-- what a comment that is closed holds
abbrev EndsIn : List ℕ → Type 0
EndsIn v = (cs : List ℕ) × (v ≡ cs ++ 42 ∷ 47 ∷ []) × (holds_end cs ≡ false)

ended : (c : ℕ) (v : List ℕ) → c == 47 ≡ true → closes v BlockEnd ≡ true → EndsIn (42 ∷ c ∷ v)
unfolding next_state
ended c [] e f = ([], rw (same_test c 47 e) refl, refl)
ended c (d ∷ v) e f = cc f

goes_on : (c : ℕ) (v : List ℕ) → c == 42 ≡ false → EndsIn v → EndsIn (c ∷ v)
goes_on c v e s = (c ∷ s.0, ap (λ (w : List ℕ). c ∷ w) s.1, rw (e, s.2) refl)

star_first : (cs v : List ℕ) → 42 ∷ v ≡ cs ++ 42 ∷ 47 ∷ [] → slice_index cs 0 == 47 ≡ false
star_first [] v e = refl
star_first (c ∷ cs) v e = let star : 42 ≡ c = ap (λ (w : List ℕ). slice_index w 0) e in rw (← star) refl

star_again : (c : ℕ) (v : List ℕ) → c == 42 ≡ true → EndsIn (42 ∷ v) → EndsIn (42 ∷ c ∷ v)
star_again c v e s = (42 ∷ s.0, rw (same_test c 42 e) (ap (λ (w : List ℕ). 42 ∷ w) s.1), rw (star_first s.0 v s.1, s.2) refl)

star_behind : (c : ℕ) (v : List ℕ) → c == 47 ≡ false → EndsIn (c ∷ v) → EndsIn (42 ∷ c ∷ v)
star_behind c v e s = (42 ∷ s.0, ap (λ (w : List ℕ). 42 ∷ w) s.1, rw (other s.0 s.1, s.2) refl)
  where
    other : (cs : List ℕ) → c ∷ v ≡ cs ++ 42 ∷ 47 ∷ [] → slice_index cs 0 == 47 ≡ false
    other [] f = refl
    other (d ∷ ds) f = let same : c ≡ d = ap (λ (w : List ℕ). slice_index w 0) f in rw (← same) e

mutual
  unfolding next_state

  block_ends : (v : List ℕ) → closes v Block ≡ true → EndsIn v
  block_ends [] e = cc e
  block_ends (c ∷ v) e = if_cases (λ (o : Option State). Closed v Block o → EndsIn (c ∷ v)) (c == 42) _ _ (λ f k. rw (same_test c 42 f) (star_ends v k)) (λ f k. goes_on c v f (block_ends v k)) e

  star_ends : (v : List ℕ) → closes v Star ≡ true → EndsIn (42 ∷ v)
  star_ends [] e = cc e
  star_ends (c ∷ v) e =
      let P : Option State → Type 0 = λ o. Closed v Star o → EndsIn (42 ∷ c ∷ v) in
      if_cases P (c == 47) _ _ (λ f k. ended c v f k) (λ f. if_cases P (c == 42) _ _ (λ g k. star_again c v g (star_ends v k)) (λ g k. star_behind c v f (goes_on c v g (block_ends v k)))) e

pub comment_is : (w : List ℕ) → is_comment w ≡ true → IsComment w
unfolding next_state
comment_is [] e = cc e
comment_is (a ∷ []) e = elim (either_part (a == 47 && false && accepts (a ∷ []) Line) (a == 47 && false && closes [] Block) e) as (λ _. IsComment (a ∷ [])) [
  | inl f ↦ cc (second_part (a == 47) false (first_part (a == 47 && false) _ f))
  | inr f ↦ cc (second_part (a == 47) false (first_part (a == 47 && false) _ f))
]
comment_is (a ∷ b ∷ w) e = elim (either_part (a == 47 && b == 47 && accepts (a ∷ b ∷ w) Line) (a == 47 && b == 42 && closes w Block) e) as (λ _. IsComment (a ∷ b ∷ w)) [
  | inl f ↦
      let two : a == 47 && b == 47 ≡ true = first_part (a == 47 && b == 47) _ f in
      slashes a b w (first_part (a == 47) (b == 47) two) (second_part (a == 47) (b == 47) two) (second_part (a == 47 && b == 47) _ f)
  | inr f ↦
      let two : a == 47 && b == 42 ≡ true = first_part (a == 47 && b == 42) (closes w Block) f in
      starred a b w (first_part (a == 47) (b == 42) two) (second_part (a == 47) (b == 42) two) (block_ends w (second_part (a == 47 && b == 42) (closes w Block) f))
]
  where
    line_goes_on : (w : List ℕ) → accepts (47 ∷ 47 ∷ w) Line ≡ true → IsComment (47 ∷ 47 ∷ w)
    line_goes_on w e = line w (sym (line_is w) ∙ e)

    slashes : (a b : ℕ) (w : List ℕ) → a == 47 ≡ true → b == 47 ≡ true → accepts (a ∷ b ∷ w) Line ≡ true → IsComment (a ∷ b ∷ w)
    slashes a b w f g = rw (same_test a 47 f, same_test b 47 g) (line_goes_on w)

    starred : (a b : ℕ) (w : List ℕ) → a == 47 ≡ true → b == 42 ≡ true → EndsIn w → IsComment (a ∷ b ∷ w)
    starred a b w f g s = rw (same_test a 47 f, same_test b 42 g, s.1) (block s.0 (none_stands s.0 s.2))

-- white space
blanks_is : (w : List ℕ) → accepts w Blanks ≡ list_all is_blank w
unfolding next_state
blanks_is [] = refl
blanks_is (c ∷ w) = if_cases (λ (o : Option State). option_map_or (λ t. accepts w t) o false ≡ is_blank c && list_all is_blank w) (is_blank c) _ _ (λ e. rw e (blanks_is w)) (λ e. rw e refl)

pub scans_blanks : (w : List ℕ) → AreBlanks w → is_white_space w ≡ true
scans_blanks w (blanks c cs e) = or_left _ _ (both (is_blank c) (accepts (c ∷ cs) Blanks) (first_part (is_blank c) (list_all is_blank cs) e) (blanks_is (c ∷ cs) ∙ e))

pub scans_line_end : (w : List ℕ) → IsLineEnd w → is_white_space w ≡ true
scans_line_end w (line_end c e) = or_right (is_blank c && accepts (c ∷ []) Blanks) _ (rw e refl)

pub blanks_are : (w : List ℕ) → is_blank (slice_index w 0) ≡ true → accepts w Blanks ≡ true → AreBlanks w
blanks_are [] e f = cc e
blanks_are (c ∷ w) e f = blanks c w (sym (blanks_is (c ∷ w)) ∙ f)
