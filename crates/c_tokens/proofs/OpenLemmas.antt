-- Where the piece at the front is open or a stray character, no front would do.
use Rattle.std.proofs.Common.{◌≡◌, ℕ, zero, suc, ◌+◌, ◌<◌, ◌≤◌, inl, inr, Bool, true, false, ◌&&◌, ◌||◌, not, List, [], ◌∷◌, length, take, drop, refl, ap, sym, ◌∙◌, arith, Option, Some, None, slice_index, nat_lt, ◌==◌}
use Rattle.std.proofs.lemmas.Grind.{common_steps}
use Rattle.tok_data.specs.declared.tokens.PpKind.{PpKind}
use Rattle.tok_data.specs.declared.tokens.PpKind.TheVariants.{Stray}
use Rattle.c_tokens.specs.declared.pieces.Class.{Class}
use Rattle.c_tokens.specs.declared.pieces.Class.TheVariants.{Token, OpenLiteral, OpenComment, Comment}
use Rattle.c_tokens.specs.declared.pieces.Context.{Context}
use Rattle.c_tokens.specs.declared.pieces.Context.TheVariants.{Fresh, Hash, Include, Later}
use Rattle.c_tokens.specs.declared.classes.State.TheVariants.{Block, Text, Line}
use Rattle.c_tokens.specs.Logical.{is_line_end}
use Rattle.c_tokens.specs.Classes.{last_state, is_blank, is_digit, is_nondigit, is_single, punctuator_size}
use Rattle.c_tokens.specs.Pieces.{Front, first_front, front_token, header_or_token, header_size, token_front, literal_prefix, literal_at, literal_or_plain, literal_kind, plain_front, punctuator_or_stray, block_comment, is_token, is_closed, is_quote, is_prefix}
use Rattle.c_tokens.specs.Languages.{is_punctuator}
use Rattle.c_tokens.proofs.Scanned.{accepts, closes, is_identifier, is_number, is_literal, is_quoted, is_header_name, is_comment, is_white_space, may_be_header, is_piece}
use Rattle.c_tokens.proofs.FrontLemmas.{if_cases}
use Rattle.c_tokens.proofs.ClosedFronts.{prefix_within}
use Rattle.c_tokens.proofs.LongestLemmas.{first_part, second_part, either_part, take_see, no_prefix, Closes, closes_exactly}
use Rattle.c_tokens.proofs.LongestTokens.{at_least_one, punctuator_agrees, single_first, literal_by, not_true}

-- no class begins with c
pub record BeginsNone (c : ℕ) : Type 0 where
  pub line_end : is_line_end c ≡ false
  pub blank : is_blank c ≡ false
  pub nondigit : is_nondigit c ≡ false
  pub digit : is_digit c ≡ false
  pub quote : is_quote c ≡ false
  pub single : is_single c ≡ false

kind_stray : (q : ℕ) → literal_kind q ≡ Stray → ⊥
kind_stray q = if_cases (λ (k : PpKind). k ≡ Stray → ⊥) (q == 39) _ _ (λ _ e. cc e) (λ _ e. cc e)

literal_stray : (cs : List ℕ) (p : ℕ) → (literal_at cs p).class ≡ Token Stray → ⊥
unfolding literal_at
literal_stray cs p = if_cases (λ (k : Class). k ≡ Token Stray → ⊥) (is_closed (last_state (drop (p + 1) cs) (Text (slice_index cs p)))) _ _ (λ _ e. kind_stray (slice_index cs p) (cc e)) (λ _ e. cc e)

no_quote : (c : ℕ) (xs : List ℕ) → literal_prefix (c ∷ xs) ≡ None → is_quote c ≡ false
unfolding literal_prefix
no_quote c xs = if_cases (λ (o : Option ℕ). o ≡ None → is_quote c ≡ false) (is_quote c) _ _ (λ _ e. cc e) (λ f _. f)

other_stray : (c : ℕ) (xs : List ℕ) → (punctuator_or_stray (c ∷ xs)).class ≡ Token Stray → is_single c ≡ false
unfolding punctuator_or_stray
other_stray c xs = if_cases (λ (f : Front). f.class ≡ Token Stray → is_single c ≡ false) (nat_lt 0 (punctuator_size (c ∷ xs))) _ _ (λ _ e. cc e)
    (λ e _. not_true (is_single c) (λ s. none (punctuator_size (c ∷ xs)) e (at_least_one c (slice_index xs 0) (slice_index xs 1) (slice_index xs 2) s)))
  where
    none : (n : ℕ) → nat_lt 0 n ≡ false → 1 ≤ n → ⊥
    none n e some = grind (arith, common_steps, e, some)

token_stray_by : (c : ℕ) (xs : List ℕ) (o : Option ℕ) → literal_prefix (c ∷ xs) ≡ o → is_line_end c ≡ false → is_blank c ≡ false → (literal_or_plain o (c ∷ xs)).class ≡ Token Stray → BeginsNone c
unfolding plain_front
token_stray_by c xs (Some p) e a b = λ k. absurd (literal_stray (c ∷ xs) p k)
token_stray_by c xs None e a b =
    if_cases (λ (f : Front). f.class ≡ Token Stray → BeginsNone c) (is_nondigit c) _ _ (λ _ k. cc k)
    (λ f. if_cases (λ (g : Front). g.class ≡ Token Stray → BeginsNone c) (is_digit c || (c == 46 && is_digit (slice_index xs 0))) _ _ (λ _ k. cc k)
    (λ g k. record { line_end = a; blank = b; nondigit = f; digit = left (is_digit c) _ g; quote = no_quote c xs e; single = other_stray c xs k }))
  where
    left : (v w : Bool) → v || w ≡ false → v ≡ false
    left true w h = h
    left false w h = refl

token_stray : (c : ℕ) (xs : List ℕ) → is_line_end c ≡ false → is_blank c ≡ false → (token_front (c ∷ xs)).class ≡ Token Stray → BeginsNone c
unfolding token_front
token_stray c xs a b = token_stray_by c xs (literal_prefix (c ∷ xs)) refl a b

header_stray : (c : ℕ) (xs : List ℕ) → is_line_end c ≡ false → is_blank c ≡ false → (header_or_token (c ∷ xs)).class ≡ Token Stray → BeginsNone c
unfolding header_or_token
header_stray c xs a b = if_cases (λ (f : Front). f.class ≡ Token Stray → BeginsNone c) (nat_lt 0 (header_size (c ∷ xs)) && not (is_token (token_front (c ∷ xs)).class && nat_lt (header_size (c ∷ xs)) (token_front (c ∷ xs)).size)) _ _ (λ _ k. cc k) (λ _. token_stray c xs a b)

front_token_stray : (context : Context) (c : ℕ) (xs : List ℕ) → is_line_end c ≡ false → is_blank c ≡ false → (front_token context (c ∷ xs)).class ≡ Token Stray → BeginsNone c
front_token_stray Include c xs a b = header_stray c xs a b
front_token_stray Fresh c xs a b = token_stray c xs a b
front_token_stray Hash c xs a b = token_stray c xs a b
front_token_stray Later c xs a b = token_stray c xs a b

comment_class : {A : Type 0} (cs : List ℕ) (k : Class) → (block_comment cs).class ≡ k → (Comment ≡ k → A) → (is_closed (last_state (drop 2 cs) Block) ≡ false → OpenComment ≡ k → A) → A
unfolding block_comment
comment_class {A} cs k = if_cases (λ (j : Class). j ≡ k → (Comment ≡ k → A) → (is_closed (last_state (drop 2 cs) Block) ≡ false → OpenComment ≡ k → A) → A) (is_closed (last_state (drop 2 cs) Block)) _ _ (λ _ e closed open_. closed e) (λ f e closed open_. open_ f e)

stray_begins : (context : Context) (c : ℕ) (xs : List ℕ) → (first_front context (c ∷ xs)).class ≡ Token Stray → BeginsNone c
unfolding first_front
stray_begins context c xs =
    let P : Front → Type 0 = λ f. f.class ≡ Token Stray → BeginsNone c in
    if_cases P (is_line_end c) _ _ (λ _ k. cc k)
    (λ a. if_cases P (is_blank c) _ _ (λ _ k. cc k)
    (λ b. if_cases P (c == 47 && slice_index xs 0 == 47) _ _ (λ _ k. cc k)
    (λ _. if_cases P (c == 47 && slice_index xs 0 == 42) _ _ (λ _ k. comment_class (c ∷ xs) (Token Stray) k (λ e. cc e) (λ _ e. cc e))
    (λ _. front_token_stray context c xs a b))))

neither : (a b : Bool) → a ≡ false → b ≡ false → a || b ≡ false
neither a b e f = rw (e, f) refl

-- so nothing that begins with it is a piece
no_piece : (context : Context) (m c : ℕ) (xs : List ℕ) → BeginsNone c → is_piece context (c ∷ take m xs) ≡ false
no_piece context m c xs none =
    let w : List ℕ = c ∷ take m xs in
    let point : c == 46 ≡ false = grind (arith, common_steps, none.single) in
    let slash : c == 47 ≡ false = grind (arith, common_steps, none.single) in
    let angle : c == 60 || c == 34 ≡ false = grind (arith, common_steps, none.single, none.quote) in
    let prefix : is_prefix c ≡ false = grind (arith, common_steps, none.nondigit) in
    let u : c == 117 ≡ false = grind (arith, common_steps, none.nondigit) in
    let identifier : is_identifier w ≡ false = rw none.nondigit refl in
    let number : is_number w ≡ false = rw (none.digit, point) refl in
    let literal : is_literal w ≡ false = ap (λ (o : Option ℕ). is_quoted o w) (no_prefix c (take m xs) none.quote prefix u) in
    let header : may_be_header context && is_header_name w ≡ false = not_header (may_be_header context) (is_header_name w) (rw angle refl) in
    let punctuator : is_punctuator w ≡ false = not_true (is_punctuator w) (λ f. clash (is_single c) none.single (single_first m c xs (punctuator_agrees w f))) in
    let comment : is_comment w ≡ false = rw slash refl in
    let white : is_white_space w ≡ false = rw (none.blank, none.line_end) refl in
    neither (is_identifier w || is_number w || is_literal w || (may_be_header context && is_header_name w) || is_punctuator w || is_comment w) (is_white_space w)
    (neither (is_identifier w || is_number w || is_literal w || (may_be_header context && is_header_name w) || is_punctuator w) (is_comment w)
    (neither (is_identifier w || is_number w || is_literal w || (may_be_header context && is_header_name w)) (is_punctuator w)
    (neither (is_identifier w || is_number w || is_literal w) (may_be_header context && is_header_name w)
    (neither (is_identifier w || is_number w) (is_literal w) (neither (is_identifier w) (is_number w) identifier number) literal) header) punctuator) comment) white
  where
    not_header : (a b : Bool) → b ≡ false → a && b ≡ false
    not_header true b e = e
    not_header false b e = refl

    clash : (b : Bool) → b ≡ false → b ≡ true → ⊥
    clash true e f = cc e
    clash false e f = cc f

pub stray : (context : Context) (cs : List ℕ) (n : ℕ) → 0 < n → n ≤ length cs → (first_front context cs).class ≡ Token Stray → is_piece context (take n cs) ≡ false
stray context [] n some within e = absurd (omega (arith, some, within))
stray context (c ∷ xs) zero some within e = absurd (omega (arith, some))
stray context (c ∷ xs) (suc m) some within e = no_piece context m c xs (stray_begins context c xs e)

-- an open literal is one of the plain token's
open_header : (c : ℕ) (xs : List ℕ) (kind : PpKind) → (header_or_token (c ∷ xs)).class ≡ OpenLiteral kind → (token_front (c ∷ xs)).class ≡ OpenLiteral kind
unfolding header_or_token
open_header c xs kind = if_cases (λ (f : Front). f.class ≡ OpenLiteral kind → (token_front (c ∷ xs)).class ≡ OpenLiteral kind) (nat_lt 0 (header_size (c ∷ xs)) && not (is_token (token_front (c ∷ xs)).class && nat_lt (header_size (c ∷ xs)) (token_front (c ∷ xs)).size)) _ _ (λ _ k. cc k) (λ _ k. k)

open_token : (context : Context) (c : ℕ) (xs : List ℕ) (kind : PpKind) → (front_token context (c ∷ xs)).class ≡ OpenLiteral kind → (token_front (c ∷ xs)).class ≡ OpenLiteral kind
open_token Include c xs kind e = open_header c xs kind e
open_token Fresh c xs kind e = e
open_token Hash c xs kind e = e
open_token Later c xs kind e = e

open_front : (context : Context) (c : ℕ) (xs : List ℕ) (kind : PpKind) → (first_front context (c ∷ xs)).class ≡ OpenLiteral kind → (token_front (c ∷ xs)).class ≡ OpenLiteral kind
unfolding first_front
open_front context c xs kind =
    let P : Front → Type 0 = λ f. f.class ≡ OpenLiteral kind → (token_front (c ∷ xs)).class ≡ OpenLiteral kind in
    if_cases P (is_line_end c) _ _ (λ _ k. cc k)
    (λ _. if_cases P (is_blank c) _ _ (λ _ k. cc k)
    (λ _. if_cases P (c == 47 && slice_index xs 0 == 47) _ _ (λ _ k. cc k)
    (λ _. if_cases P (c == 47 && slice_index xs 0 == 42) _ _ (λ _ k. comment_class (c ∷ xs) (OpenLiteral kind) k (λ e. cc e) (λ _ e. cc e))
    (λ _. open_token context c xs kind))))

pub open_literal : (context : Context) (cs : List ℕ) (n : ℕ) (kind : PpKind) → n ≤ length cs → (first_front context cs).class ≡ OpenLiteral kind → is_literal (take n cs) ≡ false
unfolding literal_prefix
open_literal context cs zero kind within e = refl
open_literal context [] (suc m) kind within e = absurd (omega (arith, within))
open_literal context (c ∷ xs) (suc m) kind within e = not_true (is_literal (take (suc m) (c ∷ xs)))
    (λ f. clash (token_front (c ∷ xs)).class (open_front context c xs kind e) (literal_by m c xs (literal_prefix (c ∷ take m xs)) refl (prefix_within (c ∷ take m xs)) within f).1)
  where
    clash : (k : Class) → k ≡ OpenLiteral kind → is_token k ≡ true → ⊥
    clash k e f = cc (sym (ap is_token e) ∙ f)

-- an open comment
pub record IsOpenComment (c : ℕ) (xs : List ℕ) : Type 0 where
  pub begins : c == 47 && slice_index xs 0 == 42 ≡ true
  pub open_behind : is_closed (last_state (drop 1 xs) Block) ≡ false

open_class_literal : (cs : List ℕ) (p : ℕ) → (literal_at cs p).class ≡ OpenComment → ⊥
unfolding literal_at
open_class_literal cs p = if_cases (λ (k : Class). k ≡ OpenComment → ⊥) (is_closed (last_state (drop (p + 1) cs) (Text (slice_index cs p)))) _ _ (λ _ e. cc e) (λ _ e. cc e)

open_class_plain : (cs : List ℕ) → (plain_front cs).class ≡ OpenComment → ⊥
unfolding plain_front punctuator_or_stray
open_class_plain cs =
    if_cases (λ (f : Front). f.class ≡ OpenComment → ⊥) (is_nondigit (slice_index cs 0)) _ _ (λ _ k. cc k)
    (λ _. if_cases (λ (f : Front). f.class ≡ OpenComment → ⊥) (is_digit (slice_index cs 0) || (slice_index cs 0 == 46 && is_digit (slice_index cs 1))) _ _ (λ _ k. cc k)
    (λ _. if_cases (λ (f : Front). f.class ≡ OpenComment → ⊥) (nat_lt 0 (punctuator_size cs)) _ _ (λ _ k. cc k) (λ _ k. cc k)))

open_class_by : (cs : List ℕ) (o : Option ℕ) → (literal_or_plain o cs).class ≡ OpenComment → ⊥
open_class_by cs None e = open_class_plain cs e
open_class_by cs (Some p) e = open_class_literal cs p e

open_class_token : (cs : List ℕ) → (token_front cs).class ≡ OpenComment → ⊥
unfolding token_front
open_class_token cs e = open_class_by cs (literal_prefix cs) e

open_class_header : (cs : List ℕ) → (header_or_token cs).class ≡ OpenComment → ⊥
unfolding header_or_token
open_class_header cs = if_cases (λ (f : Front). f.class ≡ OpenComment → ⊥) (nat_lt 0 (header_size cs) && not (is_token (token_front cs).class && nat_lt (header_size cs) (token_front cs).size)) _ _ (λ _ k. cc k) (λ _ k. open_class_token cs k)

open_class_front : (context : Context) (cs : List ℕ) → (front_token context cs).class ≡ OpenComment → ⊥
open_class_front Include cs e = open_class_header cs e
open_class_front Fresh cs e = open_class_token cs e
open_class_front Hash cs e = open_class_token cs e
open_class_front Later cs e = open_class_token cs e

open_comment_is : (context : Context) (c : ℕ) (xs : List ℕ) → (first_front context (c ∷ xs)).class ≡ OpenComment → IsOpenComment c xs
unfolding first_front
open_comment_is context c xs =
    let P : Front → Type 0 = λ f. f.class ≡ OpenComment → IsOpenComment c xs in
    if_cases P (is_line_end c) _ _ (λ _ k. cc k)
    (λ _. if_cases P (is_blank c) _ _ (λ _ k. cc k)
    (λ _. if_cases P (c == 47 && slice_index xs 0 == 47) _ _ (λ _ k. cc k)
    (λ _. if_cases P (c == 47 && slice_index xs 0 == 42) _ _ (λ d k. comment_class (c ∷ xs) OpenComment k (λ e. cc e) (λ f _. record { begins = d; open_behind = f }))
    (λ _ k. absurd (open_class_front context (c ∷ xs) k)))))

closes_open : (m : ℕ) (xs : List ℕ) → m ≤ length xs → slice_index (take m xs) 0 == 42 ≡ true → is_closed (last_state (drop 1 xs) Block) ≡ false → closes (drop 1 (take m xs)) Block ≡ true → ⊥
closes_open zero xs within star open_ e = cc star
closes_open (suc k) [] within star open_ e = omega (arith, within)
closes_open (suc k) (d ∷ ys) within star open_ e =
    let k_is : Closes k ys Block = closes_exactly k ys Block (omega arith) e in
    cc (sym open_ ∙ k_is.closed)

pub open_comment : (context : Context) (cs : List ℕ) (n : ℕ) → n ≤ length cs → (first_front context cs).class ≡ OpenComment → is_comment (take n cs) ≡ false
open_comment context cs zero within e = refl
open_comment context [] (suc m) within e = absurd (omega (arith, within))
open_comment context (c ∷ xs) (suc m) within e =
    let is : IsOpenComment c xs = open_comment_is context c xs e in
    let x0 : ℕ = slice_index (take m xs) 0 in
    let star : slice_index xs 0 == 42 ≡ true = second_part (c == 47) (slice_index xs 0 == 42) is.begins in
    not_true (is_comment (take (suc m) (c ∷ xs)))
    (λ f. elim (either_part (c == 47 && x0 == 47 && accepts (c ∷ take m xs) Line) (c == 47 && x0 == 42 && closes (drop 2 (c ∷ take m xs)) Block) f) as (λ _. ⊥) [
      | inl g ↦ two (slice_index xs 0) star (take_see (λ v. v == 47) refl m xs 0 (second_part (c == 47) (x0 == 47) (first_part (c == 47 && x0 == 47) _ g)))
      | inr g ↦ closes_open m xs (omega (arith, within)) (second_part (c == 47) (x0 == 42) (first_part (c == 47 && x0 == 42) _ g)) is.open_behind (second_part (c == 47 && x0 == 42) _ g)
    ])
  where
    two : (v : ℕ) → v == 42 ≡ true → v == 47 ≡ true → ⊥
    two v e f = grind (arith, common_steps, e, f)
