-- An identifier is read as one token.
use Rattle.std.proofs.Common.{◌≡◌, ℕ, zero, suc, ◌+◌, ◌-◌, Bool, true, false, ◌&&◌, ◌||◌, List, [], ◌∷◌, length, take, refl, ap, ◌∙◌, arith, None, slice_index, bytes_eq, ◌==◌}
use Rattle.std.proofs.lemmas.Grind.{common_steps}
use Rattle.std.proofs.lemmas.List.{take_all}
use Rattle.std.specs.List.{flat_map, list_all, prefix_len}
use Rattle.tok_data.specs.declared.tokens.PpKind.TheVariants.{Ident}
use Rattle.c_tokens.specs.declared.logical.Unit.TheVariants.{Plain}
use Rattle.c_tokens.specs.declared.pieces.Class.TheVariants.{Token}
use Rattle.c_tokens.specs.declared.pieces.Context.TheVariants.{Fresh}
use Rattle.c_tokens.specs.declared.classes.State.TheVariants.{Word}
use Rattle.c_tokens.specs.Cut.{cut}
use Rattle.c_tokens.specs.Logical.{Character, codes_of, first_unit, first_source, backslash_width, begins_trigraph, continues, characters}
use Rattle.c_tokens.specs.Classes.{run, next_state, is_nondigit, is_word_part}
use Rattle.c_tokens.specs.Languages.{is_identifier}
use Rattle.c_tokens.specs.Pieces.{Piece, pieces, after_piece, front_of, first_front, token_front, literal_prefix, plain_front, is_quote, is_prefix, spelling}
use Rattle.c_tokens.specs.Lexed.{token_of, lexed}
use Rattle.c_tokens.specs.Laws.{whole_token}
use Rattle.c_tokens.proofs.LongestLemmas.{first_part, second_part}
use Rattle.c_tokens.proofs.ClosedPieces.{closed_text, pieces_past}

run_word : (w : List ℕ) → list_all is_word_part w ≡ true → run w Word ≡ length w
unfolding next_state
run_word [] e = refl
run_word (c ∷ w) e =
    let first : is_word_part c ≡ true = first_part (is_word_part c) (list_all is_word_part w) e in
    let more : run w Word ≡ length w = run_word w (second_part (is_word_part c) (list_all is_word_part w) e) in
    rw first (omega (arith, more))

-- each character is one byte of the text
abbrev singles : ℕ → List ℕ → List Character
singles at [] = []
singles at (b ∷ bs) = (record { spelling = b ∷ []; from = at; own = at; to = at + 1 }) ∷ singles (at + 1) bs

codes_of_singles : (at : ℕ) (w : List ℕ) → codes_of (singles at w) ≡ w
codes_of_singles at [] = refl
codes_of_singles at (b ∷ w) = ap (λ (xs : List ℕ). b ∷ xs) (codes_of_singles (at + 1) w)

spelling_of_singles : (at : ℕ) (w : List ℕ) → spelling (singles at w) ≡ w
spelling_of_singles at [] = refl
spelling_of_singles at (b ∷ w) = ap (λ (xs : List ℕ). b ∷ xs) (spelling_of_singles (at + 1) w)

length_of_singles : (at : ℕ) (w : List ℕ) → length (singles at w) ≡ length w
length_of_singles at [] = refl
length_of_singles at (b ∷ w) = omega (arith, length_of_singles (at + 1) w)

no_backslash : (b : ℕ) (w : List ℕ) → is_word_part b ≡ true → backslash_width (b ∷ w) ≡ 0
unfolding backslash_width begins_trigraph
no_backslash b w e =
    let other : b == 92 ≡ false = grind (arith, common_steps, e) in
    let mark : b == 63 ≡ false = grind (arith, common_steps, e) in
    rw (other, mark) refl

no_trigraph : (b : ℕ) (w : List ℕ) → is_word_part b ≡ true → begins_trigraph (b ∷ w) ≡ false
unfolding begins_trigraph
no_trigraph b w e = let mark : b == 63 ≡ false = grind (arith, common_steps, e) in rw mark refl

no_more : (w : List ℕ) → list_all is_word_part w ≡ true → prefix_len continues w ≡ 0
no_more [] e = refl
no_more (c ∷ w) e =
    let first : is_word_part c ≡ true = first_part (is_word_part c) (list_all is_word_part w) e in
    let stops : continues c ≡ false = grind (arith, common_steps, first) in
    rw stops refl

first_word_unit : (b : ℕ) (w : List ℕ) → is_word_part b ≡ true → list_all is_word_part w ≡ true → first_unit (b ∷ w) ≡ Plain 1
unfolding first_unit
first_word_unit b w e more = rw (no_backslash b w e, no_trigraph b w e) (ap (λ n. Plain (1 + n)) (no_more w more))

word_characters : (at : ℕ) (w : List ℕ) → list_all is_word_part w ≡ true → characters at at (cut first_source (λ s. s.width) 0 w) ≡ singles at w
word_characters at [] e = refl
word_characters at (b ∷ w) e =
    let first : is_word_part b ≡ true = first_part (is_word_part b) (list_all is_word_part w) e in
    let more : list_all is_word_part w ≡ true = second_part (is_word_part b) (list_all is_word_part w) e in
    rw (first_word_unit b w first more) (ap (λ (cs : List Character). (record { spelling = b ∷ []; from = at; own = at; to = at + 1 }) ∷ cs) (word_characters (at + 1) w more))

-- what stands at the front
no_quote : (w : List ℕ) → list_all is_word_part w ≡ true → (k : ℕ) → is_quote (slice_index w k) ≡ false
no_quote [] e k = refl
no_quote (c ∷ w) e zero = let first : is_word_part c ≡ true = first_part (is_word_part c) (list_all is_word_part w) e in grind (arith, common_steps, first)
no_quote (c ∷ w) e (suc k) = no_quote w (second_part (is_word_part c) (list_all is_word_part w) e) k

no_double_quote : (c : ℕ) → is_quote c ≡ false → c == 34 ≡ false
no_double_quote c e = grind (arith, common_steps, e)

and_false : (a b : Bool) → b ≡ false → a && b ≡ false
and_false true b e = e
and_false false b e = refl

no_literal : (w : List ℕ) → list_all is_word_part w ≡ true → literal_prefix w ≡ None
unfolding literal_prefix
no_literal w e = rw (
  no_quote w e 0,
  and_false (is_prefix (slice_index w 0)) (is_quote (slice_index w 1)) (no_quote w e 1),
  and_false (slice_index w 0 == 117 && slice_index w 1 == 56) (slice_index w 2 == 34) (no_double_quote (slice_index w 2) (no_quote w e 2)),
) refl

word_token : (w : List ℕ) → is_nondigit (slice_index w 0) ≡ true → list_all is_word_part w ≡ true → token_front w ≡ record { class = Token Ident; size = length w }
unfolding token_front plain_front
word_token w starts e = rw (no_literal w e, starts, run_word w e) refl

word_first : (b : ℕ) (w : List ℕ) → is_nondigit b ≡ true → list_all is_word_part (b ∷ w) ≡ true → first_front Fresh (b ∷ w) ≡ record { class = Token Ident; size = length (b ∷ w) }
unfolding first_front
word_first b w starts e =
    let line : b == 10 || b == 13 ≡ false = grind (arith, common_steps, starts) in
    let blank : b == 32 || b == 9 || b == 11 || b == 12 ≡ false = grind (arith, common_steps, starts) in
    let slash : b == 47 ≡ false = grind (arith, common_steps, starts) in
    rw (line, blank, slash) (word_token (b ∷ w) starts e)

no_mark : (b : ℕ) → is_nondigit b ≡ true → bytes_eq (b ∷ []) (0xEF ∷ 0xBB ∷ 0xBF ∷ []) ≡ false
no_mark b e = let other : b == 0xEF ≡ false = grind (arith, common_steps, e) in rw other refl

word_front : (b : ℕ) (w : List ℕ) → is_nondigit b ≡ true → list_all is_word_part (b ∷ w) ≡ true
    → front_of Fresh (record { spelling = b ∷ []; from = 0; own = 0; to = 1 }) (singles 1 w) ≡ record { class = Token Ident; size = length (b ∷ w) }
word_front b w starts e = rw (no_mark b starts, codes_of_singles 1 w) (word_first b w starts e)

one_token : (word text : List ℕ) (ps : List Piece) → word ≡ text → ps ≡ []
    → (record { kind = Ident; spelling = word; space_before = false; line_start = true }) ∷ flat_map token_of ps ≡ whole_token text ∷ []
one_token word text ps e none = rw (e, none) refl

word_tokens : (b : ℕ) (w : List ℕ) → is_nondigit b ≡ true → list_all is_word_part (b ∷ w) ≡ true → flat_map token_of (pieces Fresh false 0 (singles 0 (b ∷ w))) ≡ whole_token (b ∷ w) ∷ []
word_tokens b w starts e =
    let own : List Character = take (length (b ∷ w)) (singles 0 (b ∷ w)) in
    let whole : own ≡ singles 0 (b ∷ w) = take_all (length (b ∷ w)) (singles 0 (b ∷ w)) (omega (arith, length_of_singles 0 (b ∷ w))) in
    let word : spelling own ≡ b ∷ w = ap spelling whole ∙ spelling_of_singles 0 (b ∷ w) in
    let ps : List Piece = pieces (after_piece (Token Ident) Fresh (spelling own)) false (length (b ∷ w) - 1) (singles 1 w) in
    let none : ps ≡ [] = pieces_past (after_piece (Token Ident) Fresh (spelling own)) false (length (b ∷ w) - 1) (singles 1 w) (omega (arith, length_of_singles 1 w)) in
    rw (word_front b w starts e) (one_token (spelling own) (b ∷ w) ps word none)

pub identifier_token : (text : List ℕ) → is_identifier text ≡ true → (lexed text).tokens ≡ whole_token text ∷ []
identifier_token [] e = cc e
identifier_token (b ∷ w) e =
    let starts : is_nondigit b ≡ true = first_part (is_nondigit b) (list_all is_word_part (b ∷ w)) e in
    let parts : list_all is_word_part (b ∷ w) ≡ true = second_part (is_nondigit b) (list_all is_word_part (b ∷ w)) e in
    (closed_text (b ∷ w)).same_tokens ∙ rw (word_characters 0 (b ∷ w) parts) (word_tokens b w starts parts)
