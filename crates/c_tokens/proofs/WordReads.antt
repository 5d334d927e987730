-- A text that is read as one identifier, spelled as the whole text, is an identifier.
use Rattle.std.proofs.Common.{◌≡◌, ◌≢◌, ℕ, zero, suc, ◌+◌, ◌-◌, ◌<◌, Bool, true, false, ◌&&◌, ◌||◌, List, [], ◌∷◌, ◌++◌, length, take, drop, refl, ap, sym, subst, ◌∙◌, arith, Option, Some, None, slice_index, nat_lt, ◌==◌, IsUtf8, IsCharBoundary}
use Rattle.std.proofs.lemmas.Grind.{common_steps}
use Rattle.std.proofs.lemmas.Str.{IsCharBoundary-after_ascii}
use Rattle.std.specs.List.{flat_map, list_all, prefix_len}
use Rattle.std.specs.Option.{option_map_or}
use Rattle.tok_data.specs.declared.tokens.PpKind.{PpKind}
use Rattle.tok_data.specs.declared.tokens.PpKind.TheVariants.{Ident, Char, Str}
use Rattle.tok_data.specs.declared.tokens.PpToken.{PpToken}
use Rattle.c_tokens.specs.declared.logical.Unit.{Unit as SourceUnit}
use Rattle.c_tokens.specs.declared.logical.Unit.TheVariants.{Removed, Trigraph, Plain}
use Rattle.c_tokens.specs.declared.pieces.Class.{Class}
use Rattle.c_tokens.specs.declared.pieces.Class.TheVariants.{Blank, LineEnd, Comment, OpenComment, Token, OpenLiteral}
use Rattle.c_tokens.specs.declared.pieces.Context.{Context}
use Rattle.c_tokens.specs.declared.pieces.Context.TheVariants.{Fresh}
use Rattle.c_tokens.specs.declared.classes.State.{State}
use Rattle.c_tokens.specs.declared.classes.State.TheVariants.{Word, Block, Text}
use Rattle.c_tokens.specs.Cut.{cut}
use Rattle.c_tokens.specs.Logical.{Character, Source, code, codes_of, first_unit, first_source, source_of, replaced, trigraph, backslash_width, line_end_width, begins_trigraph, is_line_end, continues, characters, characters_of}
use Rattle.c_tokens.specs.Classes.{run, last_state, next_state, is_blank, is_digit, is_nondigit, is_word_part, punctuator_size}
use Rattle.c_tokens.specs.Languages.{is_identifier}
use Rattle.c_tokens.specs.Pieces.{Front, pieces, after_piece, is_space, front_of, first_front, token_front, literal_or_plain, literal_at, literal_kind, literal_prefix, plain_front, punctuator_or_stray, block_comment, is_closed, is_front_mark, spelling}
use Rattle.c_tokens.specs.Lexed.{kind_of, token_by, token_of, lexed}
use Rattle.c_tokens.specs.Laws.{whole_token}
use Rattle.c_tokens.proofs.FrontLemmas.{sized_front, if_cases}
use Rattle.c_tokens.proofs.LongestLemmas.{first_part, second_part}
use Rattle.c_tokens.proofs.ClosedPieces.{closed_text}

-- tokens of which the first stands behind white space
abbrev FirstSpaced : List PpToken → Type 0
FirstSpaced [] = Unit {0}
FirstSpaced (t ∷ ts) = t.space_before ≡ true

spaced_by : (class : Class) (own : List Character) (context : Context) (more : Bool → List PpToken) → FirstSpaced (more true)
    → FirstSpaced (token_by (kind_of class) (record { class = class; characters = own; context = context; spaced = true }) ++ more (is_space class))
spaced_by Blank own context more s = s
spaced_by LineEnd own context more s = s
spaced_by Comment own context more s = s
spaced_by OpenComment own context more s = s
spaced_by (Token kind) own context more s = refl
spaced_by (OpenLiteral kind) own context more s = refl

first_spaced : (context : Context) (skip : ℕ) (cs : List Character) → FirstSpaced (flat_map token_of (pieces context true skip cs))
first_spaced context skip [] = tt
first_spaced context zero (c ∷ cs) =
    let f : Front = front_of context c cs in
    let own : List Character = take f.size (c ∷ cs) in
    spaced_by f.class own context (λ b. flat_map token_of (pieces (after_piece f.class context (spelling own)) b (f.size - 1) cs))
    (first_spaced (after_piece f.class context (spelling own)) (f.size - 1) cs)
first_spaced context (suc skip) (c ∷ cs) = first_spaced context skip cs

-- the first piece of a text that is read as one identifier
record IsTold (class : Class) (own : List Character) (text : List ℕ) : Type 0 where
  pub kind : kind_of class ≡ Some Ident
  pub spelled : spelling own ≡ text

not_spaced : (text : List ℕ) (more : List PpToken) → FirstSpaced more → more ≡ whole_token text ∷ [] → ⊥
not_spaced text [] s e = cc e
not_spaced text (t ∷ ts) s e = cc (s, e)

abbrev first_kind : List PpToken → Option PpKind
first_kind [] = None
first_kind (t ∷ ts) = Some t.kind

abbrev first_spelling : List PpToken → List ℕ
first_spelling [] = []
first_spelling (t ∷ ts) = t.spelling

told : (class : Class) (own : List Character) (text : List ℕ) (more : Bool → List PpToken) → FirstSpaced (more true)
    → token_by (kind_of class) (record { class = class; characters = own; context = Fresh; spaced = false }) ++ more (is_space class) ≡ whole_token text ∷ []
    → IsTold class own text
told Blank own text more s e = absurd (not_spaced text (more true) s e)
told LineEnd own text more s e = absurd (not_spaced text (more true) s e)
told Comment own text more s e = absurd (not_spaced text (more true) s e)
told OpenComment own text more s e = absurd (not_spaced text (more true) s e)
told (Token kind) own text more s e = record { kind = ap first_kind e; spelled = ap first_spelling e }
told (OpenLiteral kind) own text more s e = record { kind = ap first_kind e; spelled = ap first_spelling e }

-- an identifier at the front is a run of word parts
abbrev IsWordFront : List ℕ → Front → Type 0
IsWordFront cs f = kind_of f.class ≡ Some Ident → (is_nondigit (slice_index cs 0) ≡ true) × (f.size ≡ run cs Word)

no_ident : (cs : List ℕ) (f : Front) → kind_of f.class ≢ Some Ident → IsWordFront cs f
no_ident cs f other e = absurd (other e)

literal_no_ident : (quote : ℕ) → Some (literal_kind quote) ≢ Some Ident
literal_no_ident quote = if_cases (λ (k : PpKind). Some k ≢ Some Ident) (quote == 39) Char Str (λ _ e. cc e) (λ _ e. cc e)

literal_front : (cs : List ℕ) (place : ℕ) → IsWordFront cs (literal_at cs place)
unfolding literal_at
literal_front cs place = no_ident cs _ (if_cases (λ (class : Class). kind_of class ≢ Some Ident) (is_closed (last_state (drop (place + 1) cs) (Text (slice_index cs place)))) _ _
    (λ _. literal_no_ident (slice_index cs place)) (λ _. literal_no_ident (slice_index cs place)))

other_front : (cs : List ℕ) → IsWordFront cs (punctuator_or_stray cs)
unfolding punctuator_or_stray
other_front cs = if_cases (IsWordFront cs) (nat_lt 0 (punctuator_size cs)) _ _ (λ _ e. cc e) (λ _ e. cc e)

plain_word_front : (cs : List ℕ) → IsWordFront cs (plain_front cs)
unfolding plain_front
plain_word_front cs = if_cases (IsWordFront cs) (is_nondigit (slice_index cs 0)) _ _ (λ starts _. (starts, refl))
    (λ _. if_cases (IsWordFront cs) (is_digit (slice_index cs 0) || (slice_index cs 0 == 46 && is_digit (slice_index cs 1))) _ _ (λ _ e. cc e) (λ _. other_front cs))

either_front : (cs : List ℕ) (o : Option ℕ) → IsWordFront cs (literal_or_plain o cs)
either_front cs (Some place) = literal_front cs place
either_front cs None = plain_word_front cs

token_word_front : (cs : List ℕ) → IsWordFront cs (token_front cs)
unfolding token_front
token_word_front cs = either_front cs (literal_prefix cs)

block_front : (cs : List ℕ) → IsWordFront cs (block_comment cs)
unfolding block_comment
block_front cs = no_ident cs _ (if_cases (λ (class : Class). kind_of class ≢ Some Ident) (is_closed (last_state (drop 2 cs) Block)) _ _ (λ _ e. cc e) (λ _ e. cc e))

first_word_front : (cs : List ℕ) → IsWordFront cs (first_front Fresh cs)
unfolding first_front
first_word_front cs = if_cases (IsWordFront cs) (is_line_end (slice_index cs 0)) _ _ (λ _ e. cc e)
    (λ _. if_cases (IsWordFront cs) (is_blank (slice_index cs 0)) _ _ (λ _ e. cc e)
    (λ _. if_cases (IsWordFront cs) (slice_index cs 0 == 47 && slice_index cs 1 == 47) _ _ (λ _ e. cc e)
    (λ _. if_cases (IsWordFront cs) (slice_index cs 0 == 47 && slice_index cs 1 == 42) _ _ (λ _. block_front cs)
    (λ _. token_word_front cs))))

word_front_of : (c : Character) (cs : List Character) → IsWordFront (codes_of (c ∷ cs)) (front_of Fresh c cs)
word_front_of c cs = if_cases (IsWordFront (codes_of (c ∷ cs))) (is_front_mark c) _ _ (λ _ e. cc e) (λ _. first_word_front (codes_of (c ∷ cs)))

-- the characters of such a run are word parts by their first bytes
word_codes : (cs : List Character) → list_all is_word_part (codes_of (take (run (codes_of cs) Word) cs)) ≡ true
unfolding next_state
word_codes [] = refl
word_codes (c ∷ cs) = if_cases (λ (o : Option State). list_all is_word_part (codes_of (take (option_map_or (λ next. 1 + run (codes_of cs) next) o 0) (c ∷ cs))) ≡ true) (is_word_part (code c)) _ _
    (λ e. let n : 1 + run (codes_of cs) Word ≡ suc (run (codes_of cs) Word) = omega arith in rw (n, e) (word_codes cs))
    (λ _. refl)

-- a character is a byte and those that continue it
abbrev IsSpelled : List ℕ → Type 0
IsSpelled w = (0 < length w) × (list_all continues (drop 1 w) ≡ true)

abbrev AreSpelled : List Character → Type 0
AreSpelled [] = Unit {0}
AreSpelled (c ∷ cs) = IsSpelled c.spelling × AreSpelled cs

prefix_all : (p : ℕ → Bool) (xs : List ℕ) → list_all p (take (prefix_len p xs) xs) ≡ true
prefix_all p [] = refl
prefix_all p (x ∷ xs) = by_test (p x) refl (prefix_all p xs)
  where
    by_test : (b : Bool) → p x ≡ b → list_all p (take (prefix_len p xs) xs) ≡ true → list_all p (take (prefix_len p (x ∷ xs)) (x ∷ xs)) ≡ true
    by_test true e more = let n : 1 + prefix_len p xs ≡ suc (prefix_len p xs) = omega arith in rw (e, n, e) more
    by_test false e more = rw e refl

-- the width of a plain character
abbrev IsPlain : List ℕ → SourceUnit → Type 0
IsPlain bytes (Plain width) = width ≡ 1 + prefix_len continues (drop 1 bytes)
IsPlain bytes _ = Unit {0}

replaced_plain : (o : Option ℕ) (bytes : List ℕ) → IsPlain bytes (replaced o bytes)
replaced_plain (Some c) bytes = tt
replaced_plain None bytes = refl

first_plain : (bytes : List ℕ) → IsPlain bytes (first_unit bytes)
unfolding first_unit
first_plain bytes = if_cases (IsPlain bytes) (nat_lt 0 (backslash_width bytes) && nat_lt 0 (line_end_width bytes (backslash_width bytes))) _ _ (λ _. tt)
    (λ _. if_cases (IsPlain bytes) (begins_trigraph bytes) _ _ (λ _. replaced_plain (trigraph (slice_index bytes 2)) bytes) (λ _. refl))

unit_spelled : (u : SourceUnit) (b : ℕ) (rest : List ℕ) → IsPlain (b ∷ rest) u → (source_of u (b ∷ rest)).removed ≡ false → IsSpelled (source_of u (b ∷ rest)).spelling
unit_spelled (Removed width) b rest e kept = absurd (cc kept)
unit_spelled (Trigraph c) b rest e kept = (omega arith, refl)
unit_spelled (Plain width) b rest e kept =
    let n : width ≡ suc (prefix_len continues rest) = omega (arith, e) in
    rw n (omega arith, prefix_all continues rest)

all_spelled : (from at skip : ℕ) (bytes : List ℕ) → AreSpelled (characters from at (cut first_source (λ s. s.width) skip bytes))
all_spelled from at skip [] = tt
all_spelled from at zero (b ∷ rest) =
    let s : Source = first_source (b ∷ rest) in
    if_cases AreSpelled s.removed _ _
    (λ _. all_spelled from (at + s.width) (s.width - 1) rest)
    (λ kept. (unit_spelled (first_unit (b ∷ rest)) b rest (first_plain (b ∷ rest)) kept, all_spelled (at + s.width) (at + s.width) (s.width - 1) rest))
all_spelled from at (suc skip) (b ∷ rest) = all_spelled from at skip rest

take_spelled : (n : ℕ) (cs : List Character) → AreSpelled cs → AreSpelled (take n cs)
take_spelled zero cs s = tt
take_spelled (suc n) [] s = tt
take_spelled (suc n) (c ∷ cs) s = (s.0, take_spelled n cs s.1)

-- in UTF-8 no byte continues an ASCII one
abbrev NoneContinues : List ℕ → Type 0
NoneContinues text = (i : ℕ) → i + 1 < length text → slice_index text i < 128 → continues (slice_index text (i + 1)) ≡ false

none_continues : (text : List ℕ) → IsUtf8 text → NoneContinues text
none_continues text utf8 i within ascii =
    let boundary : IsCharBoundary text (i + 1) = IsCharBoundary-after_ascii text i utf8 (omega arith) ascii in
    grind (arith, common_steps, boundary.1 within)

behind_first : (b : ℕ) (text : List ℕ) → NoneContinues (b ∷ text) → NoneContinues text
behind_first b text none i within ascii =
    let e : suc i + 1 ≡ suc (i + 1) = omega arith in
    subst (λ (k : ℕ). continues (slice_index (b ∷ text) k) ≡ false) e (none (suc i) (omega arith) ascii)

word_part_ascii : (b : ℕ) → is_word_part b ≡ true → b < 128
word_part_ascii b e = grind (arith, common_steps, e)

-- a character of a word part is that byte alone
one_byte : (w rest : List ℕ) → IsSpelled w → is_word_part (slice_index w 0) ≡ true → (NoneContinues rest → list_all is_word_part rest ≡ true)
    → NoneContinues (w ++ rest) → list_all is_word_part (w ++ rest) ≡ true
one_byte [] rest s e more none = absurd (omega (arith, s.0))
one_byte (b ∷ []) rest s e more none = rw e (more (behind_first b rest none))
one_byte (b ∷ k ∷ ks) rest s e more none =
    let goes : continues k ≡ true = first_part (continues k) (list_all continues ks) s.1 in
    let stops : continues k ≡ false = none 0 (omega arith) (word_part_ascii b e) in
    absurd (cc (goes, stops))

plain_words : (cs : List Character) → AreSpelled cs → list_all is_word_part (codes_of cs) ≡ true → NoneContinues (spelling cs) → list_all is_word_part (spelling cs) ≡ true
plain_words [] s e none = refl
plain_words (c ∷ cs) s e none = one_byte c.spelling (spelling cs) s.0 (first_part (is_word_part (code c)) (list_all is_word_part (codes_of cs)) e)
    (plain_words cs s.1 (second_part (is_word_part (code c)) (list_all is_word_part (codes_of cs)) e)) none

first_byte : (w rest : List ℕ) → 0 < length w → slice_index (w ++ rest) 0 ≡ slice_index w 0
first_byte [] rest some = absurd (omega arith)
first_byte (b ∷ w) rest some = refl

first_of_some : (n : ℕ) (c : Character) (cs : List Character) → 0 < n → IsSpelled c.spelling → slice_index (spelling (take n (c ∷ cs))) 0 ≡ code c
first_of_some zero c cs some s = absurd (omega arith)
first_of_some (suc n) c cs some s = first_byte c.spelling (spelling (take n cs)) s.0

read_word : (c : Character) (cs : List Character) (text : List ℕ) → AreSpelled (c ∷ cs) → IsUtf8 text → flat_map token_of (pieces Fresh false 0 (c ∷ cs)) ≡ whole_token text ∷ []
    → is_identifier text ≡ true
read_word c cs text s utf8 e =
    let f : Front = front_of Fresh c cs in
    let own : List Character = take f.size (c ∷ cs) in
    let t : IsTold f.class own text = told f.class own text (λ b. flat_map token_of (pieces (after_piece f.class Fresh (spelling own)) b (f.size - 1) cs))
    (first_spaced (after_piece f.class Fresh (spelling own)) (f.size - 1) cs) e in
    let front : (is_nondigit (code c) ≡ true) × (f.size ≡ run (codes_of (c ∷ cs)) Word) = word_front_of c cs t.kind in
    let size : f.size ≡ run (codes_of (c ∷ cs)) Word = front.1 in
    let parts : list_all is_word_part (codes_of own) ≡ true = subst (λ (n : ℕ). list_all is_word_part (codes_of (take n (c ∷ cs))) ≡ true) (sym size) (word_codes (c ∷ cs)) in
    let none : NoneContinues (spelling own) = subst NoneContinues (sym t.spelled) (none_continues text utf8) in
    let words : list_all is_word_part text ≡ true = subst (λ (w : List ℕ). list_all is_word_part w ≡ true) t.spelled (plain_words own (take_spelled f.size (c ∷ cs) s) parts none) in
    let starts : slice_index text 0 ≡ code c = sym (ap (λ (w : List ℕ). slice_index w 0) t.spelled) ∙ first_of_some f.size c cs (sized_front Fresh c cs).some s.0 in
    rw (starts, front.0) words

pub reads_identifier : (cs : List Character) (text : List ℕ) → AreSpelled cs → IsUtf8 text → flat_map token_of (pieces Fresh false 0 cs) ≡ whole_token text ∷ [] → is_identifier text ≡ true
reads_identifier [] text s utf8 e = absurd (cc e)
reads_identifier (c ∷ cs) text s utf8 e = read_word c cs text s utf8 e

pub token_identifier : (text : List ℕ) → IsUtf8 text → (lexed text).tokens ≡ whole_token text ∷ [] → is_identifier text ≡ true
token_identifier text utf8 e = reads_identifier (characters_of text) text (all_spelled 0 0 0 text) utf8 (sym (closed_text text).same_tokens ∙ e)
