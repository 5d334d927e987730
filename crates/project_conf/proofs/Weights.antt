-- A JSON value weighs no more than the text from which it is read: each string weighs its bytes and one more, every other value one and
-- what it holds.
use Rattle.std.proofs.Common.{◌≡◌, ℕ, zero, suc, ◌+◌, ◌≤◌, List, [], ◌∷◌, length, Option, Some, None, option_map, option_and_then, Ordering, Less, Equal, Greater, Bool, true, false, cond, ◌==◌, refl, subst, arith, map, ◌-◌, ◌&&◌, take, drop, nat_eq}
use Rattle.std.proofs.lemmas.Option.{same_Some, none-some}
use Rattle.serde_json.specs.Find.{as_array}
use Rattle.serde_json.specs.View.{view, items_of}
use Rattle.serde_json.specs.declared.value.Value.{Value}
use Rattle.std.specs.Prelude.{⊤}
use Rattle.std.specs.Ordering.{match_ordering}
use Rattle.json.specs.Token.{Token}
use Rattle.json.specs.Json as json
use Rattle.json.specs.Text.{content, plain}
use Rattle.json.specs.Word.{word, literal, number_before, after_number, head, ends_word}
use Rattle.json.specs.Lex.{Lexeme, token, comma, colon, Class, quote, backslash, operator, space, other, class, operator_lexeme, string_token, Mode, between, in_word, in_string, in_escape, lex_byte, lex, Place, fresh, after_value, after_comma, after_key, begins_colon, if_allowed, place_token, punctuate, tokens}
use Rattle.json.specs.Ascii as ascii
use Rattle.std.specs.List.{starts_with}
use Rattle.json.specs.Align.{span_byte, span}
use Rattle.project_conf.proofs.Contents.{AtMost, content-span}
use Rattle.project_conf.specs.Weights.{weight, items_weight, members_weight}
use Rattle.serde_json.specs.Data.{Data, null, boolean, number, string, array, object, Items, item, Members, no_members, member, put}
use Rattle.serde_json.specs.Read.{number_of, of_json, of_items, of_members, max_depth, read}

-- ---- weights of what stands between text and value

abbrev mutual
  json_weight : json.Json → ℕ
  json_weight json.null = 1
  json_weight (json.boolean b) = 1
  json_weight (json.number s) = 1
  json_weight (json.string s) = 1 + length s
  json_weight (json.array js) = 1 + json_items js
  json_weight (json.object ms) = 1 + json_members ms

  json_items : json.Items → ℕ
  json_items json.no_items = 0
  json_items (json.item j js) = json_weight j + json_items js

  json_members : json.Members → ℕ
  json_members json.no_members = 0
  json_members (json.member k j ms) = json_weight j + json_members ms

abbrev token_weight : Token → ℕ
token_weight Token.begin_object = 1
token_weight Token.end_object = 1
token_weight Token.begin_array = 1
token_weight Token.end_array = 1
token_weight (Token.key s) = 1
token_weight (Token.string s) = 1 + length s
token_weight (Token.number s) = 1
token_weight (Token.boolean b) = 1
token_weight Token.null = 1
token_weight Token.bad = 0

abbrev tokens_weight : List Token → ℕ
tokens_weight [] = 0
tokens_weight (t ∷ ts) = token_weight t + tokens_weight ts

abbrev lexeme_weight : Lexeme → ℕ
lexeme_weight (token t) = token_weight t
lexeme_weight comma = 1
lexeme_weight colon = 1

abbrev lexemes_weight : List Lexeme → ℕ
lexemes_weight [] = 0
lexemes_weight (l ∷ ls) = lexeme_weight l + lexemes_weight ls

-- ---- from bytes to lexemes: what is left of the string in which a place is isn't weighed again

string_weight : (n : ℕ) (o : Option (List ℕ)) → AtMost n o → token_weight (string_token o) ≤ 1 + n
string_weight n None h = omega arith
string_weight n (Some s) h = omega (arith, h)

-- a word is no string
word_both : (b : Bool) (x y : Token) → token_weight x ≤ 1 → token_weight y ≤ 1 → token_weight (cond b x y) ≤ 1
word_both true x y h k = h
word_both false x y h k = k

number_weight : (text : List ℕ) (o : Option (List ℕ)) → token_weight (number_before text o) ≤ 1
number_weight text None = omega arith
number_weight text (Some rest) = word_both (ends_word rest) (Token.number (take (length text - length rest) text)) Token.bad (omega arith) (omega arith)

literal_weight : (name : List ℕ) (t : Token) (text : List ℕ) → token_weight t ≤ 1 → token_weight (literal name t text) ≤ 1
literal_weight name t text h = word_both (starts_with nat_eq text name && ends_word (drop (length name) text)) t Token.bad h (omega arith)

word_weight : (text : List ℕ) → token_weight (word text) ≤ 1
unfolding word
word_weight text =
    let true_at = literal_weight ascii.true_text (Token.boolean true) text (omega arith) in
    let false_at = literal_weight ascii.false_text (Token.boolean false) text (omega arith) in
    let null_at = literal_weight ascii.null_text Token.null text (omega arith) in
    word_both (head text == ascii.lower_t) _ _ true_at (word_both (head text == ascii.lower_f) _ _ false_at (word_both (head text == ascii.lower_n) _ _ null_at (number_weight text (after_number text))))

operators : (a b c d e : Bool) → lexeme_weight (cond a (token Token.begin_object) (cond b (token Token.end_object) (cond c (token Token.begin_array) (cond d (token Token.end_array) (cond e comma colon))))) ≤ 1
operators true b c d e = omega arith
operators false true c d e = omega arith
operators false false true d e = omega arith
operators false false false true e = omega arith
operators false false false false true = omega arith
operators false false false false false = omega arith

operator_weight : (x : ℕ) → lexeme_weight (operator_lexeme x) ≤ 1
operator_weight x = operators (x == ascii.open_brace) (x == ascii.close_brace) (x == ascii.open_bracket) (x == ascii.close_bracket) (x == ascii.comma)

byte_weight : (m : Mode) (c : Class) (x : ℕ) (xs : List ℕ) → ((next : Mode) → lexemes_weight (lex next xs) + span next xs ≤ length xs)
    → lexemes_weight (lex_byte m c x xs (λ next. lex next xs)) + span_byte m c (λ next. span next xs) ≤ 1 + length xs
byte_weight between quote x xs ih = omega (arith, ih in_string, string_weight _ (content plain xs) (content-span plain xs))
byte_weight between backslash x xs ih = omega (arith, ih in_word)
byte_weight between operator x xs ih = omega (arith, ih between, operator_weight x)
byte_weight between space x xs ih = omega (arith, ih between)
byte_weight between other x xs ih = omega (arith, ih in_word, word_weight (x ∷ xs))
byte_weight in_word quote x xs ih = omega (arith, ih in_word)
byte_weight in_word backslash x xs ih = omega (arith, ih in_word)
byte_weight in_word operator x xs ih = omega (arith, ih between, operator_weight x)
byte_weight in_word space x xs ih = omega (arith, ih between)
byte_weight in_word other x xs ih = omega (arith, ih in_word)
byte_weight in_string quote x xs ih = omega (arith, ih between)
byte_weight in_string backslash x xs ih = omega (arith, ih in_escape)
byte_weight in_string operator x xs ih = omega (arith, ih in_string)
byte_weight in_string space x xs ih = omega (arith, ih in_string)
byte_weight in_string other x xs ih = omega (arith, ih in_string)
byte_weight in_escape c x xs ih = omega (arith, ih in_string)

lexed_weight : (xs : List ℕ) (m : Mode) → lexemes_weight (lex m xs) + span m xs ≤ length xs
unfolding lex span
lexed_weight [] m = omega arith
lexed_weight (x ∷ xs) m = omega (arith, byte_weight m (class x) x xs (lexed_weight xs))

-- ---- from lexemes to tokens

allowed : (b : Bool) (t : Token) (k : Place → List Token) (next : Place) (n m : ℕ) → tokens_weight (k next) ≤ n → token_weight t ≤ m → tokens_weight (if_allowed b t k next) ≤ m + n
allowed true t k next n m h e = omega (arith, h, e)
allowed false t k next n m h e = omega arith

placed_weight : (p : Place) (t : Token) (b : Bool) (k : Place → List Token) (n : ℕ) → ((next : Place) → tokens_weight (k next) ≤ n) → tokens_weight (place_token p t b k) ≤ token_weight t + n
placed_weight p Token.begin_object b k n h = allowed _ _ k _ n _ (h _) (omega arith)
placed_weight p Token.end_object b k n h = allowed _ _ k _ n _ (h _) (omega arith)
placed_weight p Token.begin_array b k n h = allowed _ _ k _ n _ (h _) (omega arith)
placed_weight p Token.end_array b k n h = allowed _ _ k _ n _ (h _) (omega arith)
placed_weight p (Token.key s) b k n h = omega arith
placed_weight p (Token.string s) true k n h = allowed _ _ k _ n _ (h _) (omega arith)
placed_weight p (Token.string s) false k n h = allowed _ _ k _ n _ (h _) (omega arith)
placed_weight p (Token.number s) b k n h = allowed _ _ k _ n _ (h _) (omega arith)
placed_weight p (Token.boolean x) b k n h = allowed _ _ k _ n _ (h _) (omega arith)
placed_weight p Token.null b k n h = allowed _ _ k _ n _ (h _) (omega arith)
placed_weight p Token.bad b k n h = omega arith

punctuated_weight : (ls : List Lexeme) (p : Place) → tokens_weight (punctuate p ls) ≤ lexemes_weight ls
unfolding punctuate
punctuated_weight [] fresh = omega arith
punctuated_weight [] after_value = omega arith
punctuated_weight [] after_comma = omega arith
punctuated_weight [] after_key = omega arith
punctuated_weight (token t ∷ ls) fresh = placed_weight fresh t (begins_colon ls) (λ next. punctuate next ls) _ (punctuated_weight ls)
punctuated_weight (token t ∷ ls) after_value = placed_weight after_value t (begins_colon ls) (λ next. punctuate next ls) _ (punctuated_weight ls)
punctuated_weight (token t ∷ ls) after_comma = placed_weight after_comma t (begins_colon ls) (λ next. punctuate next ls) _ (punctuated_weight ls)
punctuated_weight (token t ∷ ls) after_key = placed_weight after_key t (begins_colon ls) (λ next. punctuate next ls) _ (punctuated_weight ls)
punctuated_weight (comma ∷ ls) fresh = omega arith
punctuated_weight (comma ∷ ls) after_value = omega (arith, punctuated_weight ls after_comma)
punctuated_weight (comma ∷ ls) after_comma = omega arith
punctuated_weight (comma ∷ ls) after_key = omega arith
punctuated_weight (colon ∷ ls) fresh = omega arith
punctuated_weight (colon ∷ ls) after_value = omega arith
punctuated_weight (colon ∷ ls) after_comma = omega arith
punctuated_weight (colon ∷ ls) after_key = omega (arith, punctuated_weight ls fresh)

tokens_within : (text : List ℕ) → tokens_weight (tokens text) ≤ length text
tokens_within text = omega (arith, lexed_weight text between, punctuated_weight (lex between text) fresh)

-- ---- from tokens to a value

abbrev Takes : {A : Type 0} → (A → ℕ) → ℕ → Option (A × List Token) → Type 0
Takes f n None = ⊤
Takes f n (Some p) = f p.0 + tokens_weight p.1 ≤ n

abbrev Parses : {A : Type 0} → (A → ℕ) → json.Parse A → Type 0
Parses f p = (ts : List Token) → Takes f (tokens_weight ts) (p ts)

mapped : {A B : Type 0} (f : A → ℕ) (g : B → ℕ) (e n m : ℕ) (h : A → B) → ((a : A) → g (h a) ≤ e + f a) → e + n ≤ m → (o : Option (A × List Token)) → Takes f n o → Takes g m (json.parse_map h o)
mapped f g e n m h k le None x = tt
mapped f g e n m h k le (Some p) x = omega (arith, k p.0, le, x)

and_more : {B : Type 0} (g : B → ℕ) (n : ℕ) (h : json.Json → B → B) → ((j : json.Json) (b : B) → g (h j b) ≡ json_weight j + g b) → (more : json.Parse B) → Parses g more
    → (o : Option (json.Json × List Token)) → Takes json_weight n o → Takes g n (option_and_then (λ q. json.parse_map (h q.0) (more q.1)) o)
and_more g n h is more within None x = tt
and_more g n h is more within (Some q) x = mapped g g (json_weight q.0) (tokens_weight q.1) n (h q.0) (λ b. omega (arith, is q.0 b)) x (more q.1) (within q.1)

array_ended : (ts : List Token) → Takes {A = Unit {0}} (λ _. 0) (tokens_weight ts) (option_map (λ r. (tt, r)) (json.after_end_array ts))
array_ended [] = tt
array_ended (Token.begin_object ∷ ts) = tt
array_ended (Token.end_object ∷ ts) = tt
array_ended (Token.begin_array ∷ ts) = tt
array_ended (Token.end_array ∷ ts) = omega arith
array_ended (Token.key s ∷ ts) = tt
array_ended (Token.string s ∷ ts) = tt
array_ended (Token.number s ∷ ts) = tt
array_ended (Token.boolean b ∷ ts) = tt
array_ended (Token.null ∷ ts) = tt
array_ended (Token.bad ∷ ts) = tt

key_read : Parses (λ _. 0) json.read_key
key_read [] = tt
key_read (Token.begin_object ∷ ts) = tt
key_read (Token.end_object ∷ ts) = omega arith
key_read (Token.begin_array ∷ ts) = tt
key_read (Token.end_array ∷ ts) = tt
key_read (Token.key s ∷ ts) = omega arith
key_read (Token.string s ∷ ts) = tt
key_read (Token.number s ∷ ts) = tt
key_read (Token.boolean b ∷ ts) = tt
key_read (Token.null ∷ ts) = tt
key_read (Token.bad ∷ ts) = tt

at_most : {A : Type 0} (f : A → ℕ) (o : Option (A × List Token)) (n m : ℕ) → n ≤ m → Takes f n o → Takes f m o
at_most f None n m le x = tt
at_most f (Some p) n m le x = omega (arith, le, x)

module _ (p : json.Parse json.Json) (within : Parses json_weight p) where
  item_turn : (more : json.Parse json.Items) → Parses json_items more → (ts : List Token) (o : Option (List Token)) → Takes {A = Unit {0}} (λ _. 0) (tokens_weight ts) (option_map (λ r. (tt, r)) o) → Takes json_items (tokens_weight ts) (json.items_step p more ts o)
  item_turn more again ts (Some r) h = h
  item_turn more again ts None h = and_more json_items _ json.item (λ j b. refl) more again (p ts) (within ts)

  items_parse : (n : ℕ) → Parses json_items (json.items p n)
  unfolding json.items
  items_parse zero ts = tt
  items_parse (suc n) ts = item_turn (json.items p n) (items_parse n) ts (json.after_end_array ts) (array_ended ts)

  member_turn : (more : json.Parse json.Members) → Parses json_members more → (n : ℕ) (o : Option (Option (List ℕ) × List Token)) → Takes (λ _. 0) n o → Takes json_members n (option_and_then (λ q. json.members_step p more q.0 q.1) o)
  member_turn more again n None h = tt
  member_turn more again n (Some (None, s)) h = h
  member_turn more again n (Some (Some k, s)) h = at_most json_members _ (tokens_weight s) n (omega (arith, h)) (and_more json_members _ (json.member k) (λ j b. refl) more again (p s) (within s))

  members_parse : (n : ℕ) → Parses json_members (json.members p n)
  unfolding json.members
  members_parse zero ts = tt
  members_parse (suc n) ts = member_turn (json.members p n) (members_parse n) _ (json.read_key ts) (key_read ts)

one_level : (a : json.Parse json.Items) (o : json.Parse json.Members) → Parses json_items a → Parses json_members o → Parses json_weight (json.value_with a o)
one_level a o p q [] = tt
one_level a o p q (Token.begin_object ∷ ts) = mapped json_members json_weight 1 (tokens_weight ts) _ json.object (λ ms. omega arith) (omega arith) (o ts) (q ts)
one_level a o p q (Token.end_object ∷ ts) = tt
one_level a o p q (Token.begin_array ∷ ts) = mapped json_items json_weight 1 (tokens_weight ts) _ json.array (λ js. omega arith) (omega arith) (a ts) (p ts)
one_level a o p q (Token.end_array ∷ ts) = tt
one_level a o p q (Token.key s ∷ ts) = tt
one_level a o p q (Token.string s ∷ ts) = omega arith
one_level a o p q (Token.number s ∷ ts) = omega arith
one_level a o p q (Token.boolean b ∷ ts) = omega arith
one_level a o p q (Token.null ∷ ts) = omega arith
one_level a o p q (Token.bad ∷ ts) = tt

value_parses : (depth : ℕ) → Parses json_weight (json.value depth)
unfolding json.value
value_parses zero = one_level (λ ts. None) (λ ts. None) (λ ts. tt) (λ ts. tt)
value_parses (suc d) =
    one_level (λ ts. json.items (json.value d) (length ts) ts) (λ ts. json.members (json.value d) (length ts) ts)
    (λ ts. items_parse (json.value d) (value_parses d) (length ts) ts) (λ ts. members_parse (json.value d) (value_parses d) (length ts) ts)

-- ---- from JSON to data

abbrev Weighs : {A : Type 0} → (A → ℕ) → ℕ → Option A → Type 0
Weighs f n None = ⊤
Weighs f n (Some a) = f a ≤ n

weighs_map : {A B : Type 0} (f : A → ℕ) (g : B → ℕ) (m n : ℕ) (h : A → B) → ((a : A) → f a ≤ m → g (h a) ≤ n) → (o : Option A) → Weighs f m o → Weighs g n (option_map h o)
weighs_map f g m n h k None x = tt
weighs_map f g m n h k (Some a) x = k a x

weighs_then : {A B : Type 0} (f : A → ℕ) (g : B → ℕ) (m n : ℕ) (h : A → Option B) → ((a : A) → f a ≤ m → Weighs g n (h a)) → (o : Option A) → Weighs f m o → Weighs g n (option_and_then h o)
weighs_then f g m n h k None x = tt
weighs_then f g m n h k (Some a) x = k a x

weighs_more : {A : Type 0} (f : A → ℕ) (m n : ℕ) (o : Option A) → m ≤ n → Weighs f m o → Weighs f n o
weighs_more f m n None le x = tt
weighs_more f m n (Some a) le x = omega (arith, le, x)

flat : {A : Type 0} (o : Option A) → Weighs (λ _. 0) 0 o
flat None = tt
flat (Some a) = omega arith

ordered : (o : Ordering) (a b c : Members) (n : ℕ) → members_weight a ≤ n → members_weight b ≤ n → members_weight c ≤ n → members_weight (match_ordering o a b c) ≤ n
ordered Less a b c n p q r = p
ordered Equal a b c n p q r = q
ordered Greater a b c n p q r = r

put_weight : (k : List ℕ) (d : Data) (ms : Members) → members_weight (put k d ms) ≤ weight d + members_weight ms
put_weight k d no_members = omega arith
put_weight k d (member l e ms) =
    ordered _ (member k d (member l e ms)) (member l d ms) (member l e (put k d ms)) _ (omega arith) (omega arith) (omega (arith, put_weight k d ms))

mutual
  json_data : (j : json.Json) → Weighs weight (json_weight j) (of_json j)
  json_data json.null = omega arith
  json_data (json.boolean b) = omega arith
  json_data (json.number s) = weighs_map (λ _. 0) weight 0 _ number (λ a x. omega arith) (number_of s) (flat _)
  json_data (json.string s) = omega arith
  json_data (json.array js) = weighs_map items_weight weight (json_items js) _ array (λ a x. omega (arith, x)) _ (items_data js)
  json_data (json.object ms) = weighs_map members_weight weight (json_members ms) _ object (λ a x. omega (arith, x)) _ (weighs_more members_weight _ _ _ (omega arith) (members_data ms no_members))

  items_data : (js : json.Items) → Weighs items_weight (json_items js) (of_items js)
  items_data json.no_items = omega arith
  items_data (json.item j js) =
      weighs_then weight items_weight (json_weight j) _ _ (λ d x. weighs_map items_weight items_weight (json_items js) _ (item d) (λ ds y. omega (arith, x, y)) _ (items_data js)) _ (json_data j)

  members_data : (ms : json.Members) (found : Members) → Weighs members_weight (json_members ms + members_weight found) (of_members ms found)
  members_data json.no_members found = omega arith
  members_data (json.member name j ms) found =
      weighs_then weight members_weight (json_weight j) _ _ (λ d x. weighs_more members_weight _ _ _ (omega (arith, x, put_weight name d found)) (members_data ms (put name d found))) _ (json_data j)

last_weighs : (o : Option (json.Json × List Token)) (n : ℕ) → Takes json_weight n o → Weighs json_weight n (option_and_then (λ p. json.if_last p.0 p.1) o)
last_weighs None n h = tt
last_weighs (Some (j, [])) n h = omega (arith, h)
last_weighs (Some (j, t ∷ r)) n h = tt

read_weighs : (text : List ℕ) → Weighs weight (length text) (read text)
read_weighs text =
    weighs_then json_weight weight (length text) _ of_json (λ j x. weighs_more weight _ _ _ x (json_data j)) _
    (weighs_more json_weight _ _ _ (tokens_within text) (last_weighs _ _ (value_parses max_depth (tokens text))))

pub weight_read : (text : List ℕ) (d : Data) → read text ≡ Some d → weight d ≤ length text
weight_read text d e = subst (Weighs weight (length text)) e (read_weighs text)

-- ---- entries

pub array_weighs : (d : Data) (ds : Items) → as_array d ≡ Some ds → items_weight ds ≤ weight d
array_weighs null ds h = absurd (none-some _ h)
array_weighs (boolean b) ds h = absurd (none-some _ h)
array_weighs (number n) ds h = absurd (none-some _ h)
array_weighs (string s) ds h = absurd (none-some _ h)
array_weighs (array es) ds h = subst (λ x. items_weight x ≤ 1 + items_weight es) (same_Some _ _ h) (omega arith)
array_weighs (object ms) ds h = absurd (none-some _ h)

one_each : (d : Data) → 1 ≤ weight d
one_each null = omega arith
one_each (boolean b) = omega arith
one_each (number n) = omega arith
one_each (string s) = omega arith
one_each (array ds) = omega arith
one_each (object ms) = omega arith

pub entries_weigh : (vs : List Value) → length vs ≤ items_weight (items_of (map view vs))
entries_weigh [] = omega arith
entries_weigh (v ∷ vs) = omega (arith, one_each (view v), entries_weigh vs)
