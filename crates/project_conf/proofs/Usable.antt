-- The definitions of each entry may begin a unit: their names are identifiers, and their bytes are bounded by those of the database.
use Rattle.std.proofs.Common.{◌≡◌, ℕ, zero, suc, ◌+◌, ◌-◌, ◌*◌, ◌≤◌, ◌==◌, Bool, true, false, List, [], ◌∷◌, ◌++◌, length, take, drop, codes, nat_eq, nat_lt, sum_by, Option, Some, None, option_map, option_and_then, unwrap_or, Result, Ok, Err, Ordering, Less, Equal, Greater, if◌then◌else◌, refl, sym, ap, subst, arith, length-append}
use Rattle.std.specs.Prelude.{⊤, ◌≢◌, All, IfOk, IfSome}
use Rattle.std.specs.Char.{encode_utf8}
use Rattle.std.specs.List.{starts_with, position_or_len, AllByRecursion}
use Rattle.std.specs.Ordering.{match_ordering, nat_cmp}
use Rattle.std.specs.Cmp.Lexicographic.{slice_cmp}
use Rattle.std.specs.Str.{chars, chars_after, continuation_len, lead_bits}
use Rattle.std.proofs.lemmas.List.Elements.{All-from_recursion}
use Rattle.std.proofs.lemmas.List.{length-take, length-drop}
use Rattle.std.proofs.lemmas.Bool.{true≢false}
use Rattle.std.specs.Result.{is_ok}
use Rattle.std.proofs.lemmas.List.Sums.{sum_by-append}
use Rattle.c_tokens.specs.Languages.{is_identifier}
use Rattle.serde_json.specs.Data.{Data, null, boolean, number, string, array, object, Items, no_items, item, Members, no_members, member}
use Rattle.serde_json.specs.Find.{get, get_member, as_str, as_array}
use Rattle.serde_json.specs.Read.{read}
use Rattle.project_conf.specs.declared.options.Define.{Define}
use Rattle.project_conf.specs.declared.options.Define.TheVariants as define
use Rattle.project_conf.specs.declared.settings.Gives.{Gives}
use Rattle.project_conf.specs.declared.settings.Gives.TheVariants.{Folder, Set, Unset}
use Rattle.project_conf.specs.declared.parting.Mode.{Mode}
use Rattle.project_conf.specs.declared.parting.Mode.TheVariants.{Plain, Escaped, Single, Double, DoubleEscaped}
use Rattle.project_conf.specs.declared.parting.Act.{Act}
use Rattle.project_conf.specs.declared.parting.Act.TheVariants.{Parts, Turns, Keeps, KeepsBoth}
use Rattle.project_conf.specs.declared.conf.UnitConf.{UnitConf}
use Rattle.project_conf.specs.declared.database.ConfError.{ConfError}
use Rattle.project_conf.specs.declared.database.ConfError.TheVariants.{NoMemory}
use Rattle.project_conf.specs.Defines.{AreUsable, name_of, size_of}
use Rattle.project_conf.specs.Parting.{Parted, step, all_words, in_word, at_end, by_act, parted, words_of}
use Rattle.project_conf.specs.Settings.{Setting, setting, joined, option_or_else, setting_in, by_setting, settings_from, name_in, text_in, defines_by, defines_of, defines_said}
use Rattle.project_conf.specs.Database.{text_at, path_at, texts_in, words_by, words_in, unit_in, unit_of, in_front, numbered, units_from, units_in, units_read, units_of}
use Rattle.project_conf.specs.Weights.{weight, items_weight, members_weight}
use Rattle.project_conf.proofs.Weights.{weight_read}

-- ---- the names

abbrev pub IsNamed : Define → Type 0
IsNamed d = is_identifier (name_of d) ≡ true

named_if : (b : Bool) (d : Define) → (b ≡ true → IsNamed d) → AllByRecursion IsNamed (if b then d ∷ [] else [])
named_if true d h = (h refl, tt)
named_if false d h = tt

named_by : (gives : Gives) (text : List ℕ) → AllByRecursion IsNamed (defines_by gives text)
named_by Folder text = tt
named_by Set text = named_if (is_identifier (name_in text)) (define.Set (name_in text) (text_in text)) (λ h. h)
named_by Unset text = named_if (is_identifier text) (define.Unset text) (λ h. h)

both_named : (ds es : List Define) → AllByRecursion IsNamed ds → AllByRecursion IsNamed es → AllByRecursion IsNamed (ds ++ es)
both_named [] es h k = k
both_named (d ∷ ds) es h k = (h.0, both_named ds es h.1 k)

all_named : (settings : List Setting) → AllByRecursion IsNamed (defines_of settings)
all_named [] = tt
all_named (s ∷ settings) = both_named (defines_by s.gives s.text) (defines_of settings) (named_by s.gives s.text) (all_named settings)

-- ---- the bytes

abbrev words_weight : List (List ℕ) → ℕ
words_weight [] = 0
words_weight (word ∷ words) = 1 + length word + words_weight words

size_if : (b : Bool) (d : Define) (n : ℕ) → size_of d ≤ n → sum_by size_of (if b then d ∷ [] else []) ≤ n
size_if true d n h = omega (arith, h)
size_if false d n h = omega arith

cut : (n : ℕ) (xs : List ℕ) → length (take n xs) + length (drop (n + 1) xs) ≤ length xs
cut n xs = omega (arith, length-take n xs, length-drop (n + 1) xs)

pub split_size : (b : Bool) (n : ℕ) (text : List ℕ) → length (take n text) + length (if b then drop (n + 1) text else codes "1") ≤ 1 + length text
split_size true n text = omega (arith, cut n text)
split_size false n text = omega (arith, length-take n text)

size_by : (gives : Gives) (text : List ℕ) → sum_by size_of (defines_by gives text) ≤ 1 + length text
size_by Folder text = omega arith
size_by Set text =
    let n = position_or_len (λ b. b == 61) text in
    size_if (is_identifier (name_in text)) (define.Set (name_in text) (text_in text)) _ (split_size (nat_lt n (length text)) n text)
size_by Unset text = size_if (is_identifier text) (define.Unset text) _ (omega arith)

-- what is joined to an option is shorter than the word
within_if : (b : Bool) (gives : Gives) (n : ℕ) (word : List ℕ) → IfSome (if b then Some (setting gives (drop n word)) else None) (λ s. length s.text ≤ length word)
within_if true gives n word = omega (arith, length-drop n word)
within_if false gives n word = tt

within_else : (n : ℕ) (o p : Option Setting) → IfSome o (λ s. length s.text ≤ n) → IfSome p (λ s. length s.text ≤ n) → IfSome (option_or_else o p) (λ s. length s.text ≤ n)
within_else n None p h k = k
within_else n (Some s) p h k = h

setting_within : (word : List ℕ) → IfSome (setting_in word) (λ s. length s.text ≤ length word)
unfolding setting_in
setting_within word =
    let one : (gives : Gives) (option : List ℕ) → IfSome (joined gives option word) (λ s. length s.text ≤ length word) = λ gives option. within_if (starts_with nat_eq word option) gives (length option) word in
    within_else _ (joined Folder (codes "-I") word) _ (one Folder (codes "-I"))
    (within_else _ (joined Folder (codes "-iquote") word) _ (one Folder (codes "-iquote"))
    (within_else _ (joined Folder (codes "-isystem") word) _ (one Folder (codes "-isystem"))
    (within_else _ (joined Set (codes "-D") word) _ (one Set (codes "-D")) (one Unset (codes "-U")))))

with_more : (s : Setting) (more : List Setting) (n m : ℕ) → length s.text ≤ n → sum_by size_of (defines_of more) ≤ m → sum_by size_of (defines_of (s ∷ more)) ≤ 1 + n + m
with_more s more n m h k =
    let both : sum_by size_of (defines_by s.gives s.text ++ defines_of more) ≡ sum_by size_of (defines_by s.gives s.text) + sum_by size_of (defines_of more) = sum_by-append size_of (defines_by s.gives s.text) (defines_of more) in
    omega (arith, both, size_by s.gives s.text, h, k)

by_size_if : (b : Bool) (s : Setting) (from : Option Gives → List Setting) (n m : ℕ) → length s.text ≤ n → ((w : Option Gives) → sum_by size_of (defines_of (from w)) ≤ m)
    → sum_by size_of (defines_of (if b then from (Some s.gives) else s ∷ from None)) ≤ 1 + n + m
by_size_if true s from n m h k = omega (arith, k (Some s.gives))
by_size_if false s from n m h k = with_more s (from None) n m h (k None)

by_size : (o : Option Setting) (from : Option Gives → List Setting) (n m : ℕ) → IfSome o (λ s. length s.text ≤ n) → ((w : Option Gives) → sum_by size_of (defines_of (from w)) ≤ m)
    → sum_by size_of (defines_of (by_setting o from)) ≤ 1 + n + m
by_size None from n m h k = omega (arith, k None)
by_size (Some s) from n m h k = by_size_if (length s.text == 0) s from n m h k

settings_size : (words : List (List ℕ)) (waiting : Option Gives) → sum_by size_of (defines_of (settings_from waiting words)) ≤ words_weight words
unfolding settings_from
settings_size [] waiting = omega arith
settings_size (word ∷ words) (Some gives) = with_more (setting gives word) (settings_from None words) (length word) (words_weight words) (omega arith) (settings_size words None)
settings_size (word ∷ words) None = by_size (setting_in word) (λ waiting. settings_from waiting words) (length word) (words_weight words) (setting_within word) (settings_size words)

-- ---- the words of a command

abbrev word_weight : Option (List ℕ) → ℕ
word_weight None = 0
word_weight (Some word) = 1 + length word

abbrev parted_weight : Parted → ℕ
parted_weight p = word_weight p.word + words_weight p.behind

all_weight : (word : Option (List ℕ)) (behind : List (List ℕ)) → words_weight (all_words (record { word = word; behind = behind })) ≡ word_weight word + words_weight behind
all_weight None behind = omega arith
all_weight (Some word) behind = refl

front_weight : (text : List ℕ) (word : Option (List ℕ)) → length (text ++ unwrap_or word []) ≤ length text + word_weight word
front_weight text None = omega (arith, length-append text [])
front_weight text (Some word) = omega (arith, length-append text word)

in_word_weight : (text : List ℕ) (p : Parted) → parted_weight (in_word text p) ≤ 1 + length text + parted_weight p
in_word_weight text p = omega (arith, front_weight text p.word)

four : (c : ℕ) → length (encode_utf8 c) ≤ 4
unfolding encode_utf8
four c = grind arith

act_weight : (act : Act) (c : ℕ) (from : Mode → Parted) (n : ℕ) → ((next : Mode) → parted_weight (from next) ≤ n) → parted_weight (by_act act c from) ≤ 6 + n
act_weight Parts c from n h = omega (arith, h Plain, all_weight (from Plain).word (from Plain).behind)
act_weight (Turns next) c from n h = omega (arith, h next, in_word_weight [] (from next))
act_weight (Keeps next) c from n h = omega (arith, h next, in_word_weight (encode_utf8 c) (from next), four c)
act_weight (KeepsBoth next) c from n h = omega (arith, h next, in_word_weight (92 ∷ encode_utf8 c) (from next), four c)

end_weight : (mode : Mode) → parted_weight (at_end mode) ≤ 2
end_weight Plain = omega arith
end_weight Escaped = omega arith
end_weight Single = omega arith
end_weight Double = omega arith
end_weight DoubleEscaped = omega arith

parted_weighs : (cs : List ℕ) (mode : Mode) → parted_weight (parted mode cs) ≤ 6 * length cs + 2
unfolding parted
parted_weighs [] mode = omega (arith, end_weight mode)
parted_weighs (c ∷ cs) mode = omega (arith, act_weight (step mode c) c (λ next. parted next cs) (6 * length cs + 2) (parted_weighs cs))

chars_after_few : (bs : List ℕ) (n c : ℕ) → length (chars_after n c bs) ≤ 1 + length bs
chars_after_few [] zero c = omega arith
chars_after_few (b ∷ bs) zero c = omega (arith, chars_after_few bs (continuation_len b) (lead_bits b))
chars_after_few [] (suc n) c = omega arith
chars_after_few (b ∷ bs) (suc n) c = omega (arith, chars_after_few bs n (c * 64 + (b - 128)))

chars_few : (bs : List ℕ) → length (chars bs) ≤ length bs
unfolding chars
chars_few [] = omega arith
chars_few (b ∷ bs) = omega (arith, chars_after_few bs (continuation_len b) (lead_bits b))

command_weighs : (command : List ℕ) → words_weight (words_of command) ≤ 6 * length command + 2
command_weighs command =
    let p = parted Plain (chars command) in
    omega (arith, all_weight p.word p.behind, parted_weighs (chars command) Plain, chars_few command)

-- ---- an entry

if_then : {A B : Type 0} (P : A → Type 0) (Q : B → Type 0) (h : A → Option B) → ((a : A) → P a → IfSome (h a) Q) → (o : Option A) → IfSome o P → IfSome (option_and_then h o) Q
if_then P Q h k None x = tt
if_then P Q h k (Some a) x = k a x

if_map : {A B : Type 0} (P : A → Type 0) (Q : B → Type 0) (h : A → B) → ((a : A) → P a → Q (h a)) → (o : Option A) → IfSome o P → IfSome (option_map h o) Q
if_map P Q h k None x = tt
if_map P Q h k (Some a) x = k a x

any : {A : Type 0} (o : Option A) → IfSome o (λ _. ⊤)
any None = tt
any (Some a) = tt

ordered : (o : Ordering) (x y z : Option Data) (n : ℕ) → IfSome x (λ d. weight d ≤ n) → IfSome y (λ d. weight d ≤ n) → IfSome z (λ d. weight d ≤ n) → IfSome (match_ordering o x y z) (λ d. weight d ≤ n)
ordered Less x y z n h k l = h
ordered Equal x y z n h k l = k
ordered Greater x y z n h k l = l

wider : (o : Option Data) (n m : ℕ) → n ≤ m → IfSome o (λ d. weight d ≤ n) → IfSome o (λ d. weight d ≤ m)
wider None n m le h = tt
wider (Some d) n m le h = omega (arith, le, h)

member_weighs : (key : List ℕ) (ms : Members) → IfSome (get_member key ms) (λ d. weight d ≤ members_weight ms)
member_weighs key no_members = tt
member_weighs key (member l e ms) =
    let more = wider (get_member key ms) (members_weight ms) (weight e + members_weight ms) (omega arith) (member_weighs key ms) in
    ordered (slice_cmp nat_cmp key l) (get_member key ms) (Some e) (get_member key ms) _ more (omega arith) more

get_weighs : (key : List ℕ) (d : Data) → IfSome (get key d) (λ e. weight e ≤ weight d)
get_weighs key null = tt
get_weighs key (boolean b) = tt
get_weighs key (number n) = tt
get_weighs key (string s) = tt
get_weighs key (array ds) = tt
get_weighs key (object ms) = wider (get_member key ms) _ _ (omega arith) (member_weighs key ms)

text_weighs : (d : Data) → IfSome (as_str d) (λ s. 1 + length s ≤ weight d)
text_weighs null = tt
text_weighs (boolean b) = tt
text_weighs (number n) = tt
text_weighs (string s) = omega arith
text_weighs (array ds) = tt
text_weighs (object ms) = tt

texts_weigh : (ds : Items) → IfSome (texts_in ds) (λ words. words_weight words ≤ items_weight ds)
texts_weigh no_items = omega arith
texts_weigh (item d ds) =
    if_then (λ s. 1 + length s ≤ weight d) _ (λ text. option_map (λ texts. text ∷ texts) (texts_in ds))
    (λ s h. if_map (λ words. words_weight words ≤ items_weight ds) _ (λ texts. s ∷ texts) (λ words k. omega (arith, h, k)) (texts_in ds) (texts_weigh ds)) (as_str d) (text_weighs d)

array_weighs : (d : Data) → IfSome (as_array d) (λ ds. items_weight ds ≤ weight d)
array_weighs null = tt
array_weighs (boolean b) = tt
array_weighs (number n) = tt
array_weighs (string s) = tt
array_weighs (array ds) = omega arith
array_weighs (object ms) = tt

widen : (o : Option (List (List ℕ))) (n m : ℕ) → n ≤ m → IfSome o (λ words. words_weight words ≤ n) → IfSome o (λ words. words_weight words ≤ m)
widen None n m le h = tt
widen (Some words) n m le h = omega (arith, le, h)

shorter : (o : Option (List ℕ)) (n m : ℕ) → n ≤ m → IfSome o (λ s. 1 + length s ≤ n) → IfSome o (λ s. length s ≤ m)
shorter None n m le h = tt
shorter (Some s) n m le h = omega (arith, le, h)

words_weigh_by : (arguments : Option Data) (command : Option (List ℕ)) (n : ℕ) → IfSome arguments (λ d. weight d ≤ n) → IfSome command (λ s. length s ≤ n) → IfSome (words_by arguments command) (λ words. words_weight words ≤ 6 * n + 2)
words_weigh_by None command n h k = if_map (λ s. length s ≤ n) _ words_of (λ s l. omega (arith, l, command_weighs s)) command k
words_weigh_by (Some d) command n h k =
    if_then (λ ds. items_weight ds ≤ weight d) _ texts_in
    (λ ds l. widen (texts_in ds) _ _ (omega (arith, l, h)) (texts_weigh ds)) (as_array d) (array_weighs d)

words_weigh : (entry : Data) → IfSome (words_in entry) (λ words. words_weight words ≤ 6 * weight entry + 2)
unfolding words_in
words_weigh entry =
    words_weigh_by (get (codes "arguments") entry) (text_at (codes "command") entry) (weight entry) (get_weighs (codes "arguments") entry)
    (if_then (λ d. weight d ≤ weight entry) _ as_str (λ d h. shorter (as_str d) (weight d) (weight entry) h (text_weighs d)) (get (codes "command") entry) (get_weighs (codes "command") entry))

usable_words : (most : ℕ) (words : List (List ℕ)) → words_weight words ≤ most → AreUsable most (defines_said words)
usable_words most words h = record {
  names = All-from_recursion IsNamed (defines_said words) (all_named (settings_from None words));
  size = omega (arith, settings_size words None, h);
}

abbrev IsUsable : ℕ → UnitConf → Type 0
IsUsable most unit = AreUsable most unit.defines

unit_usable : (most : ℕ) (root : List ℕ) (entry : Data) → 6 * weight entry + 2 ≤ most → IfSome (unit_of root entry) (IsUsable most)
unfolding unit_of
unit_usable most root entry le =
    if_then (λ _. ⊤) (IsUsable most) _
    (λ directory x. if_then (λ _. ⊤) (IsUsable most) (λ file. option_map (unit_in directory file) (words_in entry))
    (λ file y. if_map (λ words. words_weight words ≤ 6 * weight entry + 2) (IsUsable most) (unit_in directory file) (λ words h. usable_words most words (omega (arith, h, le))) (words_in entry) (words_weigh entry))
    (path_at directory (codes "file") entry) (any _))
    (path_at root (codes "directory") entry) (any _)

-- ---- all entries

abbrev AllUsable : ℕ → Result (List UnitConf) ConfError → Type 0
AllUsable most (Ok units) = AllByRecursion (IsUsable most) units
AllUsable most (Err e) = ⊤

in_front_usable : (most : ℕ) (unit : UnitConf) (more : Result (List UnitConf) ConfError) → IsUsable most unit → AllUsable most more → AllUsable most (in_front unit more)
in_front_usable most unit (Ok units) h k = (h, k)
in_front_usable most unit (Err e) h k = tt

numbered_usable : (most n : ℕ) (o : Option UnitConf) (more : Result (List UnitConf) ConfError) → IfSome o (IsUsable most) → AllUsable most more → AllUsable most (numbered n o more)
numbered_usable most n None more h k = tt
numbered_usable most n (Some unit) more h k = in_front_usable most unit more h k

entries_usable : (most : ℕ) (root : List ℕ) (n : ℕ) (ds : Items) → 6 * items_weight ds + 2 ≤ most → AllUsable most (units_from root n ds)
unfolding units_from
entries_usable most root n no_items le = tt
entries_usable most root n (item d ds) le =
    numbered_usable most n (unit_of root d) (units_from root (n + 1) ds) (unit_usable most root d (omega (arith, le))) (entries_usable most root (n + 1) ds (omega (arith, le)))

value_usable : (most : ℕ) (root : List ℕ) (d : Data) → 6 * weight d + 2 ≤ most → AllUsable most (units_in root d)
value_usable most root null le = tt
value_usable most root (boolean b) le = tt
value_usable most root (number n) le = tt
value_usable most root (string s) le = tt
value_usable most root (array ds) le = entries_usable most root 0 ds (omega (arith, le))
value_usable most root (object ms) le = tt

read_usable : (most : ℕ) (root text : List ℕ) (o : Option Data) → read text ≡ o → 6 * length text + 2 ≤ most → AllUsable most (units_read root o)
read_usable most root text None e le = tt
read_usable most root text (Some d) e le = value_usable most root d (omega (arith, le, weight_read text d e))

text_usable : (most : ℕ) (root text : List ℕ) → 6 * length text + 2 ≤ most → AllUsable most (units_of root text)
unfolding units_of
text_usable most root text le = read_usable most root text (read text) refl le

all_of : (most : ℕ) (r : Result (List UnitConf) ConfError) → AllUsable most r → IfOk r (λ units. All (IsUsable most) units)
all_of most (Ok units) h = All-from_recursion (IsUsable most) units h
all_of most (Err e) h = tt

same : (most : ℕ) (root text : List ℕ) (r : Result (List UnitConf) ConfError) → (r ≢ Err NoMemory → r ≡ units_of root text) → AllUsable most (units_of root text) → AllUsable most r
same most root text (Ok units) e h = subst (AllUsable most) (sym (e (λ k. true≢false (ap is_ok k)))) h
same most root text (Err x) e h = tt

-- the answer, which is what the definition says or want of memory
pub usable : (root text : List ℕ) (r : Result (List UnitConf) ConfError) → (r ≢ Err NoMemory → r ≡ units_of root text) → length text ≤ 4194304 → IfOk r (λ units. All (λ u. AreUsable 33554432 u.defines) units)
usable root text r e le = all_of 33554432 r (same 33554432 root text r e (text_usable 33554432 root text (omega (arith, le))))
