-- Ranges as they are collected, and the texts with a name in their place.
use Rattle.std.proofs.Common.{arith, ◌≡◌, ◌≤◌, ◌<◌, ℕ, zero, suc, ◌+◌, Bool, true, false, cond, List, [], ◌∷◌, ◌++◌, append-nil, append_assoc, length, map, filter, Option, Some, None, is_some, unwrap_or, bytes_eq, refl, sym, ap, subst, ◌∙◌}
use Rattle.std.specs.Prelude.{IfSome, IsCharBoundary, option_map}
use Rattle.std.specs.Cmp.Lexicographic.{slice_cmp}
use Rattle.std.specs.List.{AllByRecursion, cons_option, filter_map, slice_get}
use Rattle.std.specs.List.Sorted.{IsStrictlySortedBy}
use Rattle.std.specs.Ordering.{nat_cmp, ordering_reverse, ordering_then}
use Rattle.std.specs.declared.cmp.Ordering.{Ordering}
use Rattle.std.specs.declared.cmp.Ordering.TheVariants.{Less, Equal, Greater}
use Rattle.std.proofs.lemmas.Cmp.{nat_list_cmp_total, ranked}
use Rattle.std.proofs.lemmas.List.{map-append}
use Rattle.std.proofs.lemmas.Slice.Eq.{bytes_eq-Decides}
use Rattle.c_tokens.specs.Laws.{InOrder}
use Rattle.c_tokens.specs.Lexed.{lexed}
use Rattle.doc_texts.specs.Edited.{CanAllBeMade, CanBeMade, Stand, all_made, edited, with_edits}
use Rattle.doc_texts.specs.Limits.{longest_text}
use Rattle.doc_texts.specs.Texts.{PathSet, Texts, add_all, text_at, version_at}
use Rattle.doc_texts.specs.declared.ranges.ByteRange.{ByteRange}
use Rattle.doc_texts.specs.declared.ranges.TextEdits.{TextEdits}
use Rattle.plain_mean.specs.Collected.{Ascend}
use Rattle.plain_mean.specs.Given.{text_in}
use Rattle.plain_mean.specs.Lexing.{IsLexed}
use Rattle.plain_mean.specs.Ranges.{AreShort, Ranges, all_renamed, is_in, numbers_in, plain, range_at, range_by, ranges_at_path, ranges_in, ranges_of, texts_after, tok_cmp, with_ranges}
use Rattle.plain_mean.specs.Shown.{is_unit_of, units}
use Rattle.plain_mean.specs.declared.lexings.LexedText.{LexedText}
use Rattle.project_conf.specs.Entries.{is_unit}
use Rattle.project_conf.specs.declared.conf.Conf.{Conf}
use Rattle.tok_data.specs.declared.sources.TokId.{TokId}
use Rattle.uri_paths.specs.Paths.{path_read}

some_is : {A : Type 0} (x y : A) → Some x ≡ Some y → x ≡ y
some_is x y e = ap (λ o. unwrap_or o x) e

-- ---- numbers

map_by : (f : TokId → ℕ) (t : TokId) (ts : List TokId) (b : Bool) → map f (cond b (t ∷ []) []) ++ map f ts ≡ map f (cond b (t ∷ ts) ts)
map_by f t ts true = refl
map_by f t ts false = refl

numbers_more : (t : TokId) (ts : List TokId) (q : List ℕ) → numbers_in (t ∷ []) q ++ numbers_in ts q ≡ numbers_in (t ∷ ts) q
numbers_more t ts q = map_by (λ t. t.at) t (filter (is_in q) ts) (is_in q t)

pub numbers_turn : (q : List ℕ) (t : TokId) (rest behind : List TokId) (old new all : List ℕ) → rest ≡ t ∷ behind → new ≡ old ++ numbers_in (t ∷ []) q →
    old ++ numbers_in rest q ≡ all → new ++ numbers_in behind q ≡ all
numbers_turn q t rest behind old new all first more is =
    ap (λ x. x ++ numbers_in behind q) more ∙ append_assoc old (numbers_in (t ∷ []) q) (numbers_in behind q)
    ∙ ap (λ x. old ++ x) (numbers_more t behind q) ∙ ap (λ ts. old ++ numbers_in ts q) (sym first) ∙ is

pub numbers_end : (q : List ℕ) (rest : List TokId) (now all : List ℕ) → rest ≡ [] → now ++ numbers_in rest q ≡ all → now ≡ all
numbers_end q rest now all none is = sym (append-nil now) ∙ ap (λ ts. now ++ numbers_in ts q) (sym none) ∙ is

-- one more number of a text, and of the others what there was
added_by : (q file : List ℕ) (t : TokId) (old new here : List ℕ) (b : Bool) → bytes_eq t.file q ≡ b → file ≡ t.file → (file ≡ q → here ≡ old ++ t.at ∷ []) → (bytes_eq q file ≡ true → new ≡ here) →
    (bytes_eq q file ≡ false → new ≡ old) → new ≡ old ++ map (λ t. t.at) (cond b (t ∷ []) [])
added_by q file t old new here true e same put is other =
    let at : file ≡ q = same ∙ (bytes_eq-Decides t.file q).0 e in
    is ((bytes_eq-Decides q file).1 (sym at)) ∙ put at
added_by q file t old new here false e same put is other = other (apart (bytes_eq q file) refl) ∙ sym (append-nil old)
  where
    apart : (c : Bool) → bytes_eq q file ≡ c → c ≡ false
    apart true f =
        let at : q ≡ file = (bytes_eq-Decides q file).0 f in
        let bad : ⊥ = cc (e, (bytes_eq-Decides t.file q).1 (sym (at ∙ same))) in
        absurd bad
    apart false f = refl

pub number_added : (q file : List ℕ) (t : TokId) (old new : List ℕ → List ℕ) (here : List ℕ) → file ≡ t.file → here ≡ old file ++ t.at ∷ [] → new file ≡ here →
    ((q : List ℕ) → bytes_eq q file ≡ false → new q ≡ old q) → new q ≡ old q ++ numbers_in (t ∷ []) q
number_added q file t old new here same put is others =
    added_by q file t (old q) (new q) here (bytes_eq t.file q) refl same
    (λ at. put ∙ ap (λ f. old f ++ t.at ∷ []) at) (λ e. ap new ((bytes_eq-Decides q file).0 e) ∙ is) (others q)

-- ---- ranges

pub ranges_turn : (places : List (ℕ × ℕ)) (at : ℕ) (rest behind : List ℕ) (old new all : List ByteRange) → rest ≡ at ∷ behind → new ≡ old ++ cons_option (range_at places at) [] →
    old ++ filter_map (range_at places) rest ≡ all → new ++ filter_map (range_at places) behind ≡ all
ranges_turn places at rest behind old new all first more is =
    ap (λ x. x ++ filter_map (range_at places) behind) more ∙ append_assoc old (cons_option (range_at places at) []) (filter_map (range_at places) behind)
    ∙ ap (λ x. old ++ x) (cons_front (range_at places at) (filter_map (range_at places) behind)) ∙ ap (λ ns. old ++ filter_map (range_at places) ns) (sym first) ∙ is
  where
    cons_front : {A : Type 0} (o : Option A) (xs : List A) → cons_option o [] ++ xs ≡ cons_option o xs
    cons_front None xs = refl
    cons_front (Some x) xs = refl

-- ---- ranges that stand in a text

record IsPlaced (text : List ℕ) (from : ℕ) (r : ℕ × ℕ) : Type 0 where
  behind : from ≤ r.0
  something : r.0 < r.1
  begins : IsCharBoundary text r.0
  ends : IsCharBoundary text r.1

one : (text : List ℕ) (from limit : ℕ) (ps : List (ℕ × ℕ)) (n : ℕ) (r : ℕ × ℕ) → InOrder text from limit ps → slice_get ps n ≡ Some r → IsPlaced text from r
one text from limit [] n r is e = absurd (let bad : ⊥ = cc e in bad)
one text from limit (p ∷ ps) zero r is e =
    subst (IsPlaced text from) (some_is p r e) (record { behind = is.0; something = is.1; begins = is.2; ends = is.3 })
one text from limit (p ∷ ps) (suc n) r is e =
    let later = one text p.1 limit ps n r is.4 e in
    let far : from ≤ r.0 = (let a : from ≤ p.0 = is.0 in let b : p.0 < p.1 = is.1 in let c : p.1 ≤ r.0 = later.behind in omega (arith, a, b, c)) in
    record { behind = far; something = later.something; begins = later.begins; ends = later.ends }

two : (text : List ℕ) (from limit : ℕ) (ps : List (ℕ × ℕ)) (n m : ℕ) (r q : ℕ × ℕ) → InOrder text from limit ps → n < m → slice_get ps n ≡ Some r → slice_get ps m ≡ Some q → r.1 ≤ q.0
two text from limit [] n m r q is below e f = absurd (let bad : ⊥ = cc e in bad)
two text from limit (p ∷ ps) n zero r q is below e f = absurd (let bad : ⊥ = omega (arith, below) in bad)
two text from limit (p ∷ ps) zero (suc m) r q is below e f = subst (λ x. x.1 ≤ q.0) (some_is p r e) (one text p.1 limit ps m q is.4 f).behind
two text from limit (p ∷ ps) (suc n) (suc m) r q is below e f = two text p.1 limit ps n m r q is.4 (let less : n < m = omega (arith, below) in less) e f

module _ (text : List ℕ) (limit : ℕ) (ps : List (ℕ × ℕ)) (is : InOrder text 0 limit ps) where
  stand_by : (at low n : ℕ) (ns : List ℕ) (o : Option (ℕ × ℕ)) → slice_get ps n ≡ o → low ≤ n → ((m : ℕ) (r : ℕ × ℕ) → low ≤ m → slice_get ps m ≡ Some r → at ≤ r.0) →
      ((at : ℕ) → ((m : ℕ) (r : ℕ × ℕ) → n + 1 ≤ m → slice_get ps m ≡ Some r → at ≤ r.0) → Stand text at (filter_map (range_at ps) ns)) →
      Stand text at (cons_option (option_map range_by o) (filter_map (range_at ps) ns))
  stand_by at low n ns None e le behind further = further at (λ m r more f. behind m r (let far : low ≤ m = omega (arith, le, more) in far) f)
  stand_by at low n ns (Some r) e le behind further =
      let here = one text 0 limit ps n r is e in (
        record { behind = behind n r le e; something = here.something; begins = here.begins; ends = here.ends },
        further r.1 (λ m q more f. two text 0 limit ps n m r q is (let less : n < m = omega (arith, more) in less) e f),
      )

  stand_from : (at low : ℕ) (ns : List ℕ) → Ascend low ns → ((m : ℕ) (r : ℕ × ℕ) → low ≤ m → slice_get ps m ≡ Some r → at ≤ r.0) → Stand text at (filter_map (range_at ps) ns)
  stand_from at low [] up behind = tt
  stand_from at low (n ∷ ns) up behind = stand_by at low n ns (slice_get ps n) refl up.0 behind (λ a h. stand_from a (n + 1) ns up.1 h)

  pub they_stand : (ns : List ℕ) → Ascend 0 ns → Stand text 0 (filter_map (range_at ps) ns)
  they_stand ns up = stand_from 0 0 ns up (λ m r more e. (let none : 0 ≤ r.0 = omega arith in none))

pub can_be_made : (texts : Texts) (path : List ℕ) (l : LexedText) (edits : TextEdits) (ns : List ℕ) → IsLexed (text_in texts path) l → edits.path ≡ path →
    edits.ranges.items ≡ filter_map (range_at (lexed (text_in texts path)).places) ns → AreShort texts → Ascend 0 ns → CanBeMade texts edits
can_be_made texts path l edits ns is named ranged short up = by_text (text_at texts edits.path) refl
  where
    by_text : (o : Option (List ℕ)) → text_at texts edits.path ≡ o → IfSome o (λ text. (length text ≤ longest_text) × Stand text 0 edits.ranges.items)
    by_text None e = tt
    by_text (Some text) e =
        let own : text_in texts path ≡ text = ap (λ p. text_in texts p) (sym named) ∙ ap (λ o. unwrap_or o []) e in (
          subst (λ o. IfSome o (λ text. length text ≤ longest_text)) e (short edits.path),
          subst (λ rs. Stand text 0 rs) (sym ranged)
              (subst (λ t. Stand t 0 (filter_map (range_at (lexed (text_in texts path)).places) ns)) own
              (they_stand (text_in texts path) (length (text_in texts path)) (lexed (text_in texts path)).places is.place_order ns up)),
        )

-- ---- tokens in order

balanced : (r : Ordering) → r ≡ ordering_reverse r → r ≡ Equal
balanced Less e = absurd (let bad : ⊥ = cc e in bad)
balanced Equal e = refl
balanced Greater e = absurd (let bad : ⊥ = cc e in bad)

below : (s t : TokId) → tok_cmp s t ≡ Less → s.file ≡ t.file → s.at < t.at
below s t e same =
    let level : slice_cmp nat_cmp s.file t.file ≡ Equal = ap (slice_cmp nat_cmp s.file) (sym same) ∙ balanced (slice_cmp nat_cmp s.file s.file) (nat_list_cmp_total.antisymm s.file s.file) in
    let less : nat_cmp s.at t.at ≡ Less = sym (ap (λ o. ordering_then o (nat_cmp s.at t.at)) level) ∙ e in
    ranked s.at t.at Less (sym less)

-- the tokens of a file that come behind have numbers from one on
abbrev AreFrom : List ℕ → ℕ → List TokId → Type 0
AreFrom file low ts = AllByRecursion (λ u. bytes_eq u.file file ≡ true → low ≤ u.at) ts

from_next : (file : List ℕ) (t : TokId) (ts : List TokId) → bytes_eq t.file file ≡ true → AllByRecursion (λ u. tok_cmp t u ≡ Less) ts → AreFrom file (t.at + 1) ts
from_next file t [] e less = tt
from_next file t (u ∷ ts) e less = (
  (λ f. (let far : t.at < u.at = below t u less.0 ((bytes_eq-Decides t.file file).0 e ∙ sym ((bytes_eq-Decides u.file file).0 f)) in let next : t.at + 1 ≤ u.at = omega (arith, far) in next)),
  from_next file t ts e less.1,
)

ascend_by : (file : List ℕ) (t : TokId) (ts : List TokId) (low : ℕ) (b : Bool) → bytes_eq t.file file ≡ b → AreFrom file low (t ∷ ts) → AllByRecursion (λ u. tok_cmp t u ≡ Less) ts →
    ((low : ℕ) → AreFrom file low ts → Ascend low (numbers_in ts file)) → Ascend low (map (λ t. t.at) (cond b (t ∷ filter (is_in file) ts) (filter (is_in file) ts)))
ascend_by file t ts low true e from less later = (from.0 e, later (t.at + 1) (from_next file t ts e less))
ascend_by file t ts low false e from less later = later low from.1

ascend_from : (file : List ℕ) (ts : List TokId) (low : ℕ) → IsStrictlySortedBy tok_cmp ts → AreFrom file low ts → Ascend low (numbers_in ts file)
unfolding IsStrictlySortedBy
ascend_from file [] low sorted from = tt
ascend_from file (t ∷ ts) low sorted from = ascend_by file t ts low (is_in file t) refl from sorted.0 (λ l f. ascend_from file ts l sorted.1 f)

from_none : (file : List ℕ) (ts : List TokId) → AreFrom file 0 ts
from_none file [] = tt
from_none file (t ∷ ts) = ((λ e. (let none : 0 ≤ t.at = omega arith in none)), from_none file ts)

pub they_ascend : (file : List ℕ) (ts : List TokId) → IsStrictlySortedBy tok_cmp ts → Ascend 0 (numbers_in ts file)
they_ascend file ts sorted = ascend_from file ts 0 sorted (from_none file ts)

-- ---- paths

add_one : (set : PathSet) (o : Option (List ℕ)) (paths : List (List ℕ)) → add_all (add_all set (cons_option o [])) paths ≡ add_all set (cons_option o paths)
add_one set None paths = refl
add_one set (Some p) paths = refl

pub path_added : (set set' : PathSet) (t : TokId) (p : List ℕ) → Some p ≡ path_read t.file → set' ≡ add_all set (p ∷ []) → set' ≡ add_all set (filter_map (λ t. path_read t.file) (t ∷ []))
path_added set set' t p e is = is ∙ ap (λ o. add_all set (cons_option o [])) e

pub no_path_added : (set : PathSet) (t : TokId) → None ≡ path_read t.file → set ≡ add_all set (filter_map (λ t. path_read t.file) (t ∷ []))
no_path_added set t e = ap (λ o. add_all set (cons_option o [])) e

pub paths_turn : (set set' all : PathSet) (t : TokId) (rest behind : List TokId) → rest ≡ t ∷ behind → set' ≡ add_all set (filter_map (λ t. path_read t.file) (t ∷ [])) →
    add_all set (filter_map (λ t. path_read t.file) rest) ≡ all → add_all set' (filter_map (λ t. path_read t.file) behind) ≡ all
paths_turn set set' all t rest behind first more is =
    ap (λ s. add_all s (filter_map (λ t. path_read t.file) behind)) more ∙ add_one set (path_read t.file) (filter_map (λ t. path_read t.file) behind)
    ∙ ap (λ ts. add_all set (filter_map (λ t. path_read t.file) ts)) (sym first) ∙ is

-- ---- edits

pub edits_turn : (texts : Texts) (toks : List TokId) (path : List ℕ) (rest behind : List (List ℕ)) (old new : List TextEdits) (one : TextEdits) (all : List Ranges) → rest ≡ path ∷ behind →
    new ≡ old ++ one ∷ [] → one.path ≡ path → one.ranges.items ≡ ranges_in texts toks path → map plain old ++ map (ranges_at_path texts toks) rest ≡ all →
    map plain new ++ map (ranges_at_path texts toks) behind ≡ all
edits_turn texts toks path rest behind old new one all first more named ranged is =
    ap (λ es. map plain es ++ map (ranges_at_path texts toks) behind) more
    ∙ ap (λ rs. rs ++ map (ranges_at_path texts toks) behind) (map-append plain old (one ∷ []))
    ∙ append_assoc (map plain old) (plain one ∷ []) (map (ranges_at_path texts toks) behind)
    ∙ (λ i. map plain old ++ (record { path = named i; ranges = ranged i }) ∷ map (ranges_at_path texts toks) behind)
    ∙ ap (λ ps. map plain old ++ map (ranges_at_path texts toks) ps) (sym first) ∙ is

pub edits_end : (texts : Texts) (toks : List TokId) (rest : List (List ℕ)) (now : List TextEdits) (all : List Ranges) → rest ≡ [] → map plain now ++ map (ranges_at_path texts toks) rest ≡ all →
    map plain now ≡ all
edits_end texts toks rest now all none is = sym (append-nil (map plain now)) ∙ ap (λ ps. map plain now ++ map (ranges_at_path texts toks) ps) (sym none) ∙ is

all_and_one : (texts : Texts) (old : List TextEdits) (one : TextEdits) → CanAllBeMade texts old → CanBeMade texts one → CanAllBeMade texts (old ++ one ∷ [])
all_and_one texts [] one all can = (can, tt)
all_and_one texts (e ∷ es) one all can = (all.0, all_and_one texts es one all.1 can)

pub can_turn : (texts : Texts) (old new : List TextEdits) (one : TextEdits) → new ≡ old ++ one ∷ [] → CanAllBeMade texts old → CanBeMade texts one → CanAllBeMade texts new
can_turn texts old new one more all can = subst (CanAllBeMade texts) (sym more) (all_and_one texts old one all can)

-- ---- texts

with_same : (made : Texts) (e : TextEdits) (name : List ℕ) (text : Option (List ℕ)) → with_edits made e name text ≡ with_ranges made (plain e) name text
with_same made e name None = refl
with_same made e name (Some text) = refl

made_same : (texts made : Texts) (edits : List TextEdits) (name : List ℕ) → all_made texts made edits name ≡ all_renamed texts made (map plain edits) name
unfolding all_made all_renamed
made_same texts made [] name = refl
made_same texts made (e ∷ es) name =
    made_same texts (with_edits made e name (text_at texts e.path)) es name
    ∙ ap (λ m. all_renamed texts m (map plain es) name) (with_same made e name (text_at texts e.path))

pub edited_is : (texts : Texts) (edits : List TextEdits) (name : List ℕ) → edited texts edits name ≡ all_renamed texts texts (map plain edits) name
unfolding edited
edited_is texts edits name = made_same texts texts edits name

pub after_is : (texts : Texts) (toks : List TokId) (edits given : List TextEdits) (name : List ℕ) (now : Texts) → now ≡ edited texts given name → given ≡ edits →
    map plain edits ≡ ranges_of texts toks → ((texts : Texts) (edits : List TextEdits) (name : List ℕ) → edited texts edits name ≡ all_renamed texts texts (map plain edits) name) → now ≡ texts_after texts toks name
unfolding texts_after
after_is texts toks edits given name now is same ranged meant =
    is ∙ meant texts given name ∙ ap (λ es. all_renamed texts texts (map plain es) name) same ∙ ap (λ rs. all_renamed texts texts rs name) ranged

pub units_are : (texts now : Texts) (edits : List TextEdits) (name : List ℕ) (conf : Conf) → now ≡ edited texts edits name →
    ((t : Texts) (edits : List TextEdits) (name q : List ℕ) → is_some (text_at (edited t edits name) q) ≡ is_some (text_at t q)) →
    ((t : Texts) (edits : List TextEdits) (name q : List ℕ) → version_at (edited t edits name) q ≡ version_at t q) →
    ((t t' : Texts) (conf : Conf) → ((path : List ℕ) → is_some (text_at t' path) ≡ is_some (text_at t path)) → ((path : List ℕ) → is_unit_of t' conf path ≡ is_unit_of t conf path) → units t' conf ≡ units t conf) →
    units now conf ≡ units texts conf
units_are texts now edits name conf is held version follow =
    follow texts now conf (λ q. ap (λ t. is_some (text_at t q)) is ∙ held texts edits name q)
    (λ q. ap (λ v. is_unit conf.database (is_some v) q) (ap (λ t. version_at t q) is ∙ version texts edits name q))
