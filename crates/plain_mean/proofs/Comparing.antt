-- Texts that changed, and what is asked about them.
use Rattle.std.proofs.Common.{◌≡◌, ℕ, Bool, true, false, not, cond, ◌&&◌, ◌||◌, List, [], ◌∷◌, Option, Some, None, is_some, unwrap_or, bytes_eq, nat_cmp, refl, sym, ap, ap₂, ◌∙◌}
use Rattle.std.specs.BTreeMap as tree
use Rattle.std.specs.BTreeMap.{BTreeMap, is_at}
use Rattle.std.specs.Cmp.Lexicographic.{slice_cmp}
use Rattle.std.specs.FinMap.{get, keys, contains_key-keys}
use Rattle.std.specs.List.{filter, list_any}
use Rattle.std.specs.Option.{option_map_or}
use Rattle.std.specs.Ordering.{eq_by_cmp}
use Rattle.std.proofs.lemmas.Map.Text.{is_eq-slice_cmp}
use Rattle.std.proofs.lemmas.Slice.Eq.{bytes_eq-Decides}
use Rattle.tok_data.specs.declared.tokens.PpToken.{PpToken}
use Rattle.c_tokens.specs.Lexed.{lexed}
use Rattle.doc_texts.specs.Prior.{Prior, is_changed, text_before}
use Rattle.doc_texts.specs.Texts.{Texts, text_at, same_text}
use Rattle.include_units.specs.Coming.{question}
use Rattle.include_units.specs.declared.types.Want.{Want}
use Rattle.include_units.specs.declared.types.Want.TheVariants as want
use Rattle.include_units.specs.Files.{Question, Text, Lines}
use Rattle.plain_mean.specs.Given.{text_in}
use Rattle.plain_mean.specs.Renewed.{differs, has_other_by, path_of}
use Rattle.plain_mean.specs.Same.{same_tokens}
use Rattle.plain_mean.proofs.Keys.{updated}
use Rattle.plain_mean.proofs.Sameness.{no_other, not_false, text_is}

-- ---- which paths changed

and_false : (b : Bool) → (b && false) ≡ false
and_false true = refl
and_false false = refl

passed_by : (f : List ℕ → Bool) (q p : List ℕ) (e b any : Bool) (rest : List (List ℕ)) → bytes_eq q p ≡ e → f p ≡ b → list_any (bytes_eq q) rest ≡ (any && f q) →
    list_any (bytes_eq q) (cond b (p ∷ rest) rest) ≡ ((e || any) && f q)
passed_by f q p true true any rest same is more =
    ap (λ x. x || list_any (bytes_eq q) rest) same ∙ sym (ap f ((bytes_eq-Decides q p).0 same) ∙ is)
passed_by f q p true false any rest same is more =
    let none : f q ≡ false = ap f ((bytes_eq-Decides q p).0 same) ∙ is in more ∙ ap (λ x. any && x) none ∙ and_false any ∙ sym none
passed_by f q p false true any rest same is more = ap (λ x. x || list_any (bytes_eq q) rest) same ∙ more
passed_by f q p false false any rest same is more = more

any_passed : (f : List ℕ → Bool) (q : List ℕ) (paths : List (List ℕ)) → list_any (bytes_eq q) (filter f paths) ≡ (list_any (bytes_eq q) paths && f q)
any_passed f q [] = refl
any_passed f q (p ∷ paths) = passed_by f q p (bytes_eq q p) (f p) (list_any (bytes_eq q) paths) (filter f paths) refl refl (any_passed f q paths)

any_bytes : (q : List ℕ) (paths : List (List ℕ)) → list_any (bytes_eq q) paths ≡ list_any (eq_by_cmp (slice_cmp nat_cmp) q) paths
any_bytes q paths = λ i. list_any (λ k. sym (is_eq-slice_cmp q k) i) paths

has_key : (prior : Prior) (q : List ℕ) → is_some (get prior q) ≡ list_any (bytes_eq q) (keys prior)
has_key prior q = contains_key-keys prior q ∙ sym (any_bytes q (keys prior))

listed_by : (test : Option (List ℕ) → Bool) (kept : Option (Option (List ℕ))) (b : Bool) → is_some kept ≡ b → (b && option_map_or test kept false) ≡ option_map_or test kept false
listed_by test None b is = ap (λ x. x && false) (sym is)
listed_by test (Some text) b is = ap (λ x. x && test text) (sym is)

pub changed_listed : (prior : Prior) (now : Texts) (q : List ℕ) → list_any (bytes_eq q) (filter (is_changed prior now) (keys prior)) ≡ is_changed prior now q
unfolding is_changed
changed_listed prior now q =
    any_passed (is_changed prior now) q (keys prior)
    ∙ listed_by (λ kept. not (same_text kept (text_at now q))) (get prior q) (list_any (bytes_eq q) (keys prior)) (has_key prior q)

-- ---- what changed, and what didn't

kept_same : (kept : Option (Option (List ℕ))) (text : Option (List ℕ)) → option_map_or (λ k. not (same_text k text)) kept false ≡ false → unwrap_or kept text ≡ text
kept_same None text e = refl
kept_same (Some k) text e = text_is k text (not_false _ e)

pub unchanged : (prior : Prior) (now : Texts) (q : List ℕ) → is_changed prior now q ≡ false → text_before prior now q ≡ text_at now q
unfolding is_changed text_before
unchanged prior now q e = kept_same (get prior q) (text_at now q) e

kept_other : (kept : Option (Option (List ℕ))) (text : Option (List ℕ)) → option_map_or (λ k. not (same_text k text)) kept false ≡ true → not (same_text (unwrap_or kept text) text) ≡ true
kept_other None text e = cc e
kept_other (Some k) text e = e

pub none_changed : (prior : Prior) (now : Texts) (q : Question) → is_changed prior now (path_of q) ≡ false → has_other_by prior now q ≡ false
unfolding has_other_by
none_changed prior now q e =
    ap (λ text. differs text (text_at now (path_of q)) q) (unchanged prior now (path_of q) e) ∙ no_other (text_at now (path_of q)) q

pub lines_changed : (prior : Prior) (now : Texts) (path : List ℕ) → is_changed prior now path ≡ true → has_other_by prior now (Lines path) ≡ true
unfolding has_other_by is_changed text_before
lines_changed prior now path e = kept_other (get prior path) (text_at now path) e

pub lines_wanted : (prior : Prior) (now : Texts) (w : Want) (path : List ℕ) → w ≡ want.Lines path → is_changed prior now (path_of (question w)) ≡ true →
    true ≡ has_other_by prior now (question w)
lines_wanted prior now w path is e =
    sym (lines_changed prior now path (sym (ap (λ x. is_changed prior now (path_of (question x))) is) ∙ e)) ∙ ap (λ x. has_other_by prior now (question x)) (sym is)

-- ---- what was compared

abbrev pub AreRight : Prior → Texts → BTreeMap (List ℕ) Bool → Type 0
AreRight prior now others = (path : List ℕ) (other : Bool) → tree.get (slice_cmp nat_cmp) others path ≡ Some other → other ≡ has_other_by prior now (Text path)

pub right_none : (prior : Prior) (now : Texts) (others : BTreeMap (List ℕ) Bool) → ((q : List ℕ) → tree.get (slice_cmp nat_cmp) others q ≡ None) → AreRight prior now others
right_none prior now others none path other found = cc (none path, found)

some_is : (a b : Bool) → Some a ≡ Some b → a ≡ b
some_is a b e = ap (λ o. unwrap_or o a) e

right_by : (prior : Prior) (now : Texts) (path q : List ℕ) (is new : Bool) (old : Option Bool) (other : Bool) → bytes_eq q path ≡ is → new ≡ has_other_by prior now (Text path) →
    (old ≡ Some other → other ≡ has_other_by prior now (Text q)) → cond is (Some new) old ≡ Some other → other ≡ has_other_by prior now (Text q)
right_by prior now path q true new old other same right before found =
    sym (some_is new other found) ∙ right ∙ ap (λ p. has_other_by prior now (Text p)) (sym ((bytes_eq-Decides q path).0 same))
right_by prior now path q false new old other same right before found = before found

pub right_more : (prior : Prior) (now : Texts) (m n : BTreeMap (List ℕ) Bool) (path key : List ℕ) (new : Bool) → AreRight prior now m → new ≡ has_other_by prior now (Text path) → key ≡ path →
    ((q : List ℕ) → tree.get (slice_cmp nat_cmp) n q ≡ cond (is_at (slice_cmp nat_cmp key) q) (Some new) (tree.get (slice_cmp nat_cmp) m q)) → AreRight prior now n
right_more prior now m n path key new are right same put q other found =
    right_by prior now path q (bytes_eq q path) new (tree.get (slice_cmp nat_cmp) m q) other refl right (are q other)
    (ap (λ p. cond (bytes_eq q p) (Some new) (tree.get (slice_cmp nat_cmp) m q)) (sym same) ∙ sym (updated m n key (Some new) put q) ∙ found)

pub tokens_compared : (prior : Prior) (now : Texts) (path : List ℕ) (before after : List PpToken) (other : Bool) → other ≡ not (same_tokens before after) →
    before ≡ (lexed (unwrap_or (text_before prior now path) [])).tokens → after ≡ (lexed (text_in now path)).tokens → other ≡ has_other_by prior now (Text path)
unfolding has_other_by
tokens_compared prior now path before after other is a b = is ∙ ap₂ (λ x y. not (same_tokens x y)) a b
