-- How many files and bytes of texts there are after a change.
use Rattle.std.proofs.Common.{◌≡◌, ℕ, ◌+◌, ◌-◌, Bool, true, false, cond, not, ◌&&◌, ◌||◌, List, [], ◌∷◌, ◌++◌, map, length, Option, Some, None, sum_by, is_some, sym, refl, ap, ◌∙◌, arith, true≢false}
use Rattle.std.specs.Cmp.Lexicographic.{nat_list_cmp_total}
use Rattle.std.specs.FinMap.{get, contains_key, insert, remove, keys, len, entries, empty, get-empty, contains_key-keys, len-entries, len-empty, len-insert, len-remove}
use Rattle.std.specs.List.{list_any}
use Rattle.std.proofs.lemmas.List.{length-map}
use Rattle.std.proofs.lemmas.List.Folds.{list_any-append}
use Rattle.doc_texts.specs.Texts.{PathSet, Texts, OpenText, texts_under, add_all, shown, text_at, marked, paths_of, file_count, byte_count, with_disk, without_disk, with_open, without_open}
use Rattle.doc_texts.specs.Kept.{Counted, files_with, disk_size, open_size}
use Rattle.doc_texts.proofs.Maps.{by_bytes, ties, at_tied, same_at_each, get_put, get_taken, sum_put, sum_taken}

-- ---- the set of paths that have a text

some_or : {X : Type 0} (b : Bool) (x : X) (o : Option X) → is_some (cond b (Some x) o) ≡ (b || is_some o)
some_or true x o = refl
some_or false x o = refl

or_none : (b : Bool) → b ≡ (b || false)
or_none true = refl
or_none false = refl

none_or : {X : Type 0} (b : Bool) (o : Option X) → is_some (cond b None o) ≡ (not b && is_some o)
none_or true o = refl
none_or false o = refl

swap_or : (a b c : Bool) → ((a || b) || c) ≡ (b || (a || c))
swap_or true true c = refl
swap_or true false c = refl
swap_or false b c = refl

pub has_added : (set : PathSet) (paths : List (List ℕ)) (q : List ℕ) → contains_key (add_all set paths) q ≡ (contains_key set q || list_any (ties q) paths)
has_added set [] q = or_none (contains_key set q)
has_added set (p ∷ paths) q =
    has_added (insert set p tt) paths q
    ∙ ap (λ b. b || list_any (ties q) paths) (ap is_some (get_put set p tt q) ∙ some_or (ties q p) tt (get set q))
    ∙ swap_or (ties q p) (contains_key set q) (list_any (ties q) paths)

pub has_mark : (paths : List (List ℕ)) (q : List ℕ) → contains_key (marked paths) q ≡ list_any (ties q) paths
has_mark paths q = has_added empty paths q ∙ ap (λ o. is_some o || list_any (ties q) paths) (get-empty by_bytes q)

either : (document : Option OpenText) (text : Option (List ℕ)) → (is_some text || is_some document) ≡ is_some (shown document text)
either None None = refl
either None (Some text) = refl
either (Some document) None = refl
either (Some document) (Some text) = refl

abbrev pub marks : Texts → PathSet
marks t = marked (keys t.disk ++ keys t.opened)

-- a path is in the set exactly where it has a text
pub held : (t : Texts) (q : List ℕ) → contains_key (marks t) q ≡ is_some (text_at t q)
unfolding text_at
held t q =
    has_mark (keys t.disk ++ keys t.opened) q
    ∙ list_any-append (ties q) (keys t.disk) (keys t.opened)
    ∙ (λ i. sym (contains_key-keys t.disk q) i || sym (contains_key-keys t.opened q) i)
    ∙ either (get t.opened q) (get t.disk q)

same_units : (x y : Option (Unit {0})) → is_some x ≡ is_some y → x ≡ y
same_units None None e = refl
same_units None (Some u) e = absurd (true≢false (sym e))
same_units (Some u) None e = absurd (true≢false e)
same_units (Some u) (Some v) e = refl

pub same_marks : (s u : PathSet) → ((q : List ℕ) → contains_key s q ≡ contains_key u q) → s ≡ u
same_marks s u h = same_at_each s u (λ q. same_units (get s q) (get u q) (h q))

-- paths that are added in two parts
pub add_append : (set : PathSet) (paths more : List (List ℕ)) → add_all (add_all set paths) more ≡ add_all set (paths ++ more)
add_append set [] more = refl
add_append set (p ∷ paths) more = add_append (insert set p tt) paths more

pub paths_listed : (t : Texts) (none some all : PathSet) → none ≡ empty → some ≡ add_all none (keys t.disk) → all ≡ add_all some (keys t.opened) → keys all ≡ paths_of t
unfolding paths_of
paths_listed t none some all a b c = ap keys (c ∙ ap (λ set. add_all set (keys t.opened)) (b ∙ ap (λ set. add_all set (keys t.disk)) a) ∙ add_append empty (keys t.disk) (keys t.opened))

pub files_len : (t : Texts) → file_count t ≡ len (marks t)
unfolding file_count paths_of
files_len t = length-map (entries (marks t)) (λ e. e.0) ∙ sym (len-entries (marks t))

module _ (t u : Texts) (p : List ℕ) where
  files_more : ((q : List ℕ) → is_some (text_at u q) ≡ (ties q p || is_some (text_at t q))) → file_count u ≡ files_with t p
  files_more h =
      let more = same_marks (marks u) (insert (marks t) p tt) (λ q. held u q ∙ h q ∙ ap (λ b. ties q p || b) (sym (held t q)) ∙ sym (ap is_some (get_put (marks t) p tt q) ∙ some_or (ties q p) tt (get (marks t) q))) in
      files_len u ∙ ap len more ∙ len-insert nat_list_cmp_total (marks t) p tt ∙ (λ i. cond (held t p i) (sym (files_len t) i) (sym (files_len t) i + 1))

  files_less : ((q : List ℕ) → is_some (text_at u q) ≡ (not (ties q p) && is_some (text_at t q))) → file_count u ≡ cond (is_some (text_at t p)) (file_count t - 1) (file_count t)
  files_less h =
      let less = same_marks (marks u) (remove (marks t) p) (λ q. held u q ∙ h q ∙ ap (λ b. not (ties q p) && b) (sym (held t q)) ∙ sym (ap is_some (get_taken (marks t) p q) ∙ none_or (ties q p) (get (marks t) q))) in
      files_len u ∙ ap len less ∙ len-remove nat_list_cmp_total (marks t) p ∙ (λ i. cond (held t p i) (sym (files_len t) i - 1) (sym (files_len t) i))

  files_same : ((q : List ℕ) → is_some (text_at u q) ≡ is_some (text_at t q)) → file_count u ≡ file_count t
  files_same h = files_len u ∙ ap len (same_marks (marks u) (marks t) (λ q. held u q ∙ h q ∙ sym (held t q))) ∙ sym (files_len t)

-- ---- files

shown_disk : (b : Bool) (document : Option OpenText) (x : List ℕ) (text : Option (List ℕ)) → is_some (shown document (cond b (Some x) text)) ≡ (b || is_some (shown document text))
shown_disk true None x text = refl
shown_disk true (Some document) x text = refl
shown_disk false document x text = refl

shown_open : (b : Bool) (document : Option OpenText) (d : OpenText) (text : Option (List ℕ)) → is_some (shown (cond b (Some d) document) text) ≡ (b || is_some (shown document text))
shown_open true document d text = refl
shown_open false document d text = refl

pub files_with_disk : (t : Texts) (p x : List ℕ) → file_count (with_disk t p x) ≡ files_with t p
unfolding text_at
files_with_disk t p x = files_more t (with_disk t p x) p (λ q. ap (λ text. is_some (shown (get t.opened q) text)) (get_put t.disk p x q) ∙ shown_disk (ties q p) (get t.opened q) x (get t.disk q))

pub files_with_open : (t : Texts) (p : List ℕ) (d : OpenText) → file_count (with_open t p d) ≡ files_with t p
unfolding text_at
files_with_open t p d = files_more t (with_open t p d) p (λ q. ap (λ document. is_some (shown document (get t.disk q))) (get_put t.opened p d q) ∙ shown_open (ties q p) (get t.opened q) d (get t.disk q))

shown_hid : (b : Bool) (document : Option OpenText) (text : Option (List ℕ)) → (b ≡ true → is_some document ≡ true) → is_some (shown document (cond b None text)) ≡ is_some (shown document text)
shown_hid true (Some document) text h = refl
shown_hid true None text h = absurd (true≢false (sym (h refl)))
shown_hid false document text h = refl

shown_gone : (b : Bool) (document : Option OpenText) (text : Option (List ℕ)) → (b ≡ true → document ≡ None) → is_some (shown document (cond b None text)) ≡ (not b && is_some (shown document text))
shown_gone true document text h = ap (λ d. is_some (shown d None)) (h refl)
shown_gone false document text h = refl

shown_bare : (b : Bool) (document : Option OpenText) (text : Option (List ℕ)) → (b ≡ true → is_some text ≡ true) → is_some (shown (cond b None document) text) ≡ is_some (shown document text)
shown_bare true None text h = refl
shown_bare true (Some document) text h = h refl
shown_bare false document text h = refl

shown_shut : (b : Bool) (document : Option OpenText) (text : Option (List ℕ)) → (b ≡ true → text ≡ None) → is_some (shown (cond b None document) text) ≡ (not b && is_some (shown document text))
shown_shut true document text h = ap is_some (h refl)
shown_shut false document text h = refl

-- a text on disk that goes leaves the path where a document is open
pub files_without_disk_open : (t : Texts) (p : List ℕ) → is_some (get t.opened p) ≡ true → file_count (without_disk t p) ≡ file_count t
unfolding text_at
files_without_disk_open t p is_open = files_same t (without_disk t p) p (λ q. ap (λ text. is_some (shown (get t.opened q) text)) (get_taken t.disk p q) ∙ shown_hid (ties q p) (get t.opened q) (get t.disk q) (λ tie. ap is_some (sym (at_tied t.opened q p tie)) ∙ is_open))

pub files_without_disk : (t : Texts) (p : List ℕ) → get t.opened p ≡ None → is_some (get t.disk p) ≡ true → file_count (without_disk t p) ≡ file_count t - 1
unfolding text_at
files_without_disk t p shut on_disk =
    files_less t (without_disk t p) p (λ q. ap (λ text. is_some (shown (get t.opened q) text)) (get_taken t.disk p q) ∙ shown_gone (ties q p) (get t.opened q) (get t.disk q) (λ tie. sym (at_tied t.opened q p tie) ∙ shut))
    ∙ ap (λ b. cond b (file_count t - 1) (file_count t)) (ap (λ d. is_some (shown d (get t.disk p))) shut ∙ on_disk)

-- a document that goes leaves the path where a text is on disk
pub files_without_open_disk : (t : Texts) (p : List ℕ) → is_some (get t.disk p) ≡ true → file_count (without_open t p) ≡ file_count t
unfolding text_at
files_without_open_disk t p on_disk = files_same t (without_open t p) p (λ q. ap (λ document. is_some (shown document (get t.disk q))) (get_taken t.opened p q) ∙ shown_bare (ties q p) (get t.opened q) (get t.disk q) (λ tie. ap is_some (sym (at_tied t.disk q p tie)) ∙ on_disk))

shown_some : (document : Option OpenText) (text : Option (List ℕ)) → is_some document ≡ true → is_some (shown document text) ≡ true
shown_some None text h = absurd (true≢false (sym h))
shown_some (Some document) text h = refl

pub files_without_open : (t : Texts) (p : List ℕ) → get t.disk p ≡ None → is_some (get t.opened p) ≡ true → file_count (without_open t p) ≡ file_count t - 1
unfolding text_at
files_without_open t p gone is_open =
    files_less t (without_open t p) p (λ q. ap (λ document. is_some (shown document (get t.disk q))) (get_taken t.opened p q) ∙ shown_shut (ties q p) (get t.opened q) (get t.disk q) (λ tie. sym (at_tied t.disk q p tie) ∙ gone))
    ∙ ap (λ b. cond b (file_count t - 1) (file_count t)) (shown_some (get t.opened p) (get t.disk p) is_open)

-- ---- bytes

pub bytes_with_disk : (t : Texts) (p x : List ℕ) → byte_count (with_disk t p x) + disk_size t p ≡ byte_count t + length x
unfolding byte_count
bytes_with_disk t p x = let put = sum_put length t.disk p x in omega (arith, put)

pub bytes_with_open : (t : Texts) (p : List ℕ) (d : OpenText) → byte_count (with_open t p d) + open_size t p ≡ byte_count t + length d.text
unfolding byte_count
bytes_with_open t p d = let put = sum_put (λ document. length document.text) t.opened p d in omega (arith, put)

pub bytes_without_disk : (t : Texts) (p : List ℕ) → byte_count (without_disk t p) + disk_size t p ≡ byte_count t
unfolding byte_count
bytes_without_disk t p = let taken = sum_taken length t.disk p in omega (arith, taken)

pub bytes_without_open : (t : Texts) (p : List ℕ) → byte_count (without_open t p) + open_size t p ≡ byte_count t
unfolding byte_count
bytes_without_open t p = let taken = sum_taken (λ document. length document.text) t.opened p in omega (arith, taken)

-- ---- no texts

none_there : {A : Type 0} (es : List A) → length es ≡ 0 → es ≡ []
none_there [] e = refl
none_there (x ∷ es) e = absurd (omega arith)

nothing_in : (X : Type 0) → entries (empty {X = X} {R = by_bytes}) ≡ []
nothing_in X = none_there (entries (empty {X = X} {R = by_bytes})) (sym (len-entries (empty {X = X} {R = by_bytes})) ∙ len-empty by_bytes X)

pub no_files : (root : Option (List ℕ)) → file_count (texts_under root) ≡ 0
unfolding file_count paths_of
no_files root = (λ i. length (keys (marked (map (λ e. e.0) (nothing_in (List ℕ) i) ++ map (λ e. e.0) (nothing_in OpenText i))))) ∙ ap (λ es. length (map (λ e. e.0) es)) (nothing_in (Unit {0}))

pub no_bytes : (root : Option (List ℕ)) → byte_count (texts_under root) ≡ 0
unfolding byte_count
no_bytes root = λ i. sum_by length (map (λ e. e.1) (nothing_in (List ℕ) i)) + sum_by (λ document. length document.text) (map (λ e. e.1) (nothing_in OpenText i))

pub nothing_counted : (root : Option (List ℕ)) → Counted (texts_under root) 0 0
nothing_counted root = record { counted = sym (no_files root); summed = sym (no_bytes root) }
