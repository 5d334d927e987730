-- The edits of all files, token by token and as one value.
use Rattle.std.proofs.Common.{◌≡◌, ◌≢◌, ℕ, Bool, true, false, cond, not, ◌||◌, ◌&&◌, T, List, [], ◌∷◌, ◌++◌, map, filter, length, codes, Option, Some, None, bytes_eq, is_eq, is_lt, nat_cmp, Ordering, Less, Equal, Greater, sym, refl, ap, ◌∙◌, subst, true≢false, append_assoc}
use Rattle.std.specs.BTreeMap as tree
use Rattle.std.specs.BTreeMap.{BTreeMap, is_at}
use Rattle.std.specs.Cmp.Lexicographic.{slice_cmp, nat_list_cmp_total}
use Rattle.std.specs.FinMap.{find, put, is_sorted, slice_cmp-IsAntisymmetric, nat_cmp-IsAntisymmetric}
use Rattle.std.specs.FinMap.Entries.{below_all, by_order, is_sorted-put, find-put, same_entries}
use Rattle.std.specs.List.{AllByRecursion, list_any}
use Rattle.std.specs.List.Sorted.{IsStrictlySortedBy}
use Rattle.std.specs.Map.{lookup, keys_of}
use Rattle.std.specs.Ordering.{eq_by_cmp, match_ordering}
use Rattle.std.proofs.lemmas.Bool.{false_from_ne_true}
use Rattle.std.proofs.lemmas.Cmp.{tied_itself}
use Rattle.std.proofs.lemmas.List.{append-nil, nil_from_length}
use Rattle.std.proofs.lemmas.Slice.Eq.{bytes_eq-Decides}
use Rattle.serde_json.proofs.OnLiterals.{serde_json_on_literals}
use Rattle.serde_json.specs.Data as json
use Rattle.serde_json.specs.Data.{Members, no_members, member, string}
use Rattle.serde_json.specs.View.{items_of}
use Rattle.serde_json.specs.Written.{compact_text, items_text, members_text, comma_if, has_float}
use Rattle.lsp_answers.specs.Located.{edit_data, listed}
use Rattle.lsp_answers.specs.Renames.{is_in, file_data, by_file, edits_data}
use Rattle.lsp_answers.specs.Ties.Growing.{start_of, grown, files_text}
use Rattle.lsp_answers.specs.declared.located.Located.{Located}

pub edit_has_none : (name : List ℕ) (t : Located) → has_float (edit_data name t) ≡ false
unfolding serde_json_on_literals
edit_has_none name t = refl

-- ---- keys

abbrev pub by_bytes : List ℕ → List ℕ → Ordering
by_bytes = slice_cmp nat_cmp

abbrev pub ties : List ℕ → List ℕ → Bool
ties = eq_by_cmp by_bytes

equal : (o : Ordering) → is_eq o ≡ true → o ≡ Equal
equal Less e = absurd (true≢false (sym e))
equal Equal e = refl
equal Greater e = absurd (true≢false (sym e))

same_key : (q k : List ℕ) → ties q k ≡ true → q ≡ k
same_key q k tie = slice_cmp-IsAntisymmetric nat_cmp-IsAntisymmetric q k (equal _ tie)

tied : (q k : List ℕ) → q ≡ k → ties q k ≡ true
tied q k same = subst (λ p. ties q p ≡ true) same (ap is_eq (tied_itself nat_list_cmp_total q))

untied : (q k : List ℕ) → bytes_eq q k ≡ false → ties q k ≡ false
untied q k apart = false_from_ne_true (ties q k) (λ tie. true≢false (sym ((bytes_eq-Decides q k).1 (same_key q k tie)) ∙ apart))

untied_back : (q k : List ℕ) → bytes_eq q k ≡ false → ties k q ≡ false
untied_back q k apart = false_from_ne_true (ties k q) (λ tie. true≢false (sym ((bytes_eq-Decides q k).1 (sym (same_key k q tie))) ∙ apart))

-- ---- one more token

module _ (name : List ℕ) (t : Located) (m taken n : BTreeMap (List ℕ) (List ℕ)) (k array : List ℕ) (before : Option (List ℕ))
    (key : k ≡ t.uri) (was : before ≡ tree.get by_bytes m t.uri)
    (remove : (q : List ℕ) → tree.get by_bytes taken q ≡ cond (ties t.uri q) None (tree.get by_bytes m q))
    (insert : (q : List ℕ) → tree.get by_bytes n q ≡ cond (ties k q) (Some array) (tree.get by_bytes taken q))
    (is : array ≡ start_of before ++ compact_text (edit_data name t)) where
  put_at : (q : List ℕ) → tree.get by_bytes n q ≡ cond (ties t.uri q) (Some array) (tree.get by_bytes taken q)
  put_at q = insert q ∙ ap (λ p. cond (ties p q) (Some array) (tree.get by_bytes taken q)) key

  grown_by : (uri : List ℕ) (rest : List Located) (b : Bool) → is_in uri t ≡ b → grown name (tree.get by_bytes n uri) rest ≡ grown name (tree.get by_bytes m uri) (cond b (t ∷ rest) rest)
  unfolding grown
  grown_by uri rest true here =
      let same = (bytes_eq-Decides uri t.uri).0 here in
      let there = put_at uri ∙ ap (λ b. cond b (Some array) (tree.get by_bytes taken uri)) (tied t.uri uri (sym same)) in
      let begun = is ∙ ap (λ o. start_of o ++ compact_text (edit_data name t)) (was ∙ ap (tree.get by_bytes m) (sym same)) in
      ap (λ o. grown name o rest) (there ∙ ap Some begun)
  grown_by uri rest false other =
      let apart = untied_back uri t.uri other in
      ap (λ o. grown name o rest)
      (put_at uri ∙ ap (λ b. cond b (Some array) (tree.get by_bytes taken uri)) apart ∙ remove uri ∙ ap (λ b. cond b None (tree.get by_bytes m uri)) apart)

  pub edit_put : (uri : List ℕ) (more : List Located) → grown name (tree.get by_bytes n uri) (filter (is_in uri) more) ≡ grown name (tree.get by_bytes m uri) (filter (is_in uri) (t ∷ more))
  edit_put uri more = grown_by uri (filter (is_in uri) more) (is_in uri t) refl

-- no token is left
pub edits_put : (name uri : List ℕ) (found all : Option (List ℕ)) (rest : List Located) → length rest ≡ 0 → grown name found (filter (is_in uri) rest) ≡ all → found ≡ all
unfolding grown
edits_put name uri found all rest none so_far = ap (λ ts. grown name found (filter (is_in uri) ts)) (sym (nil_from_length rest none)) ∙ so_far

-- ---- the text of an array

module _ (name : List ℕ) where
  abbrev elements : Bool → List Located → List ℕ
  elements later [] = []
  elements later (t ∷ ts) = comma_if later ++ (compact_text (edit_data name t) ++ elements true ts)

  abbrev opened : List Located → List ℕ
  opened ts = codes "[" ++ elements false ts

  elements_close : (later : Bool) (ts : List Located) → elements later ts ++ codes "]" ≡ items_text later (items_of (map (edit_data name) ts))
  elements_close later [] = refl
  elements_close later (t ∷ ts) =
      append_assoc (comma_if later) (compact_text (edit_data name t) ++ elements true ts) (codes "]")
      ∙ ap (λ xs. comma_if later ++ xs) (append_assoc (compact_text (edit_data name t)) (elements true ts) (codes "]") ∙ ap (λ xs. compact_text (edit_data name t) ++ xs) (elements_close true ts))

  bracketed : (xs : List ℕ) → (codes "[" ++ xs) ++ codes "]" ≡ 91 ∷ (xs ++ codes "]")
  bracketed xs = refl

  array_closed : (ts : List Located) → opened ts ++ codes "]" ≡ compact_text (listed (edit_data name) ts)
  array_closed ts = bracketed (elements false ts) ∙ ap (λ xs. 91 ∷ xs) (elements_close false ts)

  regrouped : (s text more : List ℕ) → ((s ++ codes ",") ++ text) ++ more ≡ s ++ (comma_if true ++ (text ++ more))
  regrouped s text more = append_assoc (s ++ codes ",") text more ∙ append_assoc s (codes ",") (text ++ more)

  grown_some : (s : List ℕ) (ts : List Located) → grown name (Some s) ts ≡ Some (s ++ elements true ts)
  unfolding grown start_of
  grown_some s [] = ap Some (sym (append-nil s))
  grown_some s (t ∷ ts) = grown_some ((s ++ codes ",") ++ compact_text (edit_data name t)) ts ∙ ap Some (regrouped s (compact_text (edit_data name t)) (elements true ts))

  grown_first : (t : Located) (ts : List Located) → grown name None (t ∷ ts) ≡ Some (opened (t ∷ ts))
  unfolding grown start_of
  grown_first t ts = grown_some (codes "[" ++ compact_text (edit_data name t)) ts ∙ ap Some (append_assoc (codes "[") (compact_text (edit_data name t)) (elements true ts))

  grown_in : (uri : List ℕ) (ts : List Located) → grown name None (filter (is_in uri) ts) ≡ cond (list_any (is_in uri) ts) (Some (opened (filter (is_in uri) ts))) None
  unfolding grown
  grown_in uri [] = refl
  grown_in uri (t ∷ ts) =
      elim (is_in uri t) as (λ b. grown name None (cond b (t ∷ filter (is_in uri) ts) (filter (is_in uri) ts)) ≡ cond (b || list_any (is_in uri) ts) (Some (opened (cond b (t ∷ filter (is_in uri) ts) (filter (is_in uri) ts)))) None) [
        | true ↦ grown_first t (filter (is_in uri) ts)
        | false ↦ grown_in uri ts
      ]

-- ---- one more file

moved : (body c key s array b more : List ℕ) → (((((body ++ c) ++ key) ++ s) ++ array) ++ b) ++ more ≡ body ++ (((((c ++ key) ++ s) ++ array) ++ b) ++ more)
moved body c key s array b more = simp append_assoc

pub file_pushed : (all body body' : List ℕ) (later : Bool) (key array : List ℕ) (es rest : List (List ℕ × List ℕ)) → rest ≡ (key, array) ∷ es
    → body' ≡ ((((body ++ comma_if later) ++ compact_text (string key)) ++ codes ":") ++ array) ++ codes "]"
    → body ++ files_text later rest ≡ all → body' ++ files_text true es ≡ all
unfolding files_text
file_pushed all body body' later key array es rest is pushed so_far =
    ap (λ xs. xs ++ files_text true es) pushed
    ∙ moved body (comma_if later) (compact_text (string key)) (codes ":") array (codes "]") (files_text true es)
    ∙ ap (λ fs. body ++ files_text later fs) (sym is) ∙ so_far

-- no file is left to write
pub files_closed : (all body body' : List ℕ) (later : Bool) (rest : List (List ℕ × List ℕ)) → rest ≡ [] → body' ≡ body ++ codes "}" → body ++ files_text later rest ≡ all → body' ≡ all
unfolding files_text
files_closed all body body' later rest none pushed so_far = pushed ∙ ap (λ fs. body ++ files_text later fs) (sym none) ∙ so_far

-- ---- tables of files

-- an entry in its place among values that come from others
module _ {X Y : Type 0} (g : X → Y) where
  abbrev valued : List ℕ × X → List ℕ × Y
  valued e = (e.0, g e.1)

  put_mapped : (k : List ℕ) (v : X) (es : List (List ℕ × X)) → map valued (put by_bytes k v es) ≡ put by_bytes k (g v) (map valued es)
  put_mapped k v [] = refl
  put_mapped k v (e ∷ es) =
      elim (by_bytes k e.0) as (λ o. map valued (by_order o ((k, v) ∷ e ∷ es) ((e.0, v) ∷ es) (e ∷ put by_bytes k v es))
      ≡ by_order o ((k, g v) ∷ valued e ∷ map valued es) ((e.0, g v) ∷ map valued es) (valued e ∷ put by_bytes k (g v) (map valued es))) [
        | Less ↦ refl
        | Equal ↦ refl
        | Greater ↦ ap (λ fs. valued e ∷ fs) (put_mapped k v es)
      ]

module _ (name : List ℕ) where
  abbrev as_members : List (List ℕ × List Located) → Members
  as_members [] = no_members
  as_members (e ∷ es) = member e.0 (listed (edit_data name) e.1) (as_members es)

  members_put : (k : List ℕ) (v : List Located) (es : List (List ℕ × List Located)) → json.put k (listed (edit_data name) v) (as_members es) ≡ as_members (put by_bytes k v es)
  members_put k v [] = refl
  members_put k v (e ∷ es) =
      elim (by_bytes k e.0) as (λ o. match_ordering o (member k (listed (edit_data name) v) (as_members (e ∷ es))) (member e.0 (listed (edit_data name) v) (as_members es)) (member e.0 (listed (edit_data name) e.1) (json.put k (listed (edit_data name) v) (as_members es)))
      ≡ as_members (by_order o ((k, v) ∷ e ∷ es) ((e.0, v) ∷ es) (e ∷ put by_bytes k v es))) [
        | Less ↦ refl
        | Equal ↦ refl
        | Greater ↦ ap (member e.0 (listed (edit_data name) e.1)) (members_put k v es)
      ]

  one_file : (c key array more : List ℕ) → ((((c ++ key) ++ codes ":") ++ array) ++ codes "]") ++ more ≡ c ++ (key ++ 58 ∷ ((array ++ codes "]") ++ more))
  one_file c key array more =
      append_assoc (((c ++ key) ++ codes ":") ++ array) (codes "]") more
      ∙ append_assoc ((c ++ key) ++ codes ":") array (codes "]" ++ more)
      ∙ append_assoc (c ++ key) (codes ":") (array ++ (codes "]" ++ more))
      ∙ append_assoc c key (codes ":" ++ (array ++ (codes "]" ++ more)))
      ∙ ap (λ xs. c ++ (key ++ 58 ∷ xs)) (sym (append_assoc array (codes "]") more))

  files_spelled : (later : Bool) (es : List (List ℕ × List Located)) → files_text later (map (valued (opened name)) es) ≡ members_text later (as_members es)
  unfolding files_text
  files_spelled later [] = refl
  files_spelled later (e ∷ es) =
      one_file (comma_if later) (compact_text (string e.0)) (opened name e.1) (files_text true (map (valued (opened name)) es))
      ∙ ap (λ xs. comma_if later ++ (compact_text (string e.0) ++ 58 ∷ (xs ++ files_text true (map (valued (opened name)) es)))) (array_closed name e.1)
      ∙ ap (λ xs. comma_if later ++ (compact_text (string e.0) ++ 58 ∷ (compact_text (listed (edit_data name) e.1) ++ xs))) (files_spelled true es)

both : (a b : Bool) → T a → T b → T (a && b)
both true b p q = q
both false b p q = p

below_is : {X : Type 0} (k : List ℕ) (es : List (List ℕ × X)) → AllByRecursion (λ y. by_bytes k y ≡ Less) (keys_of es) → T (below_all by_bytes k es)
below_is k [] h = tt
below_is k (e ∷ es) h = both _ _ (subst (λ o. T (is_lt o)) (sym h.0) tt) (below_is k es h.1)

sorted_is : {X : Type 0} (es : List (List ℕ × X)) → IsStrictlySortedBy by_bytes (keys_of es) → T (is_sorted by_bytes es)
unfolding IsStrictlySortedBy
sorted_is [] h = tt
sorted_is (e ∷ es) h = both _ _ (below_is e.0 es h.0) (sorted_is es h.1)

find_is : {X : Type 0} (q : List ℕ) (es : List (List ℕ × X)) → find by_bytes q es ≡ lookup (is_at (by_bytes q)) es
find_is q [] = refl
find_is q (e ∷ es) = ap (cond (ties q e.0) (Some e.1)) (find_is q es)

module _ (name : List ℕ) (toks : List Located) where
  abbrev tokens_table : List Located → List (List ℕ × List Located)
  tokens_table [] = []
  tokens_table (t ∷ ts) = put by_bytes t.uri (filter (is_in t.uri) toks) (tokens_table ts)

  members_are : (ts : List Located) → by_file name toks ts ≡ as_members name (tokens_table ts)
  unfolding by_file
  members_are [] = refl
  members_are (t ∷ ts) = ap (json.put t.uri (file_data name toks t.uri)) (members_are ts) ∙ members_put name t.uri (filter (is_in t.uri) toks) (tokens_table ts)

  abbrev array_at : List ℕ → List ℕ
  array_at uri = opened name (filter (is_in uri) toks)

  abbrev table : List Located → List (List ℕ × List ℕ)
  table [] = []
  table (t ∷ ts) = put by_bytes t.uri (array_at t.uri) (table ts)

  table_mapped : (ts : List Located) → map (valued (opened name)) (tokens_table ts) ≡ table ts
  table_mapped [] = refl
  table_mapped (t ∷ ts) = put_mapped (opened name) t.uri (filter (is_in t.uri) toks) (tokens_table ts) ∙ ap (put by_bytes t.uri (array_at t.uri)) (table_mapped ts)

  table_sorted : (ts : List Located) → T (is_sorted by_bytes (table ts))
  table_sorted [] = tt
  table_sorted (t ∷ ts) = is_sorted-put by_bytes nat_list_cmp_total t.uri (array_at t.uri) (table ts) (table_sorted ts)

  found_by : (uri : List ℕ) (t : Located) (ts : List Located) (b : Bool) → is_in uri t ≡ b → cond (ties uri t.uri) (Some (array_at t.uri)) (cond (list_any (is_in uri) ts) (Some (array_at uri)) None) ≡ cond (b || list_any (is_in uri) ts) (Some (array_at uri)) None
  found_by uri t ts true here =
      let same = (bytes_eq-Decides uri t.uri).0 here in
      ap (λ b. cond b (Some (array_at t.uri)) (cond (list_any (is_in uri) ts) (Some (array_at uri)) None)) (tied uri t.uri same) ∙ ap (λ k. Some (array_at k)) (sym same)
  found_by uri t ts false other = ap (λ b. cond b (Some (array_at t.uri)) (cond (list_any (is_in uri) ts) (Some (array_at uri)) None)) (untied uri t.uri other)

  found : (uri : List ℕ) (ts : List Located) → find by_bytes uri (table ts) ≡ cond (list_any (is_in uri) ts) (Some (array_at uri)) None
  found uri [] = refl
  found uri (t ∷ ts) =
      find-put by_bytes nat_list_cmp_total uri t.uri (array_at t.uri) (table ts)
      ∙ ap (cond (ties uri t.uri) (Some (array_at t.uri))) (found uri ts)
      ∙ found_by uri t ts (is_in uri t) refl

  module _ (m : BTreeMap (List ℕ) (List ℕ)) (ordered : tree.IsOrdered by_bytes m) (told : (uri : List ℕ) → tree.get by_bytes m uri ≡ grown name None (filter (is_in uri) toks)) where
    entries_are : m.entries ≡ table toks
    entries_are = same_entries by_bytes nat_list_cmp_total (slice_cmp-IsAntisymmetric nat_cmp-IsAntisymmetric) m.entries (table toks) (sorted_is m.entries ordered) (table_sorted toks)
        (λ uri. find_is uri m.entries ∙ told uri ∙ grown_in name uri toks ∙ sym (found uri toks))

    files_are : files_text false m.entries ≡ members_text false (by_file name toks toks)
    files_are = ap (files_text false) (entries_are ∙ sym (table_mapped toks)) ∙ files_spelled name false (tokens_table toks) ∙ ap (members_text false) (sym (members_are toks))

    whole : (files : List ℕ) (ms : Members) → files ≡ members_text false ms → (codes "{\"changes\":{" ++ files) ++ codes "}" ≡ compact_text (json.object (member (codes "changes") (json.object ms) no_members))
    unfolding serde_json_on_literals
    whole files ms is = ap (λ xs. (codes "{\"changes\":{" ++ xs) ++ codes "}") is

    pub edits_spelled : (codes "{\"changes\":{" ++ files_text false m.entries) ++ codes "}" ≡ compact_text (edits_data name toks)
    edits_spelled = whole (files_text false m.entries) (by_file name toks toks) files_are
