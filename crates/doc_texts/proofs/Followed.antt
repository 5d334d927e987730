-- What a change leaves at its path and at the others, and which paths have a text.
use Rattle.std.proofs.Common.{◌≡◌, ◌≢◌, ℕ, true, false, cond, List, Some, None, option_map, is_some, bytes_eq, nat_cmp, sym, ap, ◌∙◌, subst}
use Rattle.std.specs.Cmp.Lexicographic.{slice_cmp}
use Rattle.std.specs.FinMap.{get, insert, remove, keys, contains_key-keys}
use Rattle.std.specs.List.{list_any}
use Rattle.std.specs.List.Sorted.{IsStrictlySortedBy}
use Rattle.std.specs.Cmp.{both_ways}
use Rattle.std.proofs.lemmas.Bool.{false_from_ne_true}
use Rattle.std.proofs.lemmas.Slice.Eq.{bytes_eq-Decides}
use Rattle.doc_texts.specs.Texts.{TextMap, Texts, OpenText, shown, text_at, version_at, uri_at, marked, path_set, paths_of, with_disk, without_disk, with_open, without_open}
use Rattle.doc_texts.proofs.Maps.{ties, ties_itself, same_key, get_put, get_taken, get_put_itself, get_taken_itself, keys_rise}
use Rattle.doc_texts.proofs.Counts.{marks, held, has_mark}

-- two paths tie exactly where they have the same bytes
pub ties_bytes : (q k : List ℕ) → ties q k ≡ bytes_eq q k
ties_bytes q k = both_ways (ties q k) (bytes_eq q k)
    (λ tie. (bytes_eq-Decides q k).1 (same_key q k tie))
    (λ is. subst (λ p. ties q p ≡ true) ((bytes_eq-Decides q k).0 is) (ties_itself q))

no_tie : (q k : List ℕ) → q ≢ k → ties q k ≡ false
no_tie q k other = false_from_ne_true (ties q k) (λ tie. other (same_key q k tie))

module _ {X : Type 0} where
  put_others : (m : TextMap X) (p : List ℕ) (x : X) (q : List ℕ) → q ≢ p → get (insert m p x) q ≡ get m q
  put_others m p x q other = get_put m p x q ∙ ap (λ b. cond b (Some x) (get m q)) (no_tie q p other)

  taken_others : (m : TextMap X) (p q : List ℕ) → q ≢ p → get (remove m p) q ≡ get m q
  taken_others m p q other = get_taken m p q ∙ ap (λ b. cond b None (get m q)) (no_tie q p other)

-- ---- the text at a path

module _ (t : Texts) (p : List ℕ) where
  pub disk_itself : (x : List ℕ) → text_at (with_disk t p x) p ≡ shown (get t.opened p) (Some x)
  unfolding text_at
  disk_itself x = ap (shown (get t.opened p)) (get_put_itself t.disk p x)

  pub disk_others : (x q : List ℕ) → q ≢ p → text_at (with_disk t p x) q ≡ text_at t q
  unfolding text_at
  disk_others x q other = ap (shown (get t.opened q)) (put_others t.disk p x q other)

  pub gone_itself : text_at (without_disk t p) p ≡ shown (get t.opened p) None
  unfolding text_at
  gone_itself = ap (shown (get t.opened p)) (get_taken_itself t.disk p)

  pub gone_others : (q : List ℕ) → q ≢ p → text_at (without_disk t p) q ≡ text_at t q
  unfolding text_at
  gone_others q other = ap (shown (get t.opened q)) (taken_others t.disk p q other)

  pub open_itself : (d : OpenText) → text_at (with_open t p d) p ≡ Some d.text
  unfolding text_at
  open_itself d = ap (λ document. shown document (get t.disk p)) (get_put_itself t.opened p d)

  pub open_others : (d : OpenText) (q : List ℕ) → q ≢ p → text_at (with_open t p d) q ≡ text_at t q
  unfolding text_at
  open_others d q other = ap (λ document. shown document (get t.disk q)) (put_others t.opened p d q other)

  pub shut_itself : text_at (without_open t p) p ≡ get t.disk p
  unfolding text_at
  shut_itself = ap (λ document. shown document (get t.disk p)) (get_taken_itself t.opened p)

  pub shut_others : (q : List ℕ) → q ≢ p → text_at (without_open t p) q ≡ text_at t q
  unfolding text_at
  shut_others q other = ap (λ document. shown document (get t.disk q)) (taken_others t.opened p q other)

  -- ---- the version and the URI at a path

  pub version_itself : (d : OpenText) → version_at (with_open t p d) p ≡ Some d.version
  unfolding version_at
  version_itself d = ap (option_map (λ document. document.version)) (get_put_itself t.opened p d)

  pub version_others : (d : OpenText) (q : List ℕ) → q ≢ p → version_at (with_open t p d) q ≡ version_at t q
  unfolding version_at
  version_others d q other = ap (option_map (λ document. document.version)) (put_others t.opened p d q other)

  pub version_shut : version_at (without_open t p) p ≡ None
  unfolding version_at
  version_shut = ap (option_map (λ document. document.version)) (get_taken_itself t.opened p)

  pub version_shut_others : (q : List ℕ) → q ≢ p → version_at (without_open t p) q ≡ version_at t q
  unfolding version_at
  version_shut_others q other = ap (option_map (λ document. document.version)) (taken_others t.opened p q other)

  pub uri_itself : (d : OpenText) → uri_at (with_open t p d) p ≡ Some d.uri
  unfolding uri_at
  uri_itself d = ap (option_map (λ document. document.uri)) (get_put_itself t.opened p d)

  pub uri_others : (d : OpenText) (q : List ℕ) → q ≢ p → uri_at (with_open t p d) q ≡ uri_at t q
  unfolding uri_at
  uri_others d q other = ap (option_map (λ document. document.uri)) (put_others t.opened p d q other)

  pub uri_shut : uri_at (without_open t p) p ≡ None
  unfolding uri_at
  uri_shut = ap (option_map (λ document. document.uri)) (get_taken_itself t.opened p)

  pub uri_shut_others : (q : List ℕ) → q ≢ p → uri_at (without_open t p) q ≡ uri_at t q
  unfolding uri_at
  uri_shut_others q other = ap (option_map (λ document. document.uri)) (taken_others t.opened p q other)

-- ---- the paths that have a text

any_bytes : (q : List ℕ) (paths : List (List ℕ)) → list_any (bytes_eq q) paths ≡ list_any (ties q) paths
any_bytes q paths = λ i. list_any (λ k. sym (ties_bytes q k) i) paths

pub set_members : (paths : List (List ℕ)) (q : List ℕ) → list_any (bytes_eq q) (path_set paths) ≡ list_any (bytes_eq q) paths
set_members paths q = any_bytes q (path_set paths) ∙ sym (contains_key-keys (marked paths) q) ∙ has_mark paths q ∙ sym (any_bytes q paths)

pub set_ascends : (paths : List (List ℕ)) → IsStrictlySortedBy (slice_cmp nat_cmp) (path_set paths)
set_ascends paths = keys_rise (marked paths)

pub paths_members : (t : Texts) (q : List ℕ) → list_any (bytes_eq q) (paths_of t) ≡ is_some (text_at t q)
unfolding paths_of
paths_members t q = any_bytes q (keys (marks t)) ∙ sym (contains_key-keys (marks t) q) ∙ held t q

pub paths_ascend : (t : Texts) → IsStrictlySortedBy (slice_cmp nat_cmp) (paths_of t)
unfolding paths_of
paths_ascend t = keys_rise (marks t)
