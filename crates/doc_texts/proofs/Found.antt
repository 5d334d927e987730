-- What a look-up in the fields of `Docs` says of the texts.
use Rattle.std.proofs.Common.{◌≡◌, ℕ, ◌≤◌, List, length, Option, Some, None, option_map, unwrap_or, cond, sym, refl, ap, ◌∙◌, arith}
use Rattle.std.specs.BTreeMap as tree
use Rattle.std.specs.BTreeMap.{BTreeMap}
use Rattle.std.specs.FinMap.{get, from_entries}
use Rattle.doc_texts.specs.declared.docs.Docs.TheInside.{Inside}
use Rattle.doc_texts.specs.Kept.{texts_in, disk_size, open_size}
use Rattle.doc_texts.specs.Texts.{Texts, OpenText, text_at, version_at, uri_at, byte_count, with_disk, without_disk, with_open, without_open}
use Rattle.doc_texts.proofs.Maps.{by_bytes, ties, seen_at, seen_put, seen_taken}
use Rattle.doc_texts.proofs.Counts.{bytes_without_disk, bytes_without_open}

module _ (a : Inside) (t : Texts) (view : texts_in a ≡ t) (p : List ℕ) where
  pub disk_is : (r : Option (List ℕ)) → r ≡ tree.get by_bytes a.disk p → get t.disk p ≡ r
  disk_is r found = ap (λ u. get u.disk p) (sym view) ∙ seen_at a.disk p ∙ sym found

  pub open_is : (r : Option OpenText) → r ≡ tree.get by_bytes a.opened p → get t.opened p ≡ r
  open_is r found = ap (λ u. get u.opened p) (sym view) ∙ seen_at a.opened p ∙ sym found

  pub text_open : (d : OpenText) → Some d ≡ tree.get by_bytes a.opened p → text_at t p ≡ Some d.text
  unfolding text_at
  text_open d found = rw (open_is (Some d) found) refl

  pub text_shut : (r : Option (List ℕ)) → None ≡ tree.get by_bytes a.opened p → r ≡ get t.disk p → text_at t p ≡ r
  unfolding text_at
  text_shut r shut found = rw (open_is None shut, ← found) refl

  pub version_is : (r : Option OpenText) → r ≡ tree.get by_bytes a.opened p → version_at t p ≡ option_map (λ d. d.version) r
  unfolding version_at
  version_is r found = rw (open_is r found) refl

  pub uri_is : (r : Option OpenText) → r ≡ tree.get by_bytes a.opened p → uri_at t p ≡ option_map (λ d. d.uri) r
  unfolding uri_at
  uri_is r found = rw (open_is r found) refl

-- ---- the fields with another entry, or with one less

module _ (a : Inside) (t : Texts) (view : texts_in a ≡ t) (p : List ℕ) where
  pub disk_put : (n : BTreeMap (List ℕ) (List ℕ)) (x : List ℕ) → ((q : List ℕ) → tree.get by_bytes n q ≡ cond (ties p q) (Some x) (tree.get by_bytes a.disk q)) → ◌≡◌ {A = Texts} (record { root = a.root; disk = from_entries n.entries; opened = from_entries a.opened.entries }) (with_disk t p x)
  disk_put n x h = (λ i. record { root = a.root; disk = seen_put a.disk n p x h i; opened = from_entries a.opened.entries }) ∙ ap (λ u. with_disk u p x) view

  pub disk_taken : (n : BTreeMap (List ℕ) (List ℕ)) → ((q : List ℕ) → tree.get by_bytes n q ≡ cond (ties p q) None (tree.get by_bytes a.disk q)) → ◌≡◌ {A = Texts} (record { root = a.root; disk = from_entries n.entries; opened = from_entries a.opened.entries }) (without_disk t p)
  disk_taken n h = (λ i. record { root = a.root; disk = seen_taken a.disk n p h i; opened = from_entries a.opened.entries }) ∙ ap (λ u. without_disk u p) view

  pub open_put : (n : BTreeMap (List ℕ) OpenText) (d : OpenText) → ((q : List ℕ) → tree.get by_bytes n q ≡ cond (ties p q) (Some d) (tree.get by_bytes a.opened q)) → ◌≡◌ {A = Texts} (record { root = a.root; disk = from_entries a.disk.entries; opened = from_entries n.entries }) (with_open t p d)
  open_put n d h = (λ i. record { root = a.root; disk = from_entries a.disk.entries; opened = seen_put a.opened n p d h i }) ∙ ap (λ u. with_open u p d) view

  pub open_taken : (n : BTreeMap (List ℕ) OpenText) → ((q : List ℕ) → tree.get by_bytes n q ≡ cond (ties p q) None (tree.get by_bytes a.opened q)) → ◌≡◌ {A = Texts} (record { root = a.root; disk = from_entries a.disk.entries; opened = from_entries n.entries }) (without_open t p)
  open_taken n h = (λ i. record { root = a.root; disk = from_entries a.disk.entries; opened = seen_taken a.opened n p h i }) ∙ ap (λ u. without_open u p) view

pub disk_size_is : (t : Texts) (p : List ℕ) (r : Option (List ℕ)) → r ≡ get t.disk p → disk_size t p ≡ unwrap_or (option_map length r) 0
disk_size_is t p r found = ap (λ r. unwrap_or (option_map length r) 0) (sym found)

pub open_size_is : (t : Texts) (p : List ℕ) (r : Option OpenText) → r ≡ get t.opened p → open_size t p ≡ unwrap_or (option_map (λ document. length document.text) r) 0
open_size_is t p r found = ap (λ r. unwrap_or (option_map (λ document. length document.text) r) 0) (sym found)

pub disk_size_within : (t : Texts) (p : List ℕ) → disk_size t p ≤ byte_count t
disk_size_within t p = let taken = bytes_without_disk t p in omega (arith, taken)

pub open_size_within : (t : Texts) (p : List ℕ) → open_size t p ≤ byte_count t
open_size_within t p = let taken = bytes_without_open t p in omega (arith, taken)
