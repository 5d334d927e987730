-- A text in place of the one that stands.
use Rattle.std.proofs.Common.{◌≡◌, ℕ, true, false, List, length, Option, Some, None, option_map, unwrap_or, is_some, IfSome, sym, refl, ap, ◌∙◌, true≢false}
use Rattle.std.specs.FinMap.{get, contains_key}
use Rattle.doc_texts.specs.Edited.{in_place, with_text_at}
use Rattle.doc_texts.specs.Kept.{open_size}
use Rattle.doc_texts.specs.Texts.{Texts, OpenText, with_disk, with_open}

size_by : (o : Option OpenText) → unwrap_or (option_map (λ document. length document.text) o) 0 ≡ unwrap_or (option_map length (option_map (λ document. document.text) o)) 0
size_by None = refl
size_by (Some d) = refl

-- the size of an open text that was found, or wasn't
pub open_size_told : (t : Texts) (p : List ℕ) (r : Option (List ℕ)) → r ≡ option_map (λ document. document.text) (get t.opened p) → open_size t p ≡ unwrap_or (option_map length r) 0
open_size_told t p r found = size_by (get t.opened p) ∙ ap (λ o. unwrap_or (option_map length o) 0) (sym found)

module _ (t new : Texts) (p x : List ℕ) where
  open_by : (o : Option OpenText) → is_some o ≡ true → IfSome o (λ d. new ≡ with_open t p (record { uri = d.uri; version = d.version; text = x })) → new ≡ in_place t p x o
  open_by None is h = absurd (true≢false (sym is))
  open_by (Some d) is h = h

  pub placed_in_open : contains_key t.opened p ≡ true → IfSome (get t.opened p) (λ d. new ≡ with_open t p (record { uri = d.uri; version = d.version; text = x })) → new ≡ with_text_at t p x
  unfolding with_text_at
  placed_in_open is h = open_by (get t.opened p) is h

  disk_by : (o : Option OpenText) → is_some o ≡ false → new ≡ with_disk t p x → new ≡ in_place t p x o
  disk_by None is h = h
  disk_by (Some d) is h = absurd (true≢false is)

  pub placed_on_disk : contains_key t.opened p ≡ false → new ≡ with_disk t p x → new ≡ with_text_at t p x
  unfolding with_text_at
  placed_on_disk is h = disk_by (get t.opened p) is h
