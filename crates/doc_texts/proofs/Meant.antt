-- What each call means, by the test that decides.
use Rattle.std.proofs.Common.{◌≡◌, ℕ, ◌<◌, ◌≤◌, ℤ, true, false, List, length, Option, Some, None, option_map, Result, Ok, Err, IsUtf8, sym, refl, subst}
use Rattle.std.specs.FinMap.{get, contains_key}
use Rattle.std.specs.Str.{is_utf8}
use Rattle.std.proofs.lemmas.Bool.{false_from_ne_true, le-ltb}
use Rattle.std.proofs.lemmas.Str.{IsUtf8-from_is_utf8, is_utf8-from_IsUtf8}
use Rattle.text_lines.specs.declared.edit.Change.{Change}
use Rattle.text_lines.specs.declared.encoding.Encoding.{Encoding}
use Rattle.doc_texts.specs.declared.error.DocError.{DocError}
use Rattle.doc_texts.specs.declared.error.DocError.TheVariants.{AlreadyOpen, NotOpen, TooLong, OutsideRoot, NotText}
use Rattle.doc_texts.specs.Docs.{is_outside, fits, with_bytes, loaded, opened, all_edited, changed, closed, IsDone}
use Rattle.doc_texts.specs.Limits.{longest_text}
use Rattle.doc_texts.specs.Texts.{Texts, OpenText, with_disk, without_disk, with_open, without_open}
use Rattle.doc_texts.proofs.Edits.{is_lt}

no_utf8 : (bytes : List ℕ) → ¬ (IsUtf8 bytes) → is_utf8 bytes ≡ false
no_utf8 bytes h = false_from_ne_true (is_utf8 bytes) (λ is. h (IsUtf8-from_is_utf8 bytes is))

pub same_err : {X E : Type 0} (a b : E) → ◌≡◌ {A = Result X E} (Err a) (Err b) → a ≡ b
same_err a b is = cc is

-- the document with a text
pub document_with : (r : Option OpenText) (x : List ℕ) → Some x ≡ option_map (λ document. document.text) r → (d : OpenText) × (r ≡ Some d) × (x ≡ d.text)
document_with None x is = absurd (cc is)
document_with (Some d) x is = (d, refl, cc is)

pub no_document : (r : Option OpenText) → None ≡ option_map (λ document. document.text) r → r ≡ None
no_document None is = refl
no_document (Some d) is = absurd (cc is)

-- the same answer to what is meant as well
pub done_at : {X : Type 0} (r : Result X DocError) (old new : Texts) {m m' : Result Texts DocError} → m' ≡ m → IsDone r old new m → IsDone r old new m'
done_at r old new same done = subst (λ m. IsDone r old new m) (sym same) done

module _ (t : Texts) (p : List ℕ) where
  -- ---- loaded

  pub load_outside : (bytes : Option (List ℕ)) → is_outside t p ≡ true → loaded t p bytes ≡ Err OutsideRoot
  unfolding loaded
  load_outside bytes out = rw out refl

  pub load_none : is_outside t p ≡ false → loaded t p None ≡ Ok (without_disk t p)
  unfolding loaded with_bytes
  load_none inside = rw inside refl

  module _ (bytes : List ℕ) (inside : is_outside t p ≡ false) where
    pub load_no_text : ¬ (IsUtf8 bytes) → loaded t p (Some bytes) ≡ Err NotText
    unfolding loaded with_bytes
    load_no_text h = rw (inside, no_utf8 bytes h) refl

    pub load_long : IsUtf8 bytes → longest_text < length bytes → loaded t p (Some bytes) ≡ Err TooLong
    unfolding loaded with_bytes
    load_long is long = rw (inside, is_utf8-from_IsUtf8 bytes is, is_lt _ _ long) refl

    pub load_text : IsUtf8 bytes → length bytes ≤ longest_text → loaded t p (Some bytes) ≡ fits (with_disk t p bytes)
    unfolding loaded with_bytes
    load_text is short = rw (inside, is_utf8-from_IsUtf8 bytes is, le-ltb _ _ short) refl

  -- ---- opened

  module _ (uri : List ℕ) (version : ℤ) (text : List ℕ) where
    pub open_outside : is_outside t p ≡ true → opened t p uri version text ≡ Err OutsideRoot
    unfolding opened
    open_outside out = rw out refl

    pub open_open : is_outside t p ≡ false → contains_key t.opened p ≡ true → opened t p uri version text ≡ Err AlreadyOpen
    unfolding opened
    open_open inside is = rw (inside, is) refl

    pub open_long : is_outside t p ≡ false → contains_key t.opened p ≡ false → longest_text < length text → opened t p uri version text ≡ Err TooLong
    unfolding opened
    open_long inside shut long = rw (inside, shut, is_lt _ _ long) refl

    pub open_text : is_outside t p ≡ false → contains_key t.opened p ≡ false → length text ≤ longest_text → (w : ℤ) → w ≡ version → opened t p uri version text ≡ fits (with_open t p (record { uri = uri; version = w; text = text }))
    unfolding opened
    open_text inside shut short w same = rw (inside, shut, le-ltb _ _ short, same) refl

  -- ---- changed

  module _ (version : ℤ) (changes : List Change) (enc : Encoding) where
    pub change_outside : is_outside t p ≡ true → changed t p version changes enc ≡ Err OutsideRoot
    unfolding changed
    change_outside out = rw out refl

    pub change_shut : is_outside t p ≡ false → get t.opened p ≡ None → changed t p version changes enc ≡ Err NotOpen
    unfolding changed
    change_shut inside shut = rw (inside, shut) refl

    module _ (d : OpenText) (inside : is_outside t p ≡ false) (found : get t.opened p ≡ Some d) where
      pub change_refused : (e : DocError) → Err e ≡ all_edited d.text changes enc → changed t p version changes enc ≡ Err e
      unfolding changed
      change_refused e refused = rw (inside, found, ← refused) refl

      pub change_text : (text : List ℕ) → Ok text ≡ all_edited d.text changes enc → (w : ℤ) → w ≡ version → changed t p version changes enc ≡ fits (with_open t p (record { uri = d.uri; version = w; text = text }))
      unfolding changed
      change_text text made w same = rw (inside, found, ← made, same) refl

  -- ---- closed

  pub close_outside : is_outside t p ≡ true → closed t p ≡ Err OutsideRoot
  unfolding closed
  close_outside out = rw out refl

  pub close_shut : is_outside t p ≡ false → contains_key t.opened p ≡ false → closed t p ≡ Err NotOpen
  unfolding closed
  close_shut inside shut = rw (inside, shut) refl

  pub close_open : is_outside t p ≡ false → contains_key t.opened p ≡ true → closed t p ≡ Ok (without_open t p)
  unfolding closed
  close_open inside is = rw (inside, is) refl
