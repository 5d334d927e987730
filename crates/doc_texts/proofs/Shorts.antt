-- No call takes a text in that is longer than the limit.
use Rattle.std.proofs.Common.{◌≡◌, ℕ, ◌≤◌, ℤ, Bool, true, false, cond, not, List, [], ◌∷◌, length, Option, Some, None, IfSome, Result, Ok, Err, IfOk, nat_lt, refl, sym, subst, arith}
use Rattle.std.specs.FinMap.{get, insert, remove, empty, get-empty, contains_key}
use Rattle.std.specs.Str.{is_utf8}
use Rattle.text_lines.specs.declared.edit.Change.{Change}
use Rattle.text_lines.specs.declared.encoding.Encoding.{Encoding}
use Rattle.text_lines.specs.Edits.{edited}
use Rattle.doc_texts.specs.declared.error.DocError.{DocError}
use Rattle.doc_texts.specs.declared.error.DocError.TheVariants.{AlreadyOpen, NotOpen, Reversed, TooLong, TooManyFiles, OutsideRoot, TooMuchText, NotText}
use Rattle.doc_texts.specs.Docs.{allowed, fits, is_outside, with_bytes, loaded, opened, ends_before, all_edited, with_text, with_changes, changed, closed}
use Rattle.doc_texts.specs.Limits.{most_files, longest_text, most_bytes}
use Rattle.doc_texts.specs.Short.{IsShort, AllShort}
use Rattle.doc_texts.specs.Texts.{TextMap, Texts, OpenText, file_count, byte_count, shown, text_at, texts_under, with_disk, with_open, without_open}
use Rattle.doc_texts.proofs.Maps.{by_bytes, ties, get_put, get_taken}

-- ---- maps

module _ {X : Type 0} (P : X → Type 0) where
  put_by : (b : Bool) (v : X) (o : Option X) → P v → IfSome o P → IfSome (cond b (Some v) o) P
  put_by true v o p h = p
  put_by false v o p h = h

  taken_by : (b : Bool) (o : Option X) → IfSome o P → IfSome (cond b None o) P
  taken_by true o h = tt
  taken_by false o h = h

  module _ (m : TextMap X) (h : (q : List ℕ) → IfSome (get m q) P) (k : List ℕ) where
    all_put : (v : X) → P v → (q : List ℕ) → IfSome (get (insert m k v) q) P
    all_put v p q = subst (λ o. IfSome o P) (sym (get_put m k v q)) (put_by (ties q k) v (get m q) p (h q))

    all_taken : (q : List ℕ) → IfSome (get (remove m k) q) P
    all_taken q = subst (λ o. IfSome o P) (sym (get_taken m k q)) (taken_by (ties q k) (get m q) (h q))

  no_at : (o : Option X) → o ≡ None → IfSome o P
  no_at o e = subst (λ r. IfSome r P) (sym e) tt

  -- ---- what is tested first

  tested : (b : Bool) (e : DocError) (r : Result X DocError) → (b ≡ false → IfOk r P) → IfOk (cond b (Err e) r) P
  tested true e r h = tt
  tested false e r h = h refl

not_above : (a b : ℕ) → nat_lt a b ≡ false → b ≤ a
not_above a b e = grind (arith, e)

-- ---- texts

pub none_short : (root : Option (List ℕ)) → AllShort (texts_under root)
none_short root = (λ q. no_at IsShort _ (get-empty by_bytes q), λ q. no_at (λ document. IsShort document.text) _ (get-empty by_bytes q))

shown_short : (o : Option OpenText) (d : Option (List ℕ)) → IfSome o (λ document. IsShort document.text) → IfSome d IsShort → IfSome (shown o d) IsShort
shown_short None d h k = k
shown_short (Some document) d h k = h

module _ (t : Texts) (h : AllShort t) (p : List ℕ) where
  pub text_short : IfSome (text_at t p) IsShort
  unfolding text_at
  text_short = shown_short (get t.opened p) (get t.disk p) (h.1 p) (h.0 p)

  disk_short : (x : List ℕ) → IsShort x → AllShort (with_disk t p x)
  disk_short x s = (all_put IsShort t.disk h.0 p x s, h.1)

  open_short : (d : OpenText) → IsShort d.text → AllShort (with_open t p d)
  open_short d s = (h.0, all_put (λ document. IsShort document.text) t.opened h.1 p d s)

fits_short : (t : Texts) → AllShort t → IfOk (fits t) AllShort
unfolding allowed
fits_short t h =
    tested AllShort (nat_lt most_files (file_count t)) TooManyFiles (cond (nat_lt most_bytes (byte_count t)) (Err TooMuchText) (Ok t)) (λ _.
    tested AllShort (nat_lt most_bytes (byte_count t)) TooMuchText (Ok t) (λ _. h))

edits_short : (text : List ℕ) (changes : List Change) (enc : Encoding) → IsShort text → IfOk (all_edited text changes enc) IsShort
unfolding all_edited
edits_short text [] enc s = s
edits_short text (c ∷ cs) enc s =
    tested IsShort (ends_before text enc c.range) Reversed (cond (nat_lt longest_text (length (edited text c enc))) (Err TooLong) (all_edited (edited text c enc) cs enc)) (λ _.
    tested IsShort (nat_lt longest_text (length (edited text c enc))) TooLong (all_edited (edited text c enc) cs enc) (λ e.
    edits_short (edited text c enc) cs enc (not_above longest_text (length (edited text c enc)) e)))

-- ---- calls

module _ (t : Texts) (h : AllShort t) (p : List ℕ) where
  bytes_short : (bytes : Option (List ℕ)) → IfOk (with_bytes t p bytes) AllShort
  unfolding with_bytes
  bytes_short None = (all_taken IsShort t.disk h.0 p, h.1)
  bytes_short (Some bytes) =
      tested AllShort (not (is_utf8 bytes)) NotText (cond (nat_lt longest_text (length bytes)) (Err TooLong) (fits (with_disk t p bytes))) (λ _.
      tested AllShort (nat_lt longest_text (length bytes)) TooLong (fits (with_disk t p bytes)) (λ e.
      fits_short (with_disk t p bytes) (disk_short t h p bytes (not_above longest_text (length bytes) e))))

  pub loaded_short : (bytes : Option (List ℕ)) → IfOk (loaded t p bytes) AllShort
  unfolding loaded
  loaded_short bytes = tested AllShort (is_outside t p) OutsideRoot (with_bytes t p bytes) (λ _. bytes_short bytes)

  module _ (uri : List ℕ) (version : ℤ) (text : List ℕ) where
    abbrev document : OpenText
    document = record { uri = uri; version = version; text = text }

    pub opened_short : IfOk (opened t p uri version text) AllShort
    unfolding opened
    opened_short =
        tested AllShort (is_outside t p) OutsideRoot (cond (contains_key t.opened p) (Err AlreadyOpen) (cond (nat_lt longest_text (length text)) (Err TooLong) (fits (with_open t p document)))) (λ _.
        tested AllShort (contains_key t.opened p) AlreadyOpen (cond (nat_lt longest_text (length text)) (Err TooLong) (fits (with_open t p document))) (λ _.
        tested AllShort (nat_lt longest_text (length text)) TooLong (fits (with_open t p document)) (λ e.
        fits_short (with_open t p document) (open_short t h p document (not_above longest_text (length text) e)))))

  text_given : (uri : List ℕ) (version : ℤ) (r : Result (List ℕ) DocError) → IfOk r IsShort → IfOk (with_text t p uri version r) AllShort
  text_given uri version (Ok text) s = fits_short (with_open t p (record { uri = uri; version = version; text = text })) (open_short t h p (record { uri = uri; version = version; text = text }) s)
  text_given uri version (Err e) s = tt

  changes_given : (version : ℤ) (changes : List Change) (enc : Encoding) (o : Option OpenText) → IfSome o (λ d. IsShort d.text) → IfOk (with_changes t p version changes enc o) AllShort
  changes_given version changes enc None s = tt
  changes_given version changes enc (Some d) s = text_given d.uri version (all_edited d.text changes enc) (edits_short d.text changes enc s)

  pub changed_short : (version : ℤ) (changes : List Change) (enc : Encoding) → IfOk (changed t p version changes enc) AllShort
  unfolding changed
  changed_short version changes enc =
      tested AllShort (is_outside t p) OutsideRoot (with_changes t p version changes enc (get t.opened p)) (λ _. changes_given version changes enc (get t.opened p) (h.1 p))

  close_short : (b : Bool) → IfOk (cond b (Ok (without_open t p)) (Err NotOpen)) AllShort
  close_short true = (h.0, all_taken (λ d. IsShort d.text) t.opened h.1 p)
  close_short false = tt

  pub closed_short : IfOk (closed t p) AllShort
  unfolding closed
  closed_short = tested AllShort (is_outside t p) OutsideRoot (cond (contains_key t.opened p) (Ok (without_open t p)) (Err NotOpen)) (λ _. close_short (contains_key t.opened p))
