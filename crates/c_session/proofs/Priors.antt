-- Laws of texts of which one changes, and of those that are remembered.
use Rattle.std.proofs.Common.{◌≡◌, ℕ, ℤ, List, Option, None, Some, Result, Ok, Err, Bool, true, false, not, cond, is_some, unwrap_or, T, refl, sym, ap, ◌∙◌, subst, bytes_eq, nat_lt, length}
use Rattle.std.proofs.lemmas.Map.Text.{is_eq-slice_cmp}
use Rattle.std.proofs.lemmas.Slice.Eq.{bytes_eq-Decides}
use Rattle.std.specs.Cmp.Lexicographic.{nat_list_cmp_total}
use Rattle.std.specs.FinMap.{get, insert, remove, contains_key, get-insert, get-remove}
use Rattle.std.specs.Str.{is_utf8}
use Rattle.io_edges.specs.declared.ends.Found.{Found}
use Rattle.io_edges.specs.declared.ends.Found.TheVariants as found
use Rattle.text_lines.specs.declared.edit.Change.{Change}
use Rattle.text_lines.specs.declared.encoding.Encoding.{Encoding}
use Rattle.doc_texts.specs.Texts.{TextMap, Texts, OpenText, shown, text_at, with_disk, without_disk, with_open, without_open}
use Rattle.doc_texts.specs.Docs.{allowed, is_outside, with_bytes, loaded, opened, changed, closed, with_changes, with_text, all_edited}
use Rattle.doc_texts.specs.Limits.{most_files, longest_text, most_bytes}
use Rattle.doc_texts.specs.Prior.{Prior, remembered}
use Rattle.doc_texts.specs.declared.error.DocError.{DocError}
use Rattle.doc_texts.specs.declared.error.DocError.TheVariants.{OutsideRoot, AlreadyOpen, NotOpen, NotText, TooLong, TooManyFiles, TooMuchText}
use Rattle.c_session.specs.Files.{with_found}
use Rattle.c_session.specs.Loading.{Loading, settles}
use Rattle.c_session.specs.Ties.News.{IsPrior, KeepsPrior, SameBut}

-- ---- maps

elsewhere : {X : Type 0} (m : TextMap X) (path : List ℕ) (x : X) (other : List ℕ) → bytes_eq other path ≡ false → get (insert m path x) other ≡ get m other
elsewhere m path x other apart = get-insert nat_list_cmp_total m path x other ∙ ap (λ b. cond b (Some x) (get m other)) (is_eq-slice_cmp other path ∙ apart)

elsewhere_removed : {X : Type 0} (m : TextMap X) (path other : List ℕ) → bytes_eq other path ≡ false → get (remove m path) other ≡ get m other
elsewhere_removed m path other apart = get-remove nat_list_cmp_total m path other ∙ ap (λ b. cond b None (get m other)) (is_eq-slice_cmp other path ∙ apart)

here : {X : Type 0} (m : TextMap X) (path : List ℕ) (x : X) (other : List ℕ) → bytes_eq other path ≡ true → get (insert m path x) other ≡ Some x
here m path x other same = get-insert nat_list_cmp_total m path x other ∙ ap (λ b. cond b (Some x) (get m other)) (is_eq-slice_cmp other path ∙ same)

-- ---- one text changes

pub disk_differs : (t : Texts) (path text : List ℕ) → SameBut path t (with_disk t path text)
unfolding text_at
disk_differs t path text = record { others = λ other apart. ap (shown (get t.opened other)) (elsewhere t.disk path text other apart); root = refl }

pub disk_dropped : (t : Texts) (path : List ℕ) → SameBut path t (without_disk t path)
unfolding text_at
disk_dropped t path = record { others = λ other apart. ap (shown (get t.opened other)) (elsewhere_removed t.disk path other apart); root = refl }

pub open_differs : (t : Texts) (path : List ℕ) (document : OpenText) → SameBut path t (with_open t path document)
unfolding text_at
open_differs t path document = record { others = λ other apart. ap (λ o. shown o (get t.disk other)) (elsewhere t.opened path document other apart); root = refl }

pub open_dropped : (t : Texts) (path : List ℕ) → SameBut path t (without_open t path)
unfolding text_at
open_dropped t path = record { others = λ other apart. ap (λ o. shown o (get t.disk other)) (elsewhere_removed t.opened path other apart); root = refl }

-- an open document has its text
pub open_shows : (t : Texts) (path : List ℕ) (document : OpenText) → text_at (with_open t path document) path ≡ Some document.text
unfolding text_at
open_shows t path document = ap (λ o. shown o (get t.disk path)) (here t.opened path document path ((bytes_eq-Decides path path).1 refl))

-- ---- what is meant by each call

not_ok : {A : Type 0} (e : DocError) (t : Texts) → ◌≡◌ {A = Result Texts DocError} (Err e) (Ok t) → A
not_ok e t is = absurd (subst is_err is tt)
  where
    is_err : Result Texts DocError → Type 0
    is_err (Ok x) = ⊥
    is_err (Err x) = Unit {0}

same_ok : (t t' : Texts) → ◌≡◌ {A = Result Texts DocError} (Ok t) (Ok t') → t ≡ t'
same_ok t t' is = ap (texts_or t) is
  where
    texts_or : Texts → Result Texts DocError → Texts
    texts_or other (Ok x) = x
    texts_or other (Err x) = other

-- a refusal that doesn't come
passes : (b : Bool) (e : DocError) (r : Result Texts DocError) (t : Texts) → cond b (Err e) r ≡ Ok t → r ≡ Ok t
passes true e r t is = not_ok e t is
passes false e r t is = is

fits_is : (files bytes : ℕ) (t t' : Texts) → allowed files bytes t ≡ Ok t' → t ≡ t'
unfolding allowed
fits_is files bytes t t' is = same_ok t t' (passes (nat_lt most_bytes bytes) TooMuchText (Ok t) t' (passes (nat_lt most_files files) TooManyFiles _ t' is))

bytes_differ : (t t' : Texts) (path : List ℕ) (bytes : Option (List ℕ)) → with_bytes t path bytes ≡ Ok t' → SameBut path t t'
unfolding with_bytes
bytes_differ t t' path None is = subst (SameBut path t) (same_ok (without_disk t path) t' is) (disk_dropped t path)
bytes_differ t t' path (Some bytes) is =
    subst (SameBut path t) (fits_is _ _ (with_disk t path bytes) t' (passes (nat_lt longest_text (length bytes)) TooLong _ t' (passes (not (is_utf8 bytes)) NotText _ t' is))) (disk_differs t path bytes)

pub loaded_differs : (t t' : Texts) (path : List ℕ) (bytes : Option (List ℕ)) → loaded t path bytes ≡ Ok t' → SameBut path t t'
unfolding loaded
loaded_differs t t' path bytes is = bytes_differ t t' path bytes (passes (is_outside t path) OutsideRoot _ t' is)

pub found_differs : (t t' : Texts) (path : List ℕ) (found : Found) → with_found t path found ≡ Ok t' → SameBut path t t'
found_differs t t' path found.Absent is = loaded_differs t t' path None is
found_differs t t' path found.TooLarge is = not_ok TooLong t' (passes (is_outside t path) OutsideRoot (Err TooLong) t' is)
found_differs t t' path (found.Bytes bytes) is = loaded_differs t t' path (Some bytes) is

-- an opened or changed document differs, and has a text
pub record IsEdit (path : List ℕ) (t t' : Texts) : Type 0 where
  pub others : SameBut path t t'
  pub text : List ℕ
  pub shows : text_at t' path ≡ Some text

open_edits : (t t' : Texts) (path : List ℕ) (document : OpenText) → with_open t path document ≡ t' → IsEdit path t t'
open_edits t t' path document is = subst (IsEdit path t) is (record { others = open_differs t path document; text = document.text; shows = open_shows t path document })

pub opened_edits : (t t' : Texts) (path uri : List ℕ) (version : ℤ) (text : List ℕ) → opened t path uri version text ≡ Ok t' → IsEdit path t t'
unfolding opened
opened_edits t t' path uri version text is =
    open_edits t t' path _ (fits_is _ _ _ t' (passes (nat_lt longest_text (length text)) TooLong _ t' (passes (contains_key t.opened path) AlreadyOpen _ t' (passes (is_outside t path) OutsideRoot _ t' is))))

text_edits : (t t' : Texts) (path uri : List ℕ) (version : ℤ) (text : Result (List ℕ) DocError) → with_text t path uri version text ≡ Ok t' → IsEdit path t t'
text_edits t t' path uri version (Ok text) is = open_edits t t' path _ (fits_is _ _ _ t' is)
text_edits t t' path uri version (Err e) is = not_ok e t' is

changes_edit : (t t' : Texts) (path : List ℕ) (version : ℤ) (changes : List Change) (enc : Encoding) (document : Option OpenText) →
    with_changes t path version changes enc document ≡ Ok t' → IsEdit path t t'
changes_edit t t' path version changes enc None is = not_ok NotOpen t' is
changes_edit t t' path version changes enc (Some document) is = text_edits t t' path document.uri version (all_edited document.text changes enc) is

pub changed_edits : (t t' : Texts) (path : List ℕ) (version : ℤ) (changes : List Change) (enc : Encoding) → changed t path version changes enc ≡ Ok t' → IsEdit path t t'
unfolding changed
changed_edits t t' path version changes enc is = changes_edit t t' path version changes enc (get t.opened path) (passes (is_outside t path) OutsideRoot _ t' is)

closes_if : (b : Bool) (t t' : Texts) (path : List ℕ) → cond b (Ok (without_open t path)) (Err NotOpen) ≡ Ok t' → SameBut path t t'
closes_if true t t' path is = subst (SameBut path t) (same_ok (without_open t path) t' is) (open_dropped t path)
closes_if false t t' path is = not_ok NotOpen t' is

pub closed_differs : (t t' : Texts) (path : List ℕ) → closed t path ≡ Ok t' → SameBut path t t'
unfolding closed
closed_differs t t' path is = closes_if (contains_key t.opened path) t t' path (passes (is_outside t path) OutsideRoot _ t' is)

-- what settled differs there at most
pub settled_differs : (log_of : DocError → List ℕ) (l l' : Loading) (path : List ℕ) (r : Result Texts DocError) →
    ((t : Texts) → r ≡ Ok t → SameBut path l.texts t) → l' ≡ settles log_of l r → SameBut path l.texts l'.texts
settled_differs log_of l l' path (Ok t) differs is = subst (λ (x : Loading). SameBut path l.texts x.texts) (sym is) (differs t refl)
settled_differs log_of l l' path (Err e) differs is = subst (λ (x : Loading). SameBut path l.texts x.texts) (sym is) (record { others = λ other apart. refl; root = refl })

-- ---- what is remembered

some_same : {X : Type 0} (x y : X) → Some x ≡ Some y → x ≡ y
some_same x y is = ap (λ o. unwrap_or o x) is

not_none : {A X : Type 0} (x : X) → Some x ≡ None → A
not_none x is = absurd (subst (λ o. T (is_some o)) is tt)

none_of : {X : Type 0} (o : Option X) → is_some o ≡ false → o ≡ None
none_of None is = refl
none_of (Some x) is = absurd (subst T is tt)

some_is_there : {A X : Type 0} (o : Option X) → is_some o ≡ true → o ≡ None → A
some_is_there None is none = absurd (subst T (sym is) tt)
some_is_there (Some x) is none = not_none x none

-- the texts that were remembered, as far as another file goes, and then at the file itself
module _ (start : Texts) (m : Prior) (t t' : Texts) (path : List ℕ) (differs : SameBut path t t') (is : IsPrior start m t) where
  abbrev kept : Prior
  kept = insert m path (text_at t path)

  held_by : (same contains : Bool) (other : List ℕ) (text : Option (List ℕ)) → bytes_eq other path ≡ same → contains_key m path ≡ contains →
      get (cond contains m kept) other ≡ Some text → text ≡ text_at start other
  held_by same true other text e c g = is.held other text g
  held_by true false other text e c g =
      some_same _ _ (sym g ∙ here m path (text_at t path) other e) ∙ is.rest path (none_of (get m path) c) ∙ ap (text_at start) (sym ((bytes_eq-Decides other path).0 e))
  held_by false false other text e c g = is.held other text (sym (elsewhere m path (text_at t path) other e) ∙ g)

  rest_by : (same contains : Bool) (other : List ℕ) → bytes_eq other path ≡ same → contains_key m path ≡ contains →
      get (cond contains m kept) other ≡ None → text_at t' other ≡ text_at start other
  rest_by false true other e c g = differs.others other e ∙ is.rest other g
  rest_by false false other e c g = differs.others other e ∙ is.rest other (sym (elsewhere m path (text_at t path) other e) ∙ g)
  rest_by true true other e c g = some_is_there (get m path) c (ap (get m) (sym ((bytes_eq-Decides other path).0 e)) ∙ g)
  rest_by true false other e c g = not_none (text_at t path) (sym (here m path (text_at t path) other e) ∙ g)

  pub prior_kept : IsPrior start (remembered m t path) t'
  unfolding remembered
  prior_kept = record {
    held = λ other text g. held_by (bytes_eq other path) (contains_key m path) other text refl refl g;
    rest = λ other g. rest_by (bytes_eq other path) (contains_key m path) other refl refl g;
  }

-- a text is remembered, and changes
pub keeps_prior : (m : Prior) (t t' : Texts) (path : List ℕ) → SameBut path t t' → KeepsPrior m t (remembered m t path) t'
keeps_prior m t t' path differs = record { earlier = λ start is. prior_kept start m t t' path differs is; root = differs.root }

pub keeps_then : (m m' m'' : Prior) (t t' t'' : Texts) → KeepsPrior m t m' t' → KeepsPrior m' t' m'' t'' → KeepsPrior m t m'' t''
keeps_then m m' m'' t t' t'' first second = record { earlier = λ start is. second.earlier start (first.earlier start is); root = second.root ∙ first.root }
