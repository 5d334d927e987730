-- What is written by what is kept of an earlier moment is what is published, file by file.
use Rattle.std.proofs.Common.{◌≡◌, ℕ, Bool, true, false, not, cond, List, [], ◌∷◌, ◌++◌, flat_map, ◌||◌, Option, Some, None, is_some, sym, refl, ap, ◌∙◌, true≢false, bytes_eq}
use Rattle.std.specs.FinMap.{get, keys}
use Rattle.std.specs.List.{list_any, filter}
use Rattle.std.specs.Option.{option_map_or}
use Rattle.std.proofs.lemmas.Bool.{or_right}
use Rattle.std.proofs.lemmas.Slice.Eq.{bytes_eq-Decides}
use Rattle.doc_texts.specs.Texts.{Texts, text_at, same_text, path_set, paths_of, marked, add_all}
use Rattle.doc_texts.specs.Prior.{Prior, is_changed}
use Rattle.plain_mean.specs.Confs.{database_path, database_fault}
use Rattle.c_session.specs.Ties.News.{IsPrior, ByPath, is_told, news, may_have_news, database_news, tidings}
use Rattle.c_session.specs.Shown.{shows, has_news, is_published, publication, publications, fault_log, database_logs}
use Rattle.c_session.specs.State.{State}
use Rattle.c_session.proofs.Nothing.{nothing_of}
use Rattle.c_session.proofs.PathSets.{ties, keys_rise, same_filtered, flat_map_tested, has_path_of_two, has_kept}

-- ---- texts that differ

pub same_itself : (text : Option (List ℕ)) → same_text text text ≡ true
same_itself None = refl
same_itself (Some text) = (bytes_eq-Decides text text).1 refl

module _ (prior : Prior) (start now : Texts) (is : IsPrior start prior now) (path : List ℕ) where
  changed_by : (r : Option (Option (List ℕ))) → get prior path ≡ r →
      option_map_or (λ kept. not (same_text kept (text_at now path))) r false ≡ not (same_text (text_at start path) (text_at now path))
  changed_by None found = ap not (sym (same_itself (text_at start path)) ∙ ap (same_text (text_at start path)) (sym (is.rest path found)))
  changed_by (Some text) found = ap (λ t. not (same_text t (text_at now path))) (is.held path text found)

  -- whether a text differs is told by what is remembered
  pub changed : is_changed prior now path ≡ not (same_text (text_at start path) (text_at now path))
  unfolding is_changed
  changed = changed_by (get prior path) refl

  -- a file that had a text and has none now is remembered
  kept_by : (r : Option (Option (List ℕ))) → get prior path ≡ r → is_some (text_at start path) ≡ true → is_some (text_at now path) ≡ false → is_some r ≡ true
  kept_by None found before after = absurd (true≢false (sym before ∙ ap is_some (sym (is.rest path found)) ∙ after))
  kept_by (Some text) found before after = refl

  pub kept_or_there : (b : Bool) → is_some (text_at now path) ≡ b → (is_some (text_at start path) || is_some (text_at now path)) ≡ true →
      (is_some (get prior path) || is_some (text_at now path)) ≡ true
  kept_or_there true there either = ap (λ b. is_some (get prior path) || b) there ∙ or_right (is_some (get prior path)) true refl
  kept_or_there false gone either =
      ap (λ b. b || is_some (text_at now path)) (kept_by (get prior path) refl (before (is_some (text_at start path)) (ap (λ b. is_some (text_at start path) || b) (sym gone) ∙ either)) gone)
    where
      before : (b : Bool) → (b || false) ≡ true → b ≡ true
      before true h = refl
      before false h = h

-- ---- files that are published

quiet : (s s' : State) (path : List ℕ) → text_at s.texts path ≡ None → text_at s'.texts path ≡ None →
    has_news (shows s path) (shows s' path) (not (same_text (text_at s.texts path) (text_at s'.texts path))) ≡ false
quiet s s' path before after = rw (nothing_of s.texts _ path before, nothing_of s'.texts _ path after, before, after) refl

module _ (touched : List (List ℕ)) (s s' : State) (there : (q : List ℕ) → list_any (bytes_eq q) touched ≡ true → is_some (text_at s'.texts q) ≡ true) where
  -- a file that is published has a text at one of the two moments
  one_text : (path : List ℕ) (a b : Option (List ℕ)) → text_at s.texts path ≡ a → text_at s'.texts path ≡ b → is_published touched s s' path ≡ true → (is_some a || is_some b) ≡ true
  one_text path (Some a) b before after passes = refl
  one_text path None (Some b) before after passes = refl
  one_text path None None before after passes =
      absurd (true≢false (sym (there path (ap (λ b. b || list_any (bytes_eq path) touched) (sym (quiet s s' path before after)) ∙ passes)) ∙ ap is_some after))

  module _ (prior : Prior) (is : IsPrior s.texts prior s'.texts) (before after : ByPath) (was : (path : List ℕ) → before path ≡ shows s path) (are : (path : List ℕ) → after path ≡ shows s' path) where
    same_test : (path : List ℕ) → is_told touched before after prior s'.texts path ≡ is_published touched s s' path
    same_test path = λ i. has_news (was path i) (are path i) (changed prior s.texts s'.texts is path i) || list_any (bytes_eq path) touched

    alike : (q : List ℕ) → is_published touched s s' q ≡ true → list_any (ties q) (may_have_news prior s'.texts) ≡ list_any (ties q) (path_set (paths_of s.texts ++ paths_of s'.texts))
    alike q passes =
        let some : (is_some (text_at s.texts q) || is_some (text_at s'.texts q)) ≡ true = one_text q (text_at s.texts q) (text_at s'.texts q) refl refl passes in
        has_kept prior s'.texts q ∙ kept_or_there prior s.texts s'.texts is q (is_some (text_at s'.texts q)) refl some
        ∙ sym (has_path_of_two s.texts s'.texts q ∙ some)

    pub news_published : news touched s'.encoding before after prior s'.texts ≡ publications touched s s'
    news_published =
        flat_map_tested (is_told touched before after prior s'.texts) (λ path. publication s'.encoding s'.texts (after path) path) (may_have_news prior s'.texts)
        ∙ (λ i. flat_map (λ path. publication s'.encoding s'.texts (are path i) path) (filter (λ path. same_test path i) (may_have_news prior s'.texts)))
        ∙ ap (flat_map (λ path. publication s'.encoding s'.texts (shows s' path) path))
        (same_filtered (is_published touched s s') (may_have_news prior s'.texts) (path_set (paths_of s.texts ++ paths_of s'.texts))
        (keys_rise (add_all (marked (keys prior)) (paths_of s'.texts))) (keys_rise (marked (paths_of s.texts ++ paths_of s'.texts))) alike)

-- ---- the database

-- whether its text differs is told by what is remembered
database_told : (s s' : State) (prior : Prior) → IsPrior s.texts prior s'.texts → database_news prior s'.texts ≡ database_logs s s'
unfolding database_news database_logs
database_told s s' prior is =
    λ i. cond (option_map_or (λ path. changed prior s.texts s'.texts is path i) (database_path s'.texts.root) false) (fault_log (database_fault s'.texts)) []

-- ---- all that is told

none_touched : (t : Texts) (q : List ℕ) → list_any (bytes_eq q) [] ≡ true → is_some (text_at t q) ≡ true
none_touched t q among = absurd (true≢false (sym among))

-- where nothing was opened or changed
pub news_told : (s s' : State) (prior : Prior) (before after : ByPath) → IsPrior s.texts prior s'.texts → ((path : List ℕ) → before path ≡ shows s path) → ((path : List ℕ) → after path ≡ shows s' path) →
    tidings [] s'.encoding before after prior s'.texts ≡ database_logs s s' ++ publications [] s s'
news_told s s' prior before after is was are =
    λ i. database_told s s' prior is i ++ news_published [] s s' (none_touched s'.texts) prior is before after was are i

one_touched : (t : Texts) (path q : List ℕ) (b : Bool) → bytes_eq q path ≡ b → is_some (text_at t path) ≡ true → (b || false) ≡ true → is_some (text_at t q) ≡ true
one_touched t path q true same some among = ap (λ x. is_some (text_at t x)) ((bytes_eq-Decides q path).0 same) ∙ some
one_touched t path q false same some among = absurd (true≢false (sym among))

-- where a document was, which has a text
pub touched_told : (s s' : State) (path : List ℕ) (prior : Prior) (before after : ByPath) → is_some (text_at s'.texts path) ≡ true → IsPrior s.texts prior s'.texts →
    ((path : List ℕ) → before path ≡ shows s path) → ((path : List ℕ) → after path ≡ shows s' path) →
    tidings (path ∷ []) s'.encoding before after prior s'.texts ≡ database_logs s s' ++ publications (path ∷ []) s s'
touched_told s s' path prior before after some is was are =
    λ i. database_told s s' prior is i ++ news_published (path ∷ []) s s' (λ q among. one_touched s'.texts path q (bytes_eq q path) refl some among) prior is before after was are i
