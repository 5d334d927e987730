-- Laws of files that are read into the texts.
use Rattle.std.proofs.Common.{◌≡◌, ◌<◌, ◌+◌, ℕ, suc, arith, length, map, drop, get_or, drop-cons, List, ◌∷◌, Option, Some, option_map, Bool, true, cond, refl, sym, ap, ◌∙◌, subst}
use Rattle.io_edges.specs.Store.{Entry, Lists, Reads, ListCall, ReadCall, after_answer}
use Rattle.io_edges.specs.declared.ends.Found.{Found}
use Rattle.io_edges.specs.declared.ends.Listed.{Listed}
use Rattle.doc_texts.specs.Texts.{Texts, texts_under}
use Rattle.c_session.specs.Asking.{Asking, Gives, asks_read}
use Rattle.c_session.specs.Files.{with_found, to_load, unreadable_logs}
use Rattle.c_session.specs.Handled.{Reached}
use Rattle.c_session.specs.Ties.Interrupted.{Refused, GaveUp, IsFault}
use Rattle.c_session.specs.Loading.{Loading, with_file, loads, loads_root, settles, load_log, is_read, read_back, updates_at, updates_all}
use Rattle.c_session.specs.Params.{FileChange}
use Rattle.c_session.specs.Reasons.{by_uri}
use Rattle.uri_paths.specs.Uris.{path_of_uri}
use Rattle.c_session.specs.declared.error.SessionError.{SessionError}
use Rattle.c_session.proofs.Asking.{was_read, was_listed, stays, reached_same, goes_on, goes_then, gave_up, refused_then, refused_behind, stopped_at}

-- one more file was read and taken
pub loads_turns : (t : Asking Loading) (l : Loading) (rest : List (List ℕ)) (old between new : Option (List Entry))
    (path : List ℕ) (paths : List (List ℕ)) (found : Found) (l' : Loading) →
    Reached t (loads l rest) old between → rest ≡ path ∷ paths → new ≡ option_map (after_answer (Reads path found)) between → l' ≡ with_file l path found →
    Reached t (loads l' paths) old new
loads_turns t l rest old between new path paths found l' reached is read took =
    goes_on (subst (λ ps. Reached t (loads l ps) old between) is reached)
    (subst (λ x. Reached (loads l (path ∷ paths)) (loads x paths) between new) (sym took) (was_read path (λ f. loads (with_file l path f) paths) found between new read))

-- the store refused to read one
pub loads_stops : (t : Asking Loading) (l : Loading) (rest : List (List ℕ)) (old between new : Option (List Entry)) (faults middle faults' : ℕ)
    (path : List ℕ) (paths : List (List ℕ)) (e : SessionError) →
    Reached t (loads l rest) old between → rest ≡ path ∷ paths → new ≡ between → middle ≡ faults → IsFault e middle faults' → Refused e t old new faults faults'
loads_stops t l rest old between new faults middle faults' path paths e reached is same kept fault =
    stopped_at t (loads l (path ∷ paths)) (ReadCall path) e old between new faults middle faults' (subst (λ ps. Reached t (loads l ps) old between) is reached) refl same kept fault

-- ---- the file of a document that was closed

-- a file that is read, by the root that is there
pub reads_it : (r root : Option (List ℕ)) (path : List ℕ) (b : Bool) → r ≡ root → b ≡ is_read r path → b ≡ true → is_read root path ≡ true
reads_it r root path b same is test = sym (ap (λ o. is_read o path) same) ∙ sym is ∙ test

abbrev read_behind : Loading → List ℕ → Asking Loading
read_behind l path = asks_read path (λ found. Gives (settles (load_log path) l (with_found l.texts path found)))

pub back_asks : (l : Loading) (path : List ℕ) (old : Option (List Entry)) → is_read l.texts.root path ≡ true → Reached (read_back l path) (read_behind l path) old old
back_asks l path old is = reached_same (read_back l path) (read_behind l path) old (ap (λ b. cond b (read_behind l path) (Gives l)) is)

-- the file was read and taken
pub back_read : (l : Loading) (path : List ℕ) (found : Found) (l' : Loading) (old new : Option (List Entry)) →
    is_read l.texts.root path ≡ true → new ≡ option_map (after_answer (Reads path found)) old → l' ≡ settles (load_log path) l (with_found l.texts path found) →
    Reached (read_back l path) (Gives l') old new
back_read l path found l' old new is read took =
    goes_on (back_asks l path old is) (subst (λ x. Reached (read_behind l path) (Gives x) old new) (sym took) (was_read path _ found old new read))

-- the store refused to read it
pub back_stops : (l : Loading) (path : List ℕ) (e : SessionError) (old new : Option (List Entry)) (faults faults' : ℕ) →
    is_read l.texts.root path ≡ true → new ≡ old → IsFault e faults faults' → Refused e (read_back l path) old new faults faults'
back_stops l path e old new faults faults' is same fault =
    stopped_at (read_back l path) (read_behind l path) (ReadCall path) e old old new faults faults faults' (back_asks l path old is) refl same refl fault

-- ---- the files of a root

abbrev under_root : List ℕ → List Listed → Asking Loading
under_root root found = loads (record { texts = texts_under (Some root); logs = unreadable_logs found }) (to_load root found)

-- the store listed the files
pub root_listed : (root : List ℕ) (found : List Listed) (docs : Texts) (logs : List ℕ) (paths : List (List ℕ)) (old new : Option (List Entry)) →
    new ≡ option_map (after_answer (Lists root found)) old → docs ≡ texts_under (Some root) → logs ≡ unreadable_logs found → paths ≡ to_load root found →
    Reached (loads_root (Some root)) (loads (record { texts = docs; logs = logs }) paths) old new
root_listed root found docs logs paths old new listed is_docs are_logs are_paths =
    subst (λ t. Reached (loads_root (Some root)) t old new)
    (ap (λ (d : Texts). loads (record { texts = d; logs = unreadable_logs found }) (to_load root found)) (sym is_docs)
    ∙ ap (λ (l : List ℕ). loads (record { texts = docs; logs = l }) (to_load root found)) (sym are_logs)
    ∙ ap (λ (ps : List (List ℕ)). loads (record { texts = docs; logs = logs }) ps) (sym are_paths))
    (was_listed root (under_root root) found old new listed)

-- memory was wanted then
pub root_wants : (root : List ℕ) (found : List Listed) (old new : Option (List Entry)) →
    new ≡ option_map (after_answer (Lists root found)) old → GaveUp (loads_root (Some root)) old new
root_wants root found old new listed = gave_up (was_listed root (under_root root) found old new listed)

-- the store refused to list them
pub root_stops : (root : List ℕ) (e : SessionError) (old new : Option (List Entry)) (faults faults' : ℕ) →
    new ≡ old → IsFault e faults faults' → Refused e (loads_root (Some root)) old new faults faults'
root_stops root e old new faults faults' same fault =
    stopped_at (loads_root (Some root)) (loads_root (Some root)) (ListCall root) e old old new faults faults faults' (stays (loads_root (Some root)) old) refl same refl fault

-- ---- files that changed

one_more : (i : ℕ) → suc i ≡ i + 1
one_more i = omega arith

-- one more change was taken over
pub changes_turn : {V : Type 0} (see : V → FileChange) (start : Asking Loading) (l l' : Loading) (xs : List V) (i : ℕ) (d : V) (old between new : Option (List Entry)) →
    i < length xs → Reached start (updates_all l (map see (drop i xs))) old between →
    Reached (updates_at l (see (get_or xs i d)).kind (by_uri (path_of_uri (see (get_or xs i d)).uri))) (Gives l') between new →
    Reached start (updates_all l' (map see (drop (i + 1) xs))) old new
changes_turn see start l l' xs i d old between new below r s =
    subst (λ n. Reached start (updates_all l' (map see (drop n xs))) old new) (one_more i)
    (goes_on (subst (λ ys. Reached start (updates_all l (map see ys)) old between) (drop-cons xs i d below) r)
    (goes_then _ (Gives l') between new (λ m. updates_all m (map see (drop (suc i) xs))) s))

-- one was refused
pub changes_stop : {V : Type 0} (see : V → FileChange) (start : Asking Loading) (l : Loading) (xs : List V) (i : ℕ) (d : V) (old between new : Option (List Entry)) (faults middle faults' : ℕ) (e : SessionError) →
    i < length xs → Reached start (updates_all l (map see (drop i xs))) old between → middle ≡ faults →
    Refused e (updates_at l (see (get_or xs i d)).kind (by_uri (path_of_uri (see (get_or xs i d)).uri))) between new middle faults' →
    Refused e start old new faults faults'
changes_stop see start l xs i d old between new faults middle faults' e below r kept h =
    refused_behind start (updates_all l (map see (get_or xs i d ∷ drop (suc i) xs))) old between new faults middle faults' e
    (subst (λ ys. Reached start (updates_all l (map see ys)) old between) (drop-cons xs i d below) r) kept
    (refused_then _ between new middle faults' (λ m. updates_all m (map see (drop (suc i) xs))) e h)
