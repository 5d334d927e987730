-- What units mean and ask follows from the text that each path has.
use Rattle.std.proofs.Common.{◌≡◌, ℕ, List, [], ◌++◌, Option, Some, None, is_some, unwrap_or, bytes_eq, take, nat_cmp, refl, sym, ap, ◌∙◌, true≢false}
use Rattle.std.specs.Cmp.Lexicographic.{slice_cmp, nat_list_cmp_total}
use Rattle.std.specs.FinMap.{get, keys, contains_key-keys, same_map, slice_cmp-IsAntisymmetric, nat_cmp-IsAntisymmetric}
use Rattle.std.specs.List.{list_any, filter}
use Rattle.std.specs.Ordering.{eq_by_cmp}
use Rattle.std.proofs.lemmas.Map.Text.{is_eq-slice_cmp}
use Rattle.asking.specs.LookUps.{asked}
use Rattle.c_tokens.specs.Lexed.{lexed}
use Rattle.doc_texts.specs.Texts.{PathSet, Texts, text_at, paths_of, marked}
use Rattle.include_units.specs.Files.{Question, Exists, Text, Lines}
use Rattle.include_units.specs.Runs.{own_places}
use Rattle.include_units.specs.Units.{unit_tokens}
use Rattle.plain_mean.specs.Given.{given}
use Rattle.plain_mean.specs.Meanings.{meaning, meaning_by}
use Rattle.plain_mean.specs.Renewed.{questions}
use Rattle.plain_mean.specs.Shown.{units, most_units, is_unit_of}
use Rattle.project_conf.specs.Entries.{unit_conf}
use Rattle.project_conf.specs.declared.conf.Conf.{Conf}

-- ---- sets of paths that have the same ones

same_marks : (a b : Option (Unit {0})) → is_some a ≡ is_some b → a ≡ b
same_marks None None e = refl
same_marks None (Some u) e = absurd (true≢false (sym e))
same_marks (Some u) None e = absurd (true≢false e)
same_marks (Some u) (Some v) e = refl

any_bytes : (q : List ℕ) (paths : List (List ℕ)) → list_any (bytes_eq q) paths ≡ list_any (eq_by_cmp (slice_cmp nat_cmp) q) paths
any_bytes q paths = λ i. list_any (λ k. sym (is_eq-slice_cmp q k) i) paths

has_key : (m : PathSet) (q : List ℕ) → is_some (get m q) ≡ list_any (bytes_eq q) (keys m)
has_key m q = contains_key-keys m q ∙ sym (any_bytes q (keys m))

same_sets : (m n : PathSet) → ((q : List ℕ) → list_any (bytes_eq q) (keys m) ≡ list_any (bytes_eq q) (keys n)) → m ≡ n
same_sets m n same =
    same_map nat_list_cmp_total (slice_cmp-IsAntisymmetric nat_cmp-IsAntisymmetric) m n (λ q. same_marks (get m q) (get n q) (has_key m q ∙ same q ∙ sym (has_key n q)))

-- ---- which units there are

module _
    (members : (t : Texts) (q : List ℕ) → list_any (bytes_eq q) (paths_of t) ≡ is_some (text_at t q))
    (t t' : Texts) (held : (path : List ℕ) → is_some (text_at t' path) ≡ is_some (text_at t path)) where
  same_members : (q : List ℕ) → list_any (bytes_eq q) (paths_of t') ≡ list_any (bytes_eq q) (paths_of t)
  same_members q = members t' q ∙ held q ∙ sym (members t q)

  same_paths : paths_of t' ≡ paths_of t
  unfolding paths_of
  same_paths = ap keys (same_sets (marked (keys t'.disk ++ keys t'.opened)) (marked (keys t.disk ++ keys t.opened)) same_members)

  pub held_units : (conf : Conf) → ((path : List ℕ) → is_unit_of t' conf path ≡ is_unit_of t conf path) → units t' conf ≡ units t conf
  unfolding units
  held_units conf same_test = λ i. take most_units (filter (λ path. same_test path i) (same_paths i))

-- ---- what follows from the texts

module _
    (members : (t : Texts) (q : List ℕ) → list_any (bytes_eq q) (paths_of t) ≡ is_some (text_at t q))
    (t t' : Texts) (same : (path : List ℕ) → text_at t' path ≡ text_at t path) where
  same_given : (q : Question) → given t' q ≡ given t q
  same_given (Exists path) = ap is_some (same path)
  same_given (Text path) = ap (λ o. (lexed (unwrap_or o [])).tokens) (same path)
  same_given (Lines path) = ap (λ o. own_places (unwrap_or o [])) (same path)

  pub same_meaning : (conf : Conf) (unit : List ℕ) → meaning t' conf unit ≡ meaning t conf unit
  unfolding meaning
  same_meaning conf unit = λ i. meaning_by (λ q. same_given q i) (unit_conf conf unit)

  pub same_questions : (conf : Conf) (unit : List ℕ) → questions t' conf unit ≡ questions t conf unit
  unfolding questions
  same_questions conf unit = λ i. asked (λ q. same_given q i) (unit_tokens (unit_conf conf unit))

  pub same_units : (conf : Conf) → ((path : List ℕ) → is_unit_of t' conf path ≡ is_unit_of t conf path) → units t' conf ≡ units t conf
  same_units conf same_test = held_units members t t' (λ path. ap is_some (same path)) conf same_test
