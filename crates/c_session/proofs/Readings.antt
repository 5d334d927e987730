-- How units are read follows from the options, the root and the database's text.
use Rattle.std.proofs.Common.{◌≡◌, ℕ, Bool, true, false, not, List, Option, None, Some, option_and_then, refl, sym, ap, ◌∙◌, true≢false}
use Rattle.std.specs.Option.{option_map_or}
use Rattle.std.proofs.lemmas.Slice.Eq.{bytes_eq-Decides}
use Rattle.doc_texts.specs.Texts.{Texts, text_at, same_text}
use Rattle.doc_texts.specs.Prior.{Prior, is_changed}
use Rattle.project_conf.specs.declared.conf.Conf.{Conf}
use Rattle.project_conf.specs.declared.options.Options.{Options}
use Rattle.plain_mean.specs.Confs.{base_of, folders_from, database_in, database_path, read_as, read_at, database_of, units_read, conf_of}
use Rattle.c_session.specs.Ties.News.{IsPrior, KeepsPrior, other_database}
use Rattle.c_session.specs.Ties.Sessions.{IsRead, ReadBefore, WasRead}
use Rattle.c_session.proofs.Publications.{changed}

-- ---- where it is kept

pub was_read : (options : Options) (before now : Texts) (prior : Prior) (read : Option Conf) → IsPrior before prior now → now.root ≡ before.root → IsRead (conf_of options before) read → WasRead options prior now read
was_read options before now prior None is root kept = tt
was_read options before now prior (Some conf) is root kept = record { before = before; since = is; root = root; was = kept.0; usable = kept.1 }

pub read_further : (options : Options) (prior last : Prior) (t t' : Texts) (read : Option Conf) → KeepsPrior prior t last t' → WasRead options prior t read → WasRead options last t' read
read_further options prior last t t' None keeps was = tt
read_further options prior last t t' (Some conf) keeps was = record { before = was.before; since = keeps.earlier was.before was.since; root = keeps.root ∙ was.root; was = was.was; usable = was.usable }

-- ---- where the database's text stays

not_false : (b : Bool) → not b ≡ false → b ≡ true
not_false true h = refl
not_false false h = absurd (true≢false h)

same_is : (a b : Option (List ℕ)) → same_text a b ≡ true → a ≡ b
same_is None None e = refl
same_is None (Some u) e = absurd (true≢false (sym e))
same_is (Some t) None e = absurd (true≢false (sym e))
same_is (Some t) (Some u) e = ap Some ((bytes_eq-Decides t u).0 e)

module _ (t t' : Texts) where
  by_path : (root : List ℕ) (path : Option (List ℕ)) → ((p : List ℕ) → path ≡ Some p → text_at t' p ≡ text_at t p) → read_at t' root path ≡ read_at t root path
  by_path root None same = refl
  by_path root (Some p) same = ap (option_and_then (read_as root)) (same p refl)

  by_root : (root : Option (List ℕ)) → ((p : List ℕ) → database_path root ≡ Some p → text_at t' p ≡ text_at t p) →
      option_and_then (λ r. read_at t' r (database_in r)) root ≡ option_and_then (λ r. read_at t r (database_in r)) root
  by_root None same = refl
  by_root (Some root) same = by_path root (database_in root) same

  module _ (root : t'.root ≡ t.root) (same : (p : List ℕ) → database_path t.root ≡ Some p → text_at t' p ≡ text_at t p) where
    same_database : database_of t' ≡ database_of t
    unfolding database_of
    same_database = ap (option_and_then (λ r. read_at t' r (database_in r))) root ∙ by_root t.root same

    same_conf : (options : Options) → conf_of options t' ≡ conf_of options t
    same_conf options = λ i. record {
      root = root i;
      includes = folders_from (base_of (root i)) options.includes;
      defines = options.defines;
      database = units_read (same_database i);
    }

pub still_read : (options : Options) (prior : Prior) (now : Texts) (conf : Conf) (differs : Bool) → ReadBefore options prior now conf → differs ≡ other_database prior now → differs ≡ false → conf ≡ conf_of options now
still_read options prior now conf differs was told none =
    was.was
    ∙ sym (same_conf was.before now was.root
    (λ p at. sym (same_is (text_at was.before p) (text_at now p) (not_false _ (sym (changed prior was.before now was.since p)
    ∙ sym (ap (λ o. option_map_or (is_changed prior now) o false) (ap database_path was.root ∙ at)) ∙ sym told ∙ none))))
    options)
