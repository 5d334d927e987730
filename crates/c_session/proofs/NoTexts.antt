-- What is kept of no texts: nothing.
use Rattle.std.proofs.Common.{◌≡◌, ℕ, Bool, true, false, ◌||◌, List, [], ◌∷◌, None, is_some, map, take, length, bytes_eq, refl, sym, ap, ◌∙◌, cond, not, subst, true≢false}
use Rattle.std.proofs.lemmas.Slice.Eq.{bytes_eq-Decides}
use Rattle.std.specs.List.{filter, list_any}
use Rattle.std.specs.Cmp.Lexicographic.{slice_cmp}
use Rattle.std.specs.FinMap.{get-empty}
use Rattle.std.specs.Ordering.{nat_cmp}
use Rattle.doc_texts.specs.Texts as docs
use Rattle.doc_texts.specs.Texts.{Texts, text_at, texts_under, paths_of}
use Rattle.plain_mean.specs.Lists.{shown_in}
use Rattle.plain_mean.specs.Given.{text_in}
use Rattle.plain_mean.specs.Renewed.{has_other, is_renewed, questions, renewed}
use Rattle.plain_mean.specs.Same.{same_conf}
use Rattle.plain_mean.specs.Shown.{units, most_units, is_unit_of}
use Rattle.plain_mean.specs.Within.{AreWithin}
use Rattle.plain_mean.specs.declared.types.Shown.{Shown}
use Rattle.project_conf.specs.Entries.{unit_conf}
use Rattle.project_conf.specs.declared.conf.Conf.{Conf}
use Rattle.c_session.specs.Kept.{AreGrounds, HasLexed, IsAnalysis}
use Rattle.c_session.specs.Units.{crossed, known, known_unit}
use Rattle.c_session.specs.declared.analysis.Analysis.{Analysis}
use Rattle.c_session.proofs.Nothing.{nothing_of}

no_text : (path : List ℕ) → text_at (texts_under None) path ≡ None
unfolding text_at
no_text path = λ i. docs.shown (get-empty (slice_cmp nat_cmp) path i) (get-empty (slice_cmp nat_cmp) path i)

within_none : (limit : ℕ) (list : List Shown) → list ≡ [] → AreWithin limit list
within_none limit list is = subst (AreWithin limit) (sym is) tt

left_false : (a b : Bool) → (a || b) ≡ false → a ≡ false
left_false true b h = h
left_false false b h = refl

empty_paths : (ps : List (List ℕ)) → ((q : List ℕ) → list_any (bytes_eq q) ps ≡ false) → ps ≡ []
empty_paths [] none = refl
empty_paths (p ∷ ps) none = absurd (true≢false (sym ((bytes_eq-Decides p p).1 refl) ∙ left_false (bytes_eq p p) (list_any (bytes_eq p) ps) (none p)))

no_units : (conf : Conf) → paths_of (texts_under None) ≡ [] → units (texts_under None) conf ≡ []
unfolding units
no_units conf none = ap (λ ps. take most_units (filter (is_unit_of (texts_under None) conf) ps)) none

none_known : (conf : Conf) → units (texts_under None) conf ≡ [] → known (texts_under None) conf ≡ []
unfolding known
none_known conf none = ap (map (known_unit (texts_under None) conf)) none

none_crossed : crossed [] ≡ []
unfolding crossed
none_crossed = refl

pub nothing : ((t : Texts) (q : List ℕ) → list_any (bytes_eq q) (paths_of t) ≡ is_some (text_at t q)) → (conf : Conf) (kept : Analysis) → ((path : List ℕ) → shown_in kept.shown path ≡ []) →
    kept.units.items ≡ [] → kept.grounds.items ≡ [] → kept.across.items ≡ [] → HasLexed (texts_under None) kept → IsAnalysis (texts_under None) conf kept
nothing members conf kept none empty no_grounds no_warning lexed =
    let units_none = no_units conf (empty_paths (paths_of (texts_under None)) (λ q. members (texts_under None) q ∙ ap is_some (no_text q))) in
    record {
      shown = record {
        right = λ path. none path ∙ sym (nothing_of (texts_under None) conf path (no_text path));
        within = λ path. within_none (length (text_in (texts_under None) path)) (shown_in kept.shown path) (none path);
      };
      units = empty ∙ sym (none_known conf units_none);
      grounds = subst (λ us. AreGrounds (texts_under None) conf us kept.grounds.items) (sym units_none) (subst (AreGrounds (texts_under None) conf []) (sym no_grounds) tt);
      lexed = lexed;
      across = no_warning ∙ sym none_crossed ∙ ap crossed (sym (none_known conf units_none));
    }

-- ---- where there were no texts

keep_all : (f : List ℕ → Bool) (us : List (List ℕ)) → ((u : List ℕ) → f u ≡ true) → filter f us ≡ us
keep_all f [] all = refl
keep_all f (u ∷ us) all = ap (λ b. cond b (u ∷ filter f us) (filter f us)) (all u) ∙ ap (λ rest. u ∷ rest) (keep_all f us all)

-- each unit is new
pub all_renewed : ((t : Texts) (q : List ℕ) → list_any (bytes_eq q) (paths_of t) ≡ is_some (text_at t q)) → (t : Texts) (c c' : Conf) → renewed (texts_under None) c t c' ≡ units t c'
unfolding renewed
all_renewed members t c c' =
    let none = no_units c (empty_paths (paths_of (texts_under None)) (λ q. members (texts_under None) q ∙ ap is_some (no_text q))) in
    keep_all (is_renewed (texts_under None) c t c') (units t c')
    (λ u. ap (λ us. not (list_any (bytes_eq u) us) || (not (same_conf (unit_conf c u) (unit_conf c' u)) || list_any (has_other (texts_under None) t) (questions (texts_under None) c u))) none)
