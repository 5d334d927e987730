-- Faults that are counted, file by file.
use Rattle.std.proofs.Common.{◌≡◌, ℕ, ◌+◌, List, [], ◌∷◌, length, sum_by, refl, sym, ap, ◌∙◌, arith}
use Rattle.std.proofs.lemmas.List.Sums.{sum_by-cons}
use Rattle.doc_texts.specs.Texts.{paths_of}
use Rattle.plain_mean.specs.Lists.{shown_in}
use Rattle.plain_mean.specs.Shown.{units}
use Rattle.plain_mean.specs.declared.lists.ShownLists.{ShownLists}
use Rattle.c_session.specs.Counts.{counts_of}
use Rattle.c_session.specs.Shown.{conf_in, shows}
use Rattle.c_session.specs.Ties.Sessions.{IsKept, current_state}
use Rattle.c_session.specs.declared.counts.Counts.{Counts}
use Rattle.c_session.specs.declared.current.Current.{Current}

-- what each of some files shows
abbrev pub each_shown : ShownLists → List ℕ → ℕ
each_shown lists path = length (shown_in lists path)

-- one file more is counted
pub one_more : (lists : ShownLists) (total total' count all : ℕ) (path : List ℕ) (rest behind : List (List ℕ)) → rest ≡ path ∷ behind → count ≡ each_shown lists path → total' ≡ total + count →
    total + sum_by (each_shown lists) rest ≡ all → total' + sum_by (each_shown lists) behind ≡ all
one_more lists total total' count all path rest behind first one more sum =
    let parts : sum_by (each_shown lists) rest ≡ each_shown lists path + sum_by (each_shown lists) behind =
    ap (sum_by (each_shown lists)) first ∙ sum_by-cons (each_shown lists) path behind in
    omega (arith, parts, one, more, sum)

same_sum : (f g : List ℕ → ℕ) → ((path : List ℕ) → f path ≡ g path) → (paths : List (List ℕ)) → sum_by f paths ≡ sum_by g paths
same_sum f g same [] = refl
same_sum f g same (path ∷ paths) =
    sum_by-cons f path paths ∙ ap (λ n. n + sum_by f paths) (same path) ∙ ap (λ n. g path + n) (same_sum f g same paths) ∙ sym (sum_by-cons g path paths)

pub counts_are : (c : Current) (paths : List (List ℕ)) (count total : ℕ) → IsKept c → paths ≡ paths_of c.docs → count ≡ length (units c.docs (conf_in (current_state c))) →
    total ≡ sum_by (each_shown c.kept.shown) paths → record { units = count; faults = total } ≡ counts_of (current_state c)
counts_are c paths count total kept all counted summed =
    ap (λ (n : ℕ). record { units = n; faults = total }) counted
    ∙ ap (λ (n : ℕ). record { units = length (units c.docs (conf_in (current_state c))); faults = n })
    (summed ∙ ap (sum_by (each_shown c.kept.shown)) all ∙ same_sum (each_shown c.kept.shown) (λ path. length (shows (current_state c) path)) (λ path. ap length (kept.0.shown.right path)) (paths_of c.docs))
