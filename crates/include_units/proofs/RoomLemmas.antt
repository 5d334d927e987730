-- What is left out behind the limit of output tokens makes no difference.
use Rattle.std.proofs.Common.{◌≡◌, ◌<◌, ◌≤◌, ◌⊎◌, inl, inr, refl, sym, ap, ◌∙◌, subst, arith, ℕ, ◌+◌, ◌-◌, Bool, true, false, not, ◌&&◌, ◌||◌, T, List, [], ◌∷◌, ◌++◌, length, take, drop, get_or, slice_get, codes, nat_lt, Option, None, Some, is_some, option_map, if◌then◌else◌}
use Rattle.std.specs.List.{list_any}
use Rattle.std.proofs.lemmas.List.{append-nil, length-append, take-append-drop, take_all, length-take-le}
use Rattle.std.proofs.lemmas.Option.{slice_get_cases}
use Rattle.tok_data.specs.declared.sources.TokId.{TokId}
use Rattle.tok_data.specs.declared.tokens.OutToken.{OutToken}
use Rattle.macro_expand.specs.declared.types.Expanded.{Expanded}
use Rattle.macro_expand.specs.declared.types.Within.{Within}
use Rattle.macro_expand.specs.Expansion.{Definitions, expanded}
use Rattle.macro_expand.specs.Room.{within}
use Rattle.pp_cond.specs.Defined.{is_word}
use Rattle.asking.specs.Asking.{Gives, and_then}
use Rattle.asking.specs.LookUps.{Looked, Ends, Needs, and_look, look_up, run_by}
use Rattle.include_units.specs.declared.types.FileAnswer.{FileAnswer}
use Rattle.include_units.specs.Files.{files}
use Rattle.include_units.specs.Texts.{Text}
use Rattle.include_units.specs.Made.{Made, definitions, with_fault}
use Rattle.include_units.specs.Runs as runs
use Rattle.include_units.specs.Runs.{Run, run, lines_in, expand_again, expand_in, expanded_run, with_expansion, with_run, without_pragmas, opens_pragma, is_pragma, most_tokens, dropped, kept, with_token, with_output}
use Rattle.include_units.specs.Parted.{run_behind}
use Rattle.include_units.specs.Rooms.{AreLines, wanted, within_again, unless_asked, within_in, hides_pragma}
use Rattle.include_units.proofs.Resting.{and_assoc}
use Rattle.include_units.proofs.Runnings.{run_and, run_then}

-- ---- `_Pragma`

neither : (a b : Bool) → (a || b) ≡ false → (a ≡ false) × (b ≡ false)
neither true b e = absurd (subst (λ x. T (not x)) (sym e) tt)
neither false b e = (refl, e)

-- no `_Pragma` is in the front
no_pragmas : (xs ys : List OutToken) → list_any (is_word (codes "_Pragma")) xs ≡ false → without_pragmas 0 (xs ++ ys) ≡ xs ++ without_pragmas 0 ys
no_pragmas [] ys e = refl
no_pragmas (t ∷ xs) ys e =
    let both = neither (is_word (codes "_Pragma") t) (list_any (is_word (codes "_Pragma")) xs) e in
    ap (λ b. if b && opens_pragma (xs ++ ys) then without_pragmas 3 (xs ++ ys) else t ∷ without_pragmas 0 (xs ++ ys)) both.0
    ∙ ap (λ us. t ∷ us) (no_pragmas xs ys both.1)

-- ---- the limit

IsFull : Made → Type 0
IsFull m = (m.full ≡ true) × (nat_lt (length m.tokens) most_tokens ≡ false)

more_output : (xs ys : List OutToken) (m : Made) → with_output (xs ++ ys) m ≡ with_output ys (with_output xs m)
more_output [] ys m = refl
more_output (t ∷ xs) ys m = more_output xs ys (with_token t m)

token_dropped : (t : OutToken) (m : Made) → nat_lt (length m.tokens) most_tokens ≡ false → with_token t m ≡ dropped t m
token_dropped t m e = ap (λ b. if b then kept t m else dropped t m) e

full_stays : (ys : List OutToken) (m : Made) → IsFull m → with_output ys m ≡ m
unfolding IsFull
full_stays [] m h = refl
full_stays (t ∷ ys) m h =
    ap (with_output ys) (token_dropped t m h.1 ∙ ap (λ b. if b then m else with_fault 228 t.site [] (record m { full = true })) h.0) ∙ full_stays ys m h

by_full : (t : OutToken) (m : Made) (b : Bool) → nat_lt (length m.tokens) most_tokens ≡ false → m.full ≡ b → IsFull (if b then m else with_fault 228 t.site [] (record m { full = true }))
unfolding IsFull
by_full t m true h e = (e, h)
by_full t m false h e = (refl, h)

dropped_full : (t : OutToken) (m : Made) → nat_lt (length m.tokens) most_tokens ≡ false → IsFull (with_token t m)
dropped_full t m h = subst IsFull (sym (token_dropped t m h)) (by_full t m m.full h refl)

after_token : (t : OutToken) (xs : List OutToken) (m : Made) → ((n : Made) → length xs ≡ wanted n → IsFull (with_output xs n)) →
    (b : Bool) → nat_lt (length m.tokens) most_tokens ≡ b → length xs + 1 ≡ wanted m → IsFull (with_output xs (with_token t m))
after_token t xs m again true h e =
    let k : with_token t m ≡ kept t m = ap (λ b. if b then kept t m else dropped t m) h in
    let lt : length m.tokens < most_tokens = grind (arith, h) in
    let more : length (m.tokens ++ t ∷ []) ≡ length m.tokens + 1 = length-append m.tokens (t ∷ []) in
    let fewer : length xs ≡ (most_tokens - (length m.tokens + 1)) + 1 = omega (arith, lt, e) in
    subst (λ n. IsFull (with_output xs n)) (sym k) (again (kept t m) (fewer ∙ ap (λ n. (most_tokens - n) + 1) (sym more)))
after_token t [] m again false h e = dropped_full t m h
after_token t (x ∷ xs) m again false h e =
    let ge : most_tokens ≤ length m.tokens = grind (arith, h) in
    absurd (omega (arith, ge, e))

-- with one token more than there is room for it is full
fills : (xs : List OutToken) (m : Made) → length xs ≡ wanted m → IsFull (with_output xs m)
fills [] m e = absurd (omega (arith, e))
fills (t ∷ xs) m e = after_token t xs m (fills xs) (nat_lt (length m.tokens) most_tokens) refl (omega (arith, e))

-- what is behind so many tokens makes no difference
behind_full : (xs ys : List OutToken) (m : Made) → length xs ≡ wanted m → list_any (is_word (codes "_Pragma")) xs ≡ false →
    with_output (without_pragmas 0 (xs ++ ys)) m ≡ with_output (without_pragmas 0 xs) m
behind_full xs ys m e h =
    ap (λ us. with_output us m) (no_pragmas xs ys h)
    ∙ more_output xs (without_pragmas 0 ys) m
    ∙ full_stays (without_pragmas 0 ys) (with_output xs m) (fills xs m e)
    ∙ ap (λ us. with_output us m) (sym (append-nil xs) ∙ sym (no_pragmas xs [] h) ∙ ap (without_pragmas 0) (append-nil xs))

cut_output : (ts : List OutToken) (m : Made) (room : ℕ) → room ≡ wanted m →
    (is_some (option_map (λ (t : OutToken). t.site) (slice_get ts room)) && list_any (is_word (codes "_Pragma")) (take room ts)) ≡ false →
    with_output (without_pragmas 0 (take room ts)) m ≡ with_output (without_pragmas 0 ts) m
cut_output ts m room e h = by_cases (slice_get_cases ts room).1
  where
    by_cases : ((x : OutToken) × (room < length ts) × (slice_get ts room ≡ Some x) × (get_or ts room x ≡ x)) ⊎ ((length ts ≤ room) × (slice_get ts room ≡ None)) →
        with_output (without_pragmas 0 (take room ts)) m ≡ with_output (without_pragmas 0 ts) m
    by_cases (inl g) =
        let short : room ≤ length ts = omega (arith, g.1) in
        let none : list_any (is_word (codes "_Pragma")) (take room ts) ≡ false =
        sym (ap (λ o. is_some (option_map (λ (t : OutToken). t.site) o) && list_any (is_word (codes "_Pragma")) (take room ts)) g.2) ∙ h in
        sym (behind_full (take room ts) (drop room ts) m (length-take-le room ts short ∙ e) none)
        ∙ ap (λ us. with_output (without_pragmas 0 us) m) (take-append-drop room ts)
    by_cases (inr g) = ap (λ us. with_output (without_pragmas 0 us) m) (take_all room ts g.0)

-- ---- a run

cut_run : (e : Expanded) (m : Made) (room : ℕ) → room ≡ wanted m → hides_pragma (within room e) ≡ false →
    with_output (without_pragmas 0 (within room e).expanded.tokens) (with_expansion (within room e).expanded m) ≡ with_run (run e.tokens (with_expansion e m))
cut_run e m room i h = cut_output e.tokens (with_expansion e m) room i h

module _ (text : Text) (ts : List OutToken) (room : ℕ) (m : Made) where
  asked_as : (e : Expanded) (o : Option TokId) →
      unless_asked (within_again text ts room m) (within room e) o ≡ and_then (runs.unless_asked (expand_again text ts m) e o) (λ x. Gives (within room x))
  asked_as e None = refl
  asked_as e (Some site) =
      sym (and_assoc (lines_in text.source ts) (λ lines. Gives (expanded (definitions m) lines m.left ts)) (λ x. Gives (within room x)))

  within_as : within_in text ts room m ≡ and_then (expand_in text ts m) (λ x. Gives (within room x))
  within_as = asked_as (expanded (definitions m) [] m.left ts) (expanded (definitions m) [] m.left ts).asked

abbrev came : Looked files Within → Within → Within
came (Ends w) other = w
came (Needs qs) other = other

abbrev is_end : Looked files Within → Type 0
is_end (Ends x) = Unit {0}
is_end (Needs qs) = ⊥

abbrev kept_of : ℕ → Expanded → Looked files Within
kept_of room e = Ends (within room e)

abbrev ended : Within → Looked files Within
ended w = Ends w

abbrev ended_with : Made → Looked files Made
ended_with m = Ends m

came_of : (l : Looked files Expanded) (room : ℕ) (w : Within) → and_look l (kept_of room) ≡ Ends w → (e : Expanded) × (l ≡ Ends e) × (within room e ≡ w)
came_of (Ends e) room w h = (e, refl, ap (λ l. came l w) h)
came_of (Needs qs) room w h = absurd (subst is_end (sym h) tt)

-- what is left out makes no difference
pub cut_comes : (answers : List (List ℕ × FileAnswer)) (text : Text) (ts : List OutToken) (m m1 m2 : Made) (room : ℕ) (w : Within) (out : List OutToken) →
    room ≡ wanted m → run_by (look_up files answers) (within_in text ts room m) ≡ Ends w → hides_pragma w ≡ false →
    out ≡ w.expanded.tokens → m1 ≡ with_expansion w.expanded m → m2 ≡ with_output (without_pragmas 0 out) m1 →
    run_by (look_up files answers) (run_behind text ts m) ≡ Ends m2
cut_comes answers text ts m m1 m2 room w out i h none o a b =
    let found = came_of (run_by (look_up files answers) (expand_in text ts m)) room w
    (sym (run_and (look_up files answers) (expand_in text ts m) (λ x. Gives (within room x))) ∙ ap (run_by (look_up files answers)) (sym (within_as text ts room m)) ∙ h) in
    run_then (look_up files answers) (expanded_run text ts m) (λ r. Gives (with_run r)) (run found.0.tokens (with_expansion found.0 m))
    (run_then (look_up files answers) (expand_in text ts m) (λ e. Gives (run e.tokens (with_expansion e m))) found.0 found.1)
    ∙ ap ended_with (sym (comes_to found.0 found.2))
  where
    comes_to : (e : Expanded) → within room e ≡ w → m2 ≡ with_run (run e.tokens (with_expansion e m))
    comes_to e f =
        b ∙ ap (λ us. with_output (without_pragmas 0 us) m1) o ∙ ap (with_output (without_pragmas 0 w.expanded.tokens)) a
        ∙ sym (ap (λ x. with_output (without_pragmas 0 x.expanded.tokens) (with_expansion x.expanded m)) f)
        ∙ cut_run e m room i (ap hides_pragma f ∙ none)

-- where the lines are known, they may be given at once; `quiet` says that where none is asked for they make no difference
pub lines_known : (quiet : (table : Definitions) (lines : List (TokId × ℕ)) (budget : ℕ) (tokens : List OutToken) → (expanded table [] budget tokens).asked ≡ None →
    expanded table [] budget tokens ≡ expanded table lines budget tokens) →
    (answers : List (List ℕ × FileAnswer)) (text : Text) (ts : List OutToken) (room : ℕ) (m : Made) (lines : List (TokId × ℕ)) (w : Within) →
    AreLines answers text.source ts lines → w ≡ within room (expanded (definitions m) lines m.left ts) →
    run_by (look_up files answers) (within_in text ts room m) ≡ Ends w
lines_known quiet answers text ts room m lines w e i = step (expanded (definitions m) [] m.left ts).asked refl ∙ ap ended (sym i)
  where
    step : (o : Option TokId) → (expanded (definitions m) [] m.left ts).asked ≡ o →
        run_by (look_up files answers) (unless_asked (within_again text ts room m) (within room (expanded (definitions m) [] m.left ts)) o) ≡ ended (within room (expanded (definitions m) lines m.left ts))
    step None h = ap (λ x. ended (within room x)) (quiet (definitions m) lines m.left ts h)
    step (Some site) h = run_then (look_up files answers) (lines_in text.source ts) (λ ls. Gives (within room (expanded (definitions m) ls m.left ts))) lines e
