-- What is kept in turn is the front of the whole.
use Rattle.std.proofs.Common.{◌≡◌, ℕ, zero, suc, ◌+◌, ◌-◌, ◌<◌, nat_lt, Bool, true, false, List, [], ◌∷◌, ◌++◌}
use Rattle.std.proofs.Common.{length, take, drop, map, refl, ap, sym, ◌∙◌, arith, append_assoc, if◌then◌else◌}
use Rattle.std.proofs.lemmas.List.{append-nil, length-append, length-take, take_all, map-append}
use Rattle.std.proofs.lemmas.Bool.{le-ltb, lt-ltb}
use Rattle.std.specs.Prelude.{Option, Some, None, option_map, slice_get}
use Rattle.tok_data.specs.declared.sources.TokId.{TokId}
use Rattle.tok_data.specs.declared.tokens.OutToken.{OutToken}
use Rattle.macro_expand.specs.declared.types.Marked.{Marked}
use Rattle.macro_expand.specs.declared.types.Progress.{Progress}
use Rattle.macro_expand.specs.declared.types.Outcome.{Outcome}
use Rattle.macro_expand.specs.declared.types.Expanded.{Expanded}
use Rattle.macro_expand.specs.declared.types.Within.{Within}
use Rattle.macro_expand.specs.declared.keeping.Kept.{Kept}
use Rattle.macro_expand.specs.declared.keeping.Held.{Held}
use Rattle.macro_expand.specs.declared.machine.Frame.{Frame}
use Rattle.macro_expand.specs.Ties.Codes.{Names}
use Rattle.macro_expand.specs.Ties.Stands.{Stands}
use Rattle.macro_expand.specs.Ties.Numbers.{real, reals}
use Rattle.macro_expand.specs.Substitution.{Expander}
use Rattle.macro_expand.specs.Tokens.{plain}
use Rattle.macro_expand.specs.Ties.Rests.{laid}
use Rattle.macro_expand.specs.Expansion as spec
use Rattle.macro_expand.specs.Ties.Machine as work
use Rattle.macro_expand.specs.Ties.Steps as steps
use Rattle.macro_expand.specs.Room.{within}
use Rattle.macro_expand.specs.Ties.Keeping as keeping
use Rattle.macro_expand.specs.Ties.Keeping.{put, keep, bare, held, nothing_kept, first_of}
use Rattle.macro_expand.proofs.SetLemmas.{stands_for, table_stands}
use Rattle.macro_expand.proofs.NumberLemmas.{plains_real}
use Rattle.macro_expand.proofs.WalkLemmas.{bare_real, whole_ordinary}

pub keep_append : (room : ℕ) (xs ys : List OutToken) (k : Kept) → keep room (xs ++ ys) k ≡ keep room ys (keep room xs k)
keep_append room [] ys k = refl
keep_append room (x ∷ xs) ys k = keep_append room xs ys (put room x k)

-- the first token of a list, or the one before them
abbrev first_or : Option TokId → List OutToken → Option TokId
first_or first [] = first
first_or first (t ∷ ts) = first_of first t.site

first_again : (first : Option TokId) (site : TokId) (ts : List OutToken)
    → first_or (first_of first site) ts ≡ first_of first site
first_again None site [] = refl
first_again None site (t ∷ ts) = refl
first_again (Some x) site [] = refl
first_again (Some x) site (t ∷ ts) = refl

put_full : (room : ℕ) (t : OutToken) (k : Kept) → nat_lt (length k.tokens) room ≡ false
    → put room t k ≡ record k { left_out = first_of k.left_out t.site }
unfolding put
put_full room t k full =
    ap (λ (b : Bool). if b then (let more : Kept = record k { tokens = k.tokens ++ t ∷ [] } in more)
    else record k { left_out = first_of k.left_out t.site }) full

put_fits : (room : ℕ) (t : OutToken) (k : Kept) → nat_lt (length k.tokens) room ≡ true
    → put room t k ≡ record k { tokens = k.tokens ++ t ∷ [] }
unfolding put
put_fits room t k fits =
    ap (λ (b : Bool). if b then (let more : Kept = record k { tokens = k.tokens ++ t ∷ [] } in more)
    else record k { left_out = first_of k.left_out t.site }) fits

-- where there is no room left
keep_full : (room : ℕ) (ts : List OutToken) (k : Kept) → nat_lt (length k.tokens) room ≡ false
    → keep room ts k ≡ record k { left_out = first_or k.left_out ts }
keep_full room [] k full = refl
keep_full room (t ∷ ts) k full =
    ap (keep room ts) (put_full room t k full)
    ∙ keep_full room ts (record k { left_out = first_of k.left_out t.site }) full
    ∙ ap (λ (o : Option TokId). (let more : Kept = record k { left_out = o } in more)) (first_again k.left_out t.site ts)

first_is : (ts : List OutToken) → first_or None ts ≡ option_map (λ (t : OutToken). t.site) (slice_get ts 0)
first_is [] = refl
first_is (t ∷ ts) = refl

keep_part : (room n : ℕ) (ts : List OutToken) (k : Kept) → length k.tokens + n ≡ room → k.left_out ≡ None
    → keep room ts k
    ≡ record { tokens = k.tokens ++ take n ts; left_out = option_map (λ (t : OutToken). t.site) (slice_get ts n) }
keep_part room zero ts k full none =
    let past : nat_lt (length k.tokens) room ≡ false = le-ltb (length k.tokens) room (omega (arith, full)) in
    keep_full room ts k past
    ∙ ap (λ (o : Option TokId). (let more : Kept = record k { left_out = o } in more))
    (ap (λ (o : Option TokId). first_or o ts) none ∙ first_is ts)
    ∙ ap (λ (l : List OutToken). (let more : Kept = record {
      tokens = l;
      left_out = option_map (λ (t : OutToken). t.site) (slice_get ts 0);
    } in more)) (sym (append-nil k.tokens))
keep_part room (suc n) [] k left none =
    ap (λ (o : Option TokId). (let more : Kept = record k { left_out = o } in more)) none
    ∙ ap (λ (l : List OutToken). (let more : Kept = record { tokens = l; left_out = None } in more))
    (sym (append-nil k.tokens))
keep_part room (suc n) (t ∷ ts) k left none =
    let fits : nat_lt (length k.tokens) room ≡ true = lt-ltb (length k.tokens) room (omega (arith, left)) in
    let longer : length (k.tokens ++ t ∷ []) ≡ length k.tokens + 1 = length-append k.tokens (t ∷ []) in
    ap (keep room ts) (put_fits room t k fits)
    ∙ keep_part room n ts (record k { tokens = k.tokens ++ t ∷ [] }) (omega (arith, left, longer)) none
    ∙ ap (λ (l : List OutToken). (let more : Kept = record {
      tokens = l;
      left_out = option_map (λ (u : OutToken). u.site) (slice_get ts n);
    } in more)) (append_assoc k.tokens (t ∷ []) (take n ts))

-- what is told of an expansion
told_by_within : (room budget : ℕ) (o : Outcome) (asked : Option TokId)
    → keeping.told_by budget (held room nothing_kept o) asked ≡ within room (spec.told_by budget o asked)
told_by_within room budget o None =
    ap (λ (k : Kept). keeping.told_by budget (record { progress = o.progress; kept = k }) None)
    (keep_part room room (bare o.tokens) nothing_kept (omega arith) refl)
told_by_within room budget o (Some site) =
    ap (λ (ts : List OutToken). (let all : Within = record {
      expanded = record {
        tokens = ts;
        used = budget - o.progress.left;
        faults = [];
        spelled = [];
        macros = [];
        asked = Some site;
      };
      left_out = None;
    } in all)) (sym (take_all room [] (omega arith)))

pub within_is : (table : spec.Definitions) (lines : List (TokId × ℕ)) (room budget : ℕ) (tokens : List OutToken)
    (sets : List Names) (p : Progress) (h : Held) → p ≡ spec.at_first budget
    → ((f : Names → Names) → Stands f sets
    → h ≡ held room nothing_kept (spec.expansion table lines p (reals f (map plain tokens))))
    → keeping.told budget h ≡ within room (spec.expanded table lines budget tokens)
within_is table lines room budget tokens sets p h begun is =
    let f : Names → Names = stands_for sets in
    let whole : Outcome = spec.expansion table lines (spec.at_first budget) (map plain tokens) in
    ap (keeping.told budget) (is f (table_stands sets)
    ∙ ap (held room nothing_kept)
    (ap (λ (q : Progress). spec.expansion table lines q (reals f (map plain tokens))) begun
    ∙ ap (spec.expansion table lines (spec.at_first budget)) (plains_real f refl tokens)))
    ∙ told_by_within room budget whole whole.progress.asked

-- where fewer are told than there is room for, all are
pub all_within : (room : ℕ) (e : Expanded) (w : Within) → w ≡ within room e → length w.expanded.tokens < room
    → w.expanded ≡ e
all_within room e w is fewer =
    let count = length-take room e.tokens in
    let told : length w.expanded.tokens ≡ length (take room e.tokens) =
    ap (λ (v : Within). length v.expanded.tokens) is in
    ap (λ (v : Within). v.expanded) is
    ∙ ap (λ (ts : List OutToken). (let all : Expanded = record e { tokens = ts } in all))
    (take_all room e.tokens (omega (arith, count, told, fewer)))

-- the first token of a list is kept
pub skimmed : (f : Names → Names) (table : spec.Definitions) (lines : List (TokId × ℕ)) (room : ℕ) (p : Progress)
    (k k' : Kept) (rest rest' : List Marked) (stopped : Bool)
    → ((t : Marked) × ((rest ≡ t ∷ drop 1 rest) × (spec.Ordinary ≡ steps.sense table stopped (real f t))))
    → p.stopped ≡ stopped → rest' ≡ drop 1 rest → k' ≡ keep room (bare (take 1 rest)) k
    → held room k' (spec.expansion table lines p (reals f rest')) ≡ held room k (spec.expansion table lines p (reals f rest))
skimmed f table lines room p k k' rest rest' stopped first going left kept =
    let t : Marked = first.0 in
    let begins : rest ≡ t ∷ drop 1 rest = first.1.0 in
    let means : spec.Ordinary ≡ steps.sense table p.stopped (real f t) =
    first.1.1 ∙ ap (λ (b : Bool). steps.sense table b (real f t)) (sym going) in
    let one : k' ≡ put room t.token k = kept ∙ ap (λ (ts : List Marked). keep room (bare (take 1 ts)) k) begins in
    let o : Outcome = spec.expansion table lines p (reals f (drop 1 rest)) in
    ap (λ (ts : List Marked). held room k' (spec.expansion table lines p (reals f ts))) left
    ∙ ap (λ (j : Kept). held room j o) one
    ∙ ap (held room k) (whole_ordinary table lines p [] (real f t ∷ []) (real f t) (reals f (drop 1 rest))
    (reals f rest) (spec.expansion table lines p (reals f rest)) means (ap (reals f) begins) refl refl)

plains_laid : (f : Names → Names) → f [] ≡ [] → (front : List Marked) (behind : List OutToken) → front ≡ []
    → reals f (laid front behind) ≡ map plain behind
plains_laid f empty front behind none = ap (λ (l : List Marked). reals f (laid l behind)) none ∙ plains_real f empty behind

-- a token of which none was replaced is kept
pub plain_kept : (table : spec.Definitions) (lines : List (TokId × ℕ)) (room : ℕ) (p : Progress) (k k' : Kept)
    (t : OutToken) (all left : List OutToken) (stopped : Bool)
    → spec.Ordinary ≡ steps.sense table stopped (plain t) → p.stopped ≡ stopped → all ≡ t ∷ left → k' ≡ put room t k
    → held room k' (spec.expansion table lines p (map plain left))
    ≡ held room k (spec.expansion table lines p (map plain all))
plain_kept table lines room p k k' t all left stopped means going begins kept =
    let now : spec.Ordinary ≡ steps.sense table p.stopped (plain t) =
    means ∙ ap (λ (b : Bool). steps.sense table b (plain t)) (sym going) in
    let o : Outcome = spec.expansion table lines p (map plain left) in
    ap (λ (j : Kept). held room j o) kept
    ∙ ap (held room k) (whole_ordinary table lines p [] (plain t ∷ []) (plain t) (map plain left) (map plain all)
    (spec.expansion table lines p (map plain all)) now (ap (map plain) begins) refl refl)

-- the same where nothing was put in front
pub plains_kept : (f : Names → Names) → f [] ≡ [] → (table : spec.Definitions) (lines : List (TokId × ℕ)) (room : ℕ)
    (p : Progress) (k k' : Kept) (front : List Marked) (all left : List OutToken) → front ≡ []
    → held room k' (spec.expansion table lines p (map plain left))
    ≡ held room k (spec.expansion table lines p (map plain all))
    → held room k' (spec.expansion table lines p (reals f (laid front left)))
    ≡ held room k (spec.expansion table lines p (reals f (laid front all)))
plains_kept f empty table lines room p k k' front all left none same =
    ap (λ (ts : List Marked). held room k' (spec.expansion table lines p ts)) (plains_laid f empty front left none)
    ∙ same
    ∙ ap (λ (ts : List Marked). held room k (spec.expansion table lines p ts)) (sym (plains_laid f empty front all none))

-- tokens that leave a list where nothing waits
pub delivered : (f : Names → Names) (again : Expander) (room : ℕ) (k k' k'' : Kept) (p : Progress)
    (done none rest rest' : List Marked) (frames : List Frame) → frames ≡ [] → none ≡ [] → k' ≡ keep room (bare done) k
    → held room k'' (again p (reals f rest')) ≡ held room k' (again p (reals f rest))
    → held room k'' (work.resume f again frames (spec.with_front (reals f none) (again p (reals f rest'))))
    ≡ held room k (work.resume f again frames (spec.with_front (reals f done) (again p (reals f rest))))
delivered f again room k k' k'' p done none rest rest' frames alone empty kept skims =
    let o : Outcome = again p (reals f rest) in
    let o' : Outcome = again p (reals f rest') in
    ap (λ (l : List Frame). held room k'' (work.resume f again l (spec.with_front (reals f none) o'))) alone
    ∙ ap (λ (l : List Marked). held room k'' (spec.with_front (reals f l) o')) empty
    ∙ skims
    ∙ ap (λ (j : Kept). held room j o) kept
    ∙ ap (λ (ts : List OutToken). (let all : Held = record {
      progress = o.progress;
      kept = keep room (bare o.tokens) (keep room ts k);
    } in all)) (sym (bare_real f done))
    ∙ ap (λ (j : Kept). (let all : Held = record { progress = o.progress; kept = j } in all))
    (sym (keep_append room (bare (reals f done)) (bare o.tokens) k)
    ∙ ap (λ (ts : List OutToken). keep room ts k) (sym (map-append (λ (t : Marked). t.token) (reals f done) o.tokens)))
    ∙ ap (λ (l : List Frame). held room k (work.resume f again l (spec.with_front (reals f done) o))) (sym alone)

-- the last tokens that leave
pub kept_last : (f : Names → Names) (room : ℕ) (k k' : Kept) (p : Progress) (done : List Marked) (o : Outcome)
    → k' ≡ keep room (bare done) k → (let made : Outcome = record { progress = p; tokens = reals f done } in made) ≡ o
    → (let all : Held = record { progress = p; kept = k' } in all) ≡ held room k o
kept_last f room k k' p done o kept is =
    ap (λ (j : Kept). (let all : Held = record { progress = p; kept = j } in all))
    (kept ∙ ap (λ (ts : List OutToken). keep room ts k) (sym (bare_real f done)))
    ∙ ap (held room k) is
