-- A walk goes by steps. Each lemma has the shape of a loop's invariant: what is done and what is left make an outcome.
use Rattle.std.proofs.Common.{◌≡◌, ℕ, ◌<◌, ◌≤◌, subst, map, refl, List, [], ◌∷◌, ◌++◌, ap, sym, ◌∙◌, append_assoc}
use Rattle.std.proofs.Common.{Option, Bool, true, false, if◌then◌else◌}
use Rattle.std.proofs.lemmas.List.{append-nil}
use Rattle.std.specs.Prelude.{Some, None, MatchOption}
use Rattle.tok_data.specs.declared.sources.TokId.{TokId}
use Rattle.tok_data.specs.declared.tokens.OutToken.{OutToken}
use Rattle.macro_expand.specs.declared.types.Marked.{Marked}
use Rattle.macro_expand.specs.declared.types.Progress.{Progress}
use Rattle.macro_expand.specs.declared.types.Outcome.{Outcome}
use Rattle.macro_expand.specs.declared.expanding.Step.{Step}
use Rattle.macro_expand.specs.declared.machine.Walked.{Walked}
use Rattle.macro_expand.specs.declared.machine.Frame.{Frame}
use Rattle.macro_expand.specs.Ties.Codes.{Names}
use Rattle.macro_expand.specs.Ties.Numbers.{reals}
use Rattle.macro_expand.specs.Expansion as spec
use Rattle.macro_expand.specs.Ties.Steps as steps
use Rattle.macro_expand.specs.Ties.Machine as work
use Rattle.macro_expand.proofs.Bounds.{expansion_steps}

-- an outcome with some tokens
abbrev pub told : Progress → List Marked → Outcome
told p ts = record { progress = p; tokens = ts }

-- what comes of a list's first token
abbrev pub stepped : spec.Definitions → List (TokId × ℕ) → Progress → Marked → List Marked → Outcome
stepped table lines p t ts =
    steps.after (spec.expansion table lines)
    (steps.step_by (spec.expansion table lines) t ts (spec.found table lines p t ts))

pub front_joins : (front : List Marked) (t : Marked) (o : Outcome)
    → spec.with_front (front ++ t ∷ []) o ≡ spec.with_front front (spec.with_front (t ∷ []) o)
front_joins front t o = ap (told o.progress) (append_assoc front (t ∷ []) o.tokens)

-- where something that a list's first token makes stands behind what is done
pub whole_turns : (table : spec.Definitions) (lines : List (TokId × ℕ)) (p : Progress) (front front' : List Marked)
    (t : Marked) (ts rest : List Marked) (made o : Outcome)
    → rest ≡ t ∷ ts → made ≡ stepped table lines p t ts → front' ≡ front
    → spec.with_front front (spec.expansion table lines p rest) ≡ o → spec.with_front front' made ≡ o
whole_turns table lines p front front' t ts rest made o begins is front_is same =
    ap (λ (f : List Marked). spec.with_front f made) front_is
    ∙ ap (spec.with_front front) (is ∙ sym (expansion_steps table lines p t ts))
    ∙ ap (λ (r : List Marked). spec.with_front front (spec.expansion table lines p r)) (sym begins)
    ∙ same

-- a token is kept
pub whole_kept : (table : spec.Definitions) (lines : List (TokId × ℕ)) (p : Progress) (front front' : List Marked)
    (t : Marked) (ts rest rest' : List Marked) (s : Step) (u : Marked) (o : Outcome)
    → rest ≡ t ∷ ts → steps.after (spec.expansion table lines) s ≡ stepped table lines p t ts → s.kept ≡ Some u
    → front' ≡ front ++ u ∷ [] → rest' ≡ s.rest
    → spec.with_front front (spec.expansion table lines p rest) ≡ o
    → spec.with_front front' (spec.expansion table lines s.progress rest') ≡ o
whole_kept table lines p front front' t ts rest rest' s u o begins is kept pushed left same =
    ap (λ (f : List Marked). spec.with_front f (spec.expansion table lines s.progress rest')) pushed
    ∙ ap (λ (r : List Marked). spec.with_front (front ++ u ∷ []) (spec.expansion table lines s.progress r)) left
    ∙ front_joins front u (spec.expansion table lines s.progress s.rest)
    ∙ ap (spec.with_front front) (sym (ap (steps.after_by (spec.expansion table lines) s.progress s.rest) kept))
    ∙ ap (spec.with_front front) (is ∙ sym (expansion_steps table lines p t ts))
    ∙ ap (λ (r : List Marked). spec.with_front front (spec.expansion table lines p r)) (sym begins)
    ∙ same

-- an ordinary name is kept, and so is a token that is no name
stopped_or : (lines : List (TokId × ℕ)) (p : Progress) (t : Marked) (ts : List Marked) (stopped : Bool)
    (s : spec.Sense) → (if stopped then spec.Stays p else spec.found_by lines p t ts s)
    ≡ spec.found_by lines p t ts (if stopped then spec.Ordinary else s)
stopped_or lines p t ts true s = refl
stopped_or lines p t ts false s = refl

pub found_sense : (table : spec.Definitions) (lines : List (TokId × ℕ)) (p : Progress) (t : Marked) (ts : List Marked)
    → spec.found table lines p t ts ≡ spec.found_by lines p t ts (steps.sense table p.stopped t)
unfolding spec.found
found_sense table lines p t ts = stopped_or lines p t ts p.stopped (spec.meaning table t)

-- what comes of a name by what it means
pub stepped_by : (table : spec.Definitions) (lines : List (TokId × ℕ)) (p : Progress) (t : Marked) (ts : List Marked)
    (s : spec.Sense) (made : Outcome) → s ≡ steps.sense table p.stopped t
    → made ≡ steps.after (spec.expansion table lines)
    (steps.step_by (spec.expansion table lines) t ts (spec.found_by lines p t ts s))
    → made ≡ stepped table lines p t ts
stepped_by table lines p t ts s made means is =
    is ∙ ap (λ (x : spec.Found). steps.after (spec.expansion table lines)
    (steps.step_by (spec.expansion table lines) t ts x))
    (ap (spec.found_by lines p t ts) means ∙ sym (found_sense table lines p t ts))

pub whole_ordinary : (table : spec.Definitions) (lines : List (TokId × ℕ)) (p : Progress) (front front' : List Marked)
    (t : Marked) (ts rest : List Marked) (o : Outcome) → spec.Ordinary ≡ steps.sense table p.stopped t
    → rest ≡ t ∷ ts → front' ≡ front ++ t ∷ []
    → spec.with_front front (spec.expansion table lines p rest) ≡ o
    → spec.with_front front' (spec.expansion table lines p ts) ≡ o
whole_ordinary table lines p front front' t ts rest o means begins pushed same =
    whole_kept table lines p front front' t ts rest ts (steps.kept_step p t ts) t o begins
    (stepped_by table lines p t ts spec.Ordinary (steps.after (spec.expansion table lines) (steps.kept_step p t ts))
    means refl) refl pushed refl same

-- another token is put in its place
pub whole_put : (table : spec.Definitions) (lines : List (TokId × ℕ)) (p : Progress) (front front' : List Marked)
    (t : Marked) (ts rest : List Marked) (s : Step) (o : Outcome)
    → rest ≡ t ∷ ts → steps.after (spec.expansion table lines) s ≡ stepped table lines p t ts → s.kept ≡ None
    → front' ≡ front
    → spec.with_front front (spec.expansion table lines p rest) ≡ o
    → spec.with_front front' (spec.expansion table lines s.progress s.rest) ≡ o
whole_put table lines p front front' t ts rest s o begins is kept front_is same =
    whole_turns table lines p front front' t ts rest (spec.expansion table lines s.progress s.rest) o begins
    (sym (ap (steps.after_by (spec.expansion table lines) s.progress s.rest) kept) ∙ is) front_is same

pub whole_ends : (table : spec.Definitions) (lines : List (TokId × ℕ)) (p : Progress) (front : List Marked)
    → spec.with_front front (spec.expansion table lines p []) ≡ told p front
unfolding spec.expansion
whole_ends table lines p front = ap (told p) (append-nil front)

-- nothing is left
pub whole_done : (f : Names → Names) (table : spec.Definitions) (lines : List (TokId × ℕ)) (w : Walked)
    → w.rest ≡ [] → steps.whole f table lines w ≡ told w.progress (reals f w.done)
whole_done f table lines w none =
    ap (λ (r : List Marked). spec.with_front (reals f w.done) (spec.expansion table lines w.progress (reals f r))) none
    ∙ whole_ends table lines w.progress (reals f w.done)

pub kept_nearer : (s : Step) (left : ℕ) (ts : List Marked) (u : Marked)
    → steps.IsNearer s left ts → s.kept ≡ Some u → s.progress.left ≤ left
kept_nearer s left ts u near kept =
    (subst (λ (k : Option Marked). MatchOption k (s.progress.left < left) (λ t. (s.progress.left ≤ left)
    × (s.rest ≡ ts))) kept near).0

pub put_nearer : (s : Step) (left : ℕ) (ts : List Marked)
    → steps.IsNearer s left ts → s.kept ≡ None → s.progress.left < left
put_nearer s left ts near kept =
    subst (λ (k : Option Marked). MatchOption k (s.progress.left < left) (λ t. (s.progress.left ≤ left)
    × (s.rest ≡ ts))) kept near

-- a level is at its end, and a replacement waits for it
pub level_ends : (f : Names → Names) (table : spec.Definitions) (lines : List (TokId × ℕ)) (w : Walked)
    (waiting : Frame) (others frames : List Frame) (made o : Outcome) → w.rest ≡ [] → frames ≡ waiting ∷ others
    → made ≡ work.resume f (spec.expansion table lines) (waiting ∷ others) (told w.progress (reals f w.done))
    → work.resume f (spec.expansion table lines) frames (steps.whole f table lines w) ≡ o → made ≡ o
level_ends f table lines w waiting others frames made o none begins is same =
    is
    ∙ ap (work.resume f (spec.expansion table lines) (waiting ∷ others)) (sym (whole_done f table lines w none))
    ∙ ap (λ (l : List Frame). work.resume f (spec.expansion table lines) l (steps.whole f table lines w)) (sym begins)
    ∙ same

-- what is told of an outcome reads no hide set
pub bare_real : (f : Names → Names) (ts : List Marked)
    → map (λ (t : Marked). t.token) (reals f ts) ≡ map (λ (t : Marked). t.token) ts
bare_real f [] = refl
bare_real f (t ∷ ts) = ap (λ (more : List OutToken). t.token ∷ more) (bare_real f ts)
