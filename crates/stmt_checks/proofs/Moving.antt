-- Runs of the steps of a body.
use Rattle.std.proofs.Common.{◌≡◌, sym, ap, ◌∙◌, ℕ, ◌+◌, ◌<◌, List, ◌∷◌, drop, length, get_or, Result, Ok, Err, OnOk}
use Rattle.std.proofs.lemmas.List.{drop_more}
use Rattle.asking.specs.Asking.{Asking, Gives, and_then}
use Rattle.asking.specs.LookUps.{Ends, LookUp, Looked, run_by}
use Rattle.elab_state.proofs.Runs.{run_then, stops_as, stops_on}
use Rattle.elab_state.specs.Comes.{Stops}
use Rattle.elab_state.specs.Contexts.{Context}
use Rattle.elab_state.specs.declared.halt.Halt.{Halt}
use Rattle.elab_state.specs.Wants.{Told, answered, wants}
use Rattle.scope_tables.specs.Levels.{Scope}
use Rattle.stmt_acts.specs.Shown.{act_of, acts_of}
use Rattle.stmt_acts.specs.declared.acts.Act.{Act}
use Rattle.stmt_checks.specs.Acting.{Moving, acts, all_acts}
use Rattle.stmt_checks.specs.Moves.{Moves, halted}
use Rattle.stmt_checks.specs.Standings.{Standing}
use Rattle.type_data.specs.Types.{Ty}

-- what doesn't ask
pub quiet : {B E : Type 0} (told : Told) (wanted st : Standing) (r : Result B E) → OnOk r (st ≡ wanted) → Moves told (Gives wanted) (halted r) st
quiet told wanted st (Ok x) h = ap Ends (sym h)
quiet told wanted st (Err e) h = tt

-- a part behind one that came to its result
pub moves_on : {A C : Type 0} (told : Told) (d : Asking wants A) (k : A → Moving) (p : A) (r : Result C Halt) (st : Standing) →
    run_by (answered told) d ≡ Ends p → Moves told (k p) r st → Moves told (and_then d k) r st
moves_on told d k p (Ok x) st e h = run_then (answered told) d k p e ∙ h
moves_on told d k p (Err halt) st e h =
    stops_as (run_by (answered told) (and_then d k)) (run_by (answered told) (k p)) halt (run_then (answered told) d k p e) h

-- ---- one step after another, as the code finds it in its list

turned : {A : Type 0} (xs : List A) (i : ℕ) (x : A) → i < length xs → x ≡ get_or xs i x → drop i xs ≡ x ∷ drop (i + 1) xs
turned xs i x below is = drop_more xs i x below ∙ ap (λ y. y ∷ drop (i + 1) xs) (sym is)

module _ (look : LookUp wants) (c : Context) (ty : Ty) (all : List Scope) (xs : List Act) (i : ℕ) (x : Act) (st st' : Standing) (whole : Looked wants Standing)
    (below : i < length xs) (is : x ≡ get_or xs i x) (left : run_by look (all_acts c ty all (acts_of (drop i xs)) st) ≡ whole) where
  abbrev first : Moving
  first = acts c ty all (act_of x) st

  abbrev behind : Standing → Moving
  behind next = all_acts c ty all (acts_of (drop (i + 1) xs)) next

  joined : run_by look (and_then first behind) ≡ whole
  joined = ap (λ ys. run_by look (all_acts c ty all (acts_of ys) st)) (sym (turned xs i x below is)) ∙ left

  pub go_turns : run_by look first ≡ Ends st' → run_by look (behind st') ≡ whole
  go_turns h = sym (run_then look first behind st' h) ∙ joined

  pub go_stops : (stop : Halt) → Stops (run_by look first) stop → Stops whole stop
  go_stops stop h = stops_as whole (run_by look (and_then first behind)) stop (sym joined) (stops_on look first behind stop h)
