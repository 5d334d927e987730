-- What a head means, by runs of its parts.
use Rattle.std.proofs.Common.{◌≡◌, sym, subst, false, [], Result, Ok, Err, IfOk, if◌then◌else◌}
use Rattle.asking.specs.Asking.{Gives}
use Rattle.asking.specs.LookUps.{LookUp, run_by, unanswered}
use Rattle.elab_state.proofs.Askings.{told_stand}
use Rattle.elab_state.specs.Contexts.{Context}
use Rattle.elab_state.specs.Doings.{begun}
use Rattle.elab_state.specs.Wants.{wants}
use Rattle.elab_state.specs.declared.made.Made.{Made}
use Rattle.elab_state.specs.declared.wants.Elab.{Elab}
use Rattle.item_readings.specs.Readings.{IsReader, Reader}
use Rattle.scope_tables.specs.declared.entities.ScopeKind.TheVariants.{File}
use Rattle.scope_tables.specs.declared.meanings.HeadMeaning.{HeadMeaning}
use Rattle.stmt_checks.specs.Heads.{MeansBehind, MeansHead, head_from, head_in, is_empty, refusal}
use Rattle.stmt_checks.specs.Meanings.{Means, answers_in, questions}

pub behind_is : {E : Type 0} (look : LookUp wants) (c : Context) (result : Result (Elab HeadMeaning) E) → unanswered wants look (questions c) ≡ [] →
    IfOk result (λ elab. MeansBehind look look c elab) → IfOk result (λ elab. MeansHead look c elab)
behind_is look c (Ok elab) e h =
    λ r is. subst (λ run. Means run elab) (sym (told_stand look (questions c) (λ m. head_from r c m) (begun File []) e)) (h r is)
behind_is look c (Err x) e h = tt

-- ---- where it isn't a `;` alone

pub from_tokens : (names look : LookUp wants) (c : Context) (m : Made) (elab : Elab HeadMeaning) → is_empty c.tokens ≡ false → m ≡ answers_in names c →
    ((r : Reader) → IsReader r → Means (run_by look (head_in r c m)) elab) → (r : Reader) → IsReader r → Means (run_by look (head_from r c (answers_in names c))) elab
from_tokens names look c m elab e s h = λ r is.
    subst (λ b. Means (run_by look (if b then Gives (refusal c 302 0) else head_in r c (answers_in names c))) elab) (sym e)
    (subst (λ x. Means (run_by look (head_in r c x)) elab) s (h r is))
