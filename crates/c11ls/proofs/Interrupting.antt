-- Handling that was interrupted.
use Rattle.std.proofs.Common.{◌≡◌, ℕ, List, [], ◌∷◌, ◌++◌, take, drop, length, Some, sym, ap, subst, ◌∙◌, append-nil, append_assoc, length-append, arith}
use Rattle.std.proofs.Math.Seq.{drop-append_seam}
use Rattle.io_edges.specs.Store.{Entry}
use Rattle.lsp_framing.specs.Frames.{frames}
use Rattle.c_session.specs.Asking.{Asking, after_all}
use Rattle.c_session.specs.React.{Outcome, asks}
use Rattle.c_session.specs.State.{State, fresh}
use Rattle.project_conf.specs.declared.options.Options.{Options}
use Rattle.c11ls.specs.Ties.Going.{through}
use Rattle.c11ls.specs.Plain.{Played, play}
use Rattle.c11ls.specs.Serve.{WereGiven, AreLeft, IsInterrupted}
use Rattle.c11ls.proofs.Playing.{IsComplete, play_stays}
use Rattle.c11ls.proofs.Wanting.{split_at}

given_to : (s : State) (contents : List (List ℕ)) (content : List ℕ) (behind : List (List ℕ)) (added : List Entry) (next : Asking Outcome) →
    contents ≡ content ∷ behind → after_all (asks s content) added ≡ Some next → AreLeft s contents added
given_to s contents content behind [] next is follows = tt
given_to s contents content behind (entry ∷ added) next is follows =
    subst (λ (cs : List (List ℕ)). WereGiven s cs (entry ∷ added)) (sym is) (next, follows)

-- these answers were given to the content that stands behind the first ones
pub left_to : (s : State) (contents handled : List (List ℕ)) (content : List ℕ) (added : List Entry) (next : Asking Outcome) →
    take (length (handled ++ content ∷ [])) contents ≡ handled ++ content ∷ [] → after_all (asks s content) added ≡ Some next →
    AreLeft s (drop (length handled) contents) added
left_to s contents handled content added next first follows =
    let behind = drop (length (handled ++ content ∷ [])) contents in
    given_to s (drop (length handled) contents) content behind added next
    (ap (drop (length handled)) (split_at contents (handled ++ content ∷ []) first ∙ append_assoc handled (content ∷ []) behind) ∙ drop-append_seam handled (content ∷ behind))
    follows

-- the first contents went through, and the answers behind theirs are left
pub interrupted : (options : Options) (bytes : List ℕ) (handled : List (List ℕ)) (s : State) (answers added : List Entry) (out : List ℕ) →
    take (length handled) (frames bytes).contents ≡ handled → play handled (fresh options) answers ≡ through out answers s →
    AreLeft s (drop (length handled) (frames bytes).contents) added → IsInterrupted options bytes (answers ++ added) out
interrupted options bytes handled s answers added out first plays left =
    let complete : IsComplete (play handled (fresh options) answers).stop = subst (λ (p : Played). IsComplete p.stop) (sym plays) tt in
    record {
      handled = length handled;
      state = s;
      used = length answers;
      through = ap (λ (cs : List (List ℕ)). play cs (fresh options) (answers ++ added)) first ∙ play_stays handled (fresh options) answers added complete ∙ plays;
      within = omega (arith, length-append answers added);
      left = subst (AreLeft s (drop (length handled) (frames bytes).contents)) (sym (drop-append_seam answers added)) left;
    }

-- between two contents nothing is left
pub interrupted_between : (options : Options) (bytes : List ℕ) (handled : List (List ℕ)) (s : State) (answers : List Entry) (out : List ℕ) →
    take (length handled) (frames bytes).contents ≡ handled → play handled (fresh options) answers ≡ through out answers s → IsInterrupted options bytes answers out
interrupted_between options bytes handled s answers out first plays =
    subst (λ (es : List Entry). IsInterrupted options bytes es out) (append-nil answers) (interrupted options bytes handled s answers [] out first plays tt)
