-- What a call that ended promises, where its ends tell what they have.
use Rattle.std.proofs.Common.{◌≡◌, ◌+◌, ◌-◌, ℕ, List, [], ◌∷◌, ◌++◌, take, drop, length, map, Option, None, Some, refl, sym, ap, subst, ◌∙◌, arith}
use Rattle.std.proofs.lemmas.List.{take-append-drop}
use Rattle.std.proofs.Math.Seq.{drop-append_seam, take-append_seam}
use Rattle.io_edges.specs.Store.{Entry}
use Rattle.io_edges.specs.Wire.{Traffic}
use Rattle.io_edges.specs.declared.ends.Mark.{Mark}
use Rattle.c11ls.specs.Calls.{Call, call_of, since, IfTold, AddsUp}
use Rattle.c11ls.specs.Ties.Going.{Ended, Outcome, IsServing, moved, mark_at}
use Rattle.c11ls.specs.Plain.{Plain, Played}
use Rattle.c11ls.specs.Exchanges.{HasAnswered}
use Rattle.c11ls.specs.Serve.{HadNoEnd, HasWritten, HasUsed, HasVerdict, HasReadPortions, ArePrompt, AreWanted}
use Rattle.c11ls.specs.Served.{Served}
use Rattle.c11ls.proofs.Exchanging.{AreLaws, written_answers}
use Rattle.project_conf.specs.declared.options.Options.{Options}
use Rattle.c11ls.specs.declared.status.Status.{Status}
use Rattle.c11ls.specs.declared.status.Status.TheVariants as status

one_moment : (t : Traffic) (m : Mark) → since t (mark_at t m) ≡ m
one_moment t m =
    let taken_is : (t.taken + m.taken) - t.taken ≡ m.taken = omega arith in
    let written_is : (length t.written + m.written) - length t.written ≡ m.written = omega arith in
    ap (λ n. record { taken = n; written = (length t.written + m.written) - length t.written }) taken_is ∙ ap (λ n. record { taken = m.taken; written = n }) written_is

each_moment : (t : Traffic) (moments : List Mark) → map (since t) (map (mark_at t) moments) ≡ moments
each_moment t [] = refl
each_moment t (m ∷ moments) = ap (λ (n : Mark). n ∷ map (since t) (map (mark_at t) moments)) (one_moment t m) ∙ ap (λ (ms : List Mark). m ∷ ms) (each_moment t moments)

abbrev pub the_call : List ℕ → List ℕ → List ℕ → List Mark → List Entry → Call
the_call left taken out moments answers = record { left = left; taken = taken; out = out; moments = moments; answers = answers }

none_is_no_some : {A : Type 0} (x : A) → None ≡ Some x → ⊥
none_is_no_some x same = cc

some_is : {A : Type 0} (x y : A) → Some x ≡ Some y → x ≡ y
some_is x y same = cc

-- the call as its ends tell it
call_is : (t t' : Traffic) (taken out : List ℕ) (moments : List Mark) (answers : List Entry) →
    t' ≡ moved taken out moments t → take (length taken) t.left ≡ taken →
    call_of t t' answers ≡ the_call (taken ++ drop (length taken) t.left) taken out moments answers
unfolding call_of
call_is t t' taken out moments answers was front =
    let taken_is : take ((t.taken + length taken) - t.taken) t.left ≡ taken =
    (let n_is : (t.taken + length taken) - t.taken ≡ length taken = omega arith in ap (λ n. take n t.left) n_is ∙ front) in
    let left_is : t.left ≡ taken ++ drop (length taken) t.left = sym (take-append-drop (length taken) t.left) ∙ ap (λ (b : List ℕ). b ++ drop (length taken) t.left) front in
    let out_is : drop (length t.written) (t.written ++ out) ≡ out = drop-append_seam t.written out in
    let moments_are : map (since t) (drop (length t.marks) (t.marks ++ map (mark_at t) moments)) ≡ moments =
    ap (map (since t)) (drop-append_seam t.marks (map (mark_at t) moments)) ∙ each_moment t moments in
    ap (λ (n : Traffic). the_call t.left (take (n.taken - t.taken) t.left) (drop (length t.written) n.written) (map (since t) (drop (length t.marks) n.marks)) answers) was
    ∙ ap (λ (b : List ℕ). the_call t.left b (drop (length t.written) (t.written ++ out)) (map (since t) (drop (length t.marks) (t.marks ++ map (mark_at t) moments))) answers) taken_is
    ∙ ap (λ (b : List ℕ). the_call b taken (drop (length t.written) (t.written ++ out)) (map (since t) (drop (length t.marks) (t.marks ++ map (mark_at t) moments))) answers) left_is
    ∙ ap (λ (b : List ℕ). the_call (taken ++ drop (length taken) t.left) taken b (map (since t) (drop (length t.marks) (t.marks ++ map (mark_at t) moments))) answers) out_is
    ∙ ap (λ (ms : List Mark). the_call (taken ++ drop (length taken) t.left) taken out ms answers) moments_are

written_by : (options : Options) (ended : Status) (left taken out : List ℕ) (moments : List Mark) (answers : List Entry) →
    Outcome options ended taken out answers left → HasWritten options ended (the_call (taken ++ left) taken out moments answers)
written_by options status.Done left taken out moments answers is = sym (ap (λ (p : Plain). p.out) is)
written_by options status.Unclean left taken out moments answers is = sym (ap (λ (p : Plain). p.out) is)
written_by options (status.BadFrame place kind) left taken out moments answers is = sym (ap (λ (p : Plain). p.out) is)
written_by options status.Usage left taken out moments answers is = absurd is
written_by options status.ReadFault left taken out moments answers is = sym (ap (λ (p : Plain). p.out) is.1.1)
written_by options status.LongInput left taken out moments answers is = sym (ap (λ (p : Plain). p.out) is.2.1)
written_by options status.StoreFault left taken out moments answers is = (sym is.0, is.2)
written_by options status.WriteFault left taken out moments answers is = is.0
written_by options status.NoMemory left taken out moments answers is = (is.handled, sym (ap (λ (p : Played). p.out) is.through))

used_by : (options : Options) (ended : Status) (left taken out : List ℕ) (moments : List Mark) (answers : List Entry) →
    Outcome options ended taken out answers left → HasUsed options ended (the_call (taken ++ left) taken out moments answers)
used_by options status.Done left taken out moments answers is = ap (λ (p : Plain). p.used) is
used_by options status.Unclean left taken out moments answers is = ap (λ (p : Plain). p.used) is
used_by options (status.BadFrame place kind) left taken out moments answers is = ap (λ (p : Plain). p.used) is
used_by options status.Usage left taken out moments answers is = absurd is
used_by options status.ReadFault left taken out moments answers is = ap (λ (p : Plain). p.used) is.1.1
used_by options status.LongInput left taken out moments answers is = ap (λ (p : Plain). p.used) is.2.1
used_by options status.StoreFault left taken out moments answers is = is.1
used_by options status.WriteFault left taken out moments answers is = is.1
used_by options status.NoMemory left taken out moments answers is = is

-- the status tells the verdict
verdict_by : (options : Options) (ended : Status) (left taken out : List ℕ) (moments : List Mark) (answers : List Entry) →
    Outcome options ended taken out answers left → HasVerdict options ended (the_call (taken ++ left) taken out moments answers)
verdict_by options status.Done left taken out moments answers is = ap (λ (p : Plain). p.verdict) is
verdict_by options status.Unclean left taken out moments answers is = ap (λ (p : Plain). p.verdict) is
verdict_by options (status.BadFrame place kind) left taken out moments answers is = ap (λ (p : Plain). p.verdict) is
verdict_by options status.Usage left taken out moments answers is = absurd is
verdict_by options status.ReadFault left taken out moments answers is = tt
verdict_by options status.LongInput left taken out moments answers is = is.0
verdict_by options status.StoreFault left taken out moments answers is = tt
verdict_by options status.WriteFault left taken out moments answers is = tt
verdict_by options status.NoMemory left taken out moments answers is = tt

no_end_by : (options : Options) (ended : Status) (left taken out : List ℕ) (moments : List Mark) (answers : List Entry) →
    Outcome options ended taken out answers left → HadNoEnd options ended (the_call (taken ++ left) taken out moments answers)
no_end_by options status.ReadFault left taken out moments answers is = is.0
no_end_by options status.LongInput left taken out moments answers is = is.1
no_end_by options status.Done left taken out moments answers is = tt
no_end_by options status.Unclean left taken out moments answers is = tt
no_end_by options (status.BadFrame place kind) left taken out moments answers is = tt
no_end_by options status.Usage left taken out moments answers is = tt
no_end_by options status.WriteFault left taken out moments answers is = tt
no_end_by options status.StoreFault left taken out moments answers is = tt
no_end_by options status.NoMemory left taken out moments answers is = tt

adds_up : (t t' : Traffic) (taken out : List ℕ) (moments : List Mark) (answers : List Entry) →
    t' ≡ moved taken out moments t → take (length taken) t.left ≡ taken → AddsUp t t' (the_call (taken ++ drop (length taken) t.left) taken out moments answers)
adds_up t t' taken out moments answers was front = record {
  left = sym (take-append-drop (length taken) t.left) ∙ ap (λ (b : List ℕ). b ++ drop (length taken) t.left) front
      ∙ ap (λ (b : List ℕ). taken ++ b) (sym (ap (λ (n : Traffic). n.left) was));
  taken = ap (λ (n : Traffic). n.taken) was;
  written = ap (λ (n : Traffic). n.written) was;
  marked = ap (λ (n : Traffic). take (length t.marks) n.marks) was ∙ take-append_seam t.marks (map (mark_at t) moments);
}

never_usage : (ended : Status) → IsServing ended → ended ≡ status.Usage → ⊥
never_usage ended usual is = subst IsServing is usual

-- a call that served a client didn't end with Usage
pub not_usage : (options : Options) (ended : Status) (w w' : Option Traffic) (a a' : Option (List Entry)) → Ended options ended w w' a a' → ended ≡ status.Usage → ⊥
not_usage options ended w w' a a' e is = never_usage ended e.usual is

-- a call that ended is one that was served
pub serves_it : AreLaws → (options : Options) (ended : Status) (w w' : Option Traffic) (a a' : Option (List Entry)) → Ended options ended w w' a a' →
    IfTold w w' (Served options ended a a')
serves_it laws options ended None w' a a' e = tt
serves_it laws options ended (Some t) None a a' e = absurd (none_is_no_some _ e.did.moves)
serves_it laws options ended (Some t) (Some t') a a' e =
    let left = drop (length e.taken) t.left in
    let call = the_call (e.taken ++ left) e.taken e.out e.moments e.answers in
    let was = some_is _ _ e.did.moves in
    let is : call ≡ call_of t t' e.answers = sym (call_is t t' e.taken e.out e.moments e.answers was e.did.front) in
    let wrote = written_by options ended left e.taken e.out e.moments e.answers e.outcome in
    record {
      answers = e.answers;
      answered = e.did.answered;
      serving = never_usage ended e.usual;
      consumed = subst (AddsUp t t') is (adds_up t t' e.taken e.out e.moments e.answers was e.did.front);
      written = subst (HasWritten options ended) is wrote;
      responded = subst (HasAnswered options ended) is (written_answers laws options ended call wrote);
      used = subst (HasUsed options ended) is (used_by options ended left e.taken e.out e.moments e.answers e.outcome);
      wanted = subst (AreWanted options) is e.did.wanted;
      prompt = subst (ArePrompt options) is e.did.prompt;
      portions = subst HasReadPortions is e.did.portions;
      verdict = subst (HasVerdict options ended) is (verdict_by options ended left e.taken e.out e.moments e.answers e.outcome);
      no_end = subst (HadNoEnd options ended) is (no_end_by options ended left e.taken e.out e.moments e.answers e.outcome);
    }
