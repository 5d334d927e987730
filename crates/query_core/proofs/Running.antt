-- What a run's next step means, and what a look at a stale read means.
use Rattle.std.proofs.Common.{◌≡◌, ℕ, zero, suc, ◌-◌, ◌<◌, ◌≤◌, false, List, [], ◌∷◌, ◌++◌, length, take, refl, ap, sym, ◌∙◌, subst, inr, Some, append_assoc, append-nil, arith}
use Rattle.std.proofs.lemmas.List.{length-append}
use Rattle.std.specs.List.{slice_get}
use Rattle.query_core.specs.Lists.{Has, Each}
use Rattle.query_core.specs.Queries.{Queries, AreLawful, GoesOn, answers, HasReadFirst}
use Rattle.query_core.specs.Graph.{Held, at, node_of, inputs, is_verified}
use Rattle.query_core.specs.Soundness.{kept, IsUnchanged, IsSound}
use Rattle.query_core.specs.Walk.{IsSettled, IsSettledTo, IsOutdated, AreAnswered, IsRunning, IsChecking, IsLook, HasBegun}
use Rattle.query_core.specs.declared.frame.Checked.TheVariants.{Changed, Stale}
use Rattle.query_core.specs.Node.{Node}
use Rattle.query_core.specs.declared.rules.Step.{Step}
use Rattle.query_core.specs.declared.rules.Step.TheVariants.{Ask, Done}
use Rattle.query_core.proofs.Words.{Has-middle, Each-map}
use Rattle.query_core.proofs.Reading.{record_is, verified_is}
use Rattle.query_core.proofs.Values.{current_value, follow, follow_none, follow_one, IsGood}
use Rattle.query_core.proofs.Steps.{answered_kept}

pub answered_more : {K V : Type 0} (q : Queries K V) (g : Held K V) (js : List ℕ) (ks more : List K) → AreAnswered q g ks js → AreAnswered q g (ks ++ more) js
answered_more q g [] ks more a = tt
answered_more q g (j ∷ js) [] more a = absurd a
answered_more q g (j ∷ js) (k ∷ ks) more a = (a.0, answered_more q g js ks more a.1)

module _ {K V : Type 0} (q : Queries K V) (laws : AreLawful q) (g : Held K V) (sound : IsSound q g) (k : K) (asked : List K) (answered : List ℕ) (running : IsRunning q g k asked answered) where
  module _ (all : length answered ≡ length asked) where
    next_goes : (st : Step K V) → st ≡ q.step k (kept g answered) → GoesOn running.2.0 (q.val (inputs q g) k) st
    next_goes st e =
        let kept_is = answered_kept q g laws sound answered asked running.3 all in
        let law = laws.steps (inputs q g) k running.0 asked running.2.0 running.2.1 in
        subst (GoesOn running.2.0 (q.val (inputs q g) k)) (sym (e ∙ ap (q.step k) kept_is)) law

    pub asked_some : (keys : List K) → Ask keys ≡ q.step k (kept g answered) → 0 < length keys
    asked_some keys e = (next_goes (Ask keys) e).0

    pub asked_on : (keys : List K) → Ask keys ≡ q.step k (kept g answered) → IsRunning q g k (asked ++ keys) answered
    asked_on keys e =
        let h = (next_goes (Ask keys) e).1 in
        (running.0, running.1, (h.0, running.2.1 ∙ ap (λ l. asked ++ l) h.1 ∙ sym (append_assoc asked keys h.0)), answered_more q g answered asked keys running.3)

    pub ends_with : (v : V) → Done v ≡ q.step k (kept g answered) → AreAnswered q g (q.asks (inputs q g) k) answered × (length answered ≡ length (q.asks (inputs q g) k)) × (v ≡ q.val (inputs q g) k)
    ends_with v e =
        let h = next_goes (Done v) e in
        let whole : q.asks (inputs q g) k ≡ asked = running.2.1 ∙ ap (λ l. asked ++ l) h.0 ∙ append-nil asked in
        (subst (λ l. AreAnswered q g l answered) (sym whole) running.3, all ∙ sym (ap length whole), h.1)

  -- no more is asked than the key reads
  pub asked_len : length asked ≤ length (q.asks (inputs q g) k)
  asked_len = let l = ap length running.2.1 ∙ length-append asked running.2.0 in omega arith

module _ {K V : Type 0} (q : Queries K V) (laws : AreLawful q) (g : Held K V) (sound : IsSound q g) where
  split_at : (xs : List ℕ) (p j : ℕ) → slice_get xs p ≡ Some j → (rest : List ℕ) × (xs ≡ take p xs ++ j ∷ rest)
  split_at [] p j e = let bad : ⊥ = cc in absurd bad
  split_at (x ∷ xs) zero j e = let s : x ≡ j = cc in (xs, ap (λ y. y ∷ xs) s)
  split_at (x ∷ xs) (suc p) j e = let h = split_at xs p j e in (h.0, ap (λ l. x ∷ l) h.1)

  -- the first reads of a record are what its key reads, as far as they are settled
  pub settled_follow : (i : ℕ) (r : Node K V) → at g i ≡ Some r → q.is_input r.key ≡ false → (p j : ℕ) (d : Node K V) → IsSettledTo q g r p → slice_get r.reads p ≡ Some j → at g j ≡ Some d → Has (q.asks (inputs q g) r.key) d.key
  settled_follow i r e isnt p j d settled got at_j =
      let h = split_at r.reads p j got in
      let good : Each (IsGood q g r.verified_at r.key) (take p r.reads) =
      Each-map (IsSettled q g r.verified_at) (IsGood q g r.verified_at r.key) (take p r.reads)
      (λ j' m s d' at_d'. let same : s.0 ≡ d' = (let x = s.1.0 in cc) in
      subst (λ (x : Node K V). (x.changed_at ≤ r.verified_at) × (Has (q.asks (inputs q g) r.key) x.key → x.value ≡ q.val (inputs q g) x.key)) same
      (s.1.2, (λ _. current_value q g laws sound j' s.0 s.1.0 s.1.1))) settled.1 in
      let un : Each (IsUnchanged g r.verified_at) (take p r.reads) = Each-map (IsGood q g r.verified_at r.key) (IsUnchanged g r.verified_at) (take p r.reads) (λ j' m f d' at_d'. (f d' at_d').0) good in
      let f = follow q g laws sound i r e isnt (take p r.reads) [] (j ∷ h.0) h.1 tt good (follow_none q g r.key) in
      let one = follow_one q g laws sound i r e isnt (take p r.reads) j h.0 d h.1 at_j un f in
      subst (λ l. Has l d.key) (sym (f.asks ∙ ap (λ l. f.first ++ l) one.1)) (Has-middle f.first one.0 d.key)

  -- a look at the record of a key
  pub look_waits : (k : K) (node place : ℕ) → IsChecking q g k node place → (p : ℕ) → ((r : Node K V) → at g node ≡ Some r → IsLook q g r (Stale p))
      → (on : K) (at_node : ℕ) → ((r d : Node K V) (j : ℕ) → at g node ≡ Some r → slice_get r.reads p ≡ Some j → at g j ≡ Some d → (d.key ≡ on) × (j ≡ at_node))
      → IsChecking q g k node p × Has (q.asks (inputs q g) k) on × (is_verified q g on ≡ false) × (node_of q g on ≡ Some at_node)
  look_waits k node place checking p look on at_node read_is =
      let r = checking.1.0 in let e = checking.1.1.1 in
      let st = sound.numbers k node checking.1.1.0 in
      let own : r.key ≡ k = (let s : st.0 ≡ r = (let x = st.1 in cc) in subst (λ (x : Node K V). x.key ≡ k) s st.2) in
      let l = look r e in
      let j = l.1.0 in let d = l.1.1.0 in let got = l.1.1.1.0 in let at_j = l.1.1.1.1 in
      let read = read_is r d j e got at_j in
      let key : d.key ≡ on = read.0 in
      let isnt : q.is_input r.key ≡ false = subst (λ x. q.is_input x ≡ false) (sym own) checking.0 in
      let has = settled_follow node r e isnt p j d l.0 got at_j in (
        (checking.0, (r, (checking.1.1.0, e, l.0))),
        subst (Has (q.asks (inputs q g) k)) key (subst (λ x. Has (q.asks (inputs q g) x) d.key) own has),
        subst (λ x. is_verified q g x ≡ false) key (verified_is q g d.key j d (sound.numbered j d at_j) at_j ∙ l.1.1.1.2),
        subst (λ x. node_of q g x ≡ Some at_node) key (sound.numbered j d at_j ∙ ap Some read.1),
      )

  pub look_outdated : (k : K) (node place : ℕ) → IsChecking q g k node place → ((r : Node K V) → at g node ≡ Some r → IsLook q g r Changed) → IsOutdated q g k
  look_outdated k node place checking look =
      inr (checking.1.0, (record_is q g k node checking.1.0 checking.1.1.0 checking.1.1.1, look checking.1.0 checking.1.1.1))

pub smaller : (n a b : ℕ) → a < b → b ≤ n → n - b < n - a
smaller n a b lt le = omega arith

-- a round that asks for more keys
pub record Asked {K V : Type 0} (q : Queries K V) (g : Held K V) (k : K) (asked asked' : List K) (answered : List ℕ) : Type 0 where
  pub running : IsRunning q g k asked' answered
  pub less : length (q.asks (inputs q g) k) - length asked' < length (q.asks (inputs q g) k) - length asked

pub asked_round : {K V : Type 0} (q : Queries K V) (laws : AreLawful q) (g : Held K V) (sound : IsSound q g) (k : K) (asked asked' keys : List K) (before answered : List ℕ) (st : Step K V)
    → IsRunning q g k asked before → AreAnswered q g asked answered × (length answered ≡ length asked) → st ≡ q.step k (kept g answered) → st ≡ Ask keys → asked' ≡ asked ++ keys
    → Asked q g k asked asked' answered
asked_round q laws g sound k asked asked' keys before answered st run col e is more =
    let running : IsRunning q g k asked answered = (run.0, run.1, run.2, col.0) in
    let e' = sym is ∙ e in
    let next = asked_on q laws g sound k asked answered running col.1 keys e' in
    let some = asked_some q laws g sound k asked answered running col.1 keys e' in
    let running' : IsRunning q g k asked' answered = subst (λ l. IsRunning q g k l answered) (sym more) next in
    let len = ap length more ∙ length-append asked keys in
    record { running = running'; less = smaller (length (q.asks (inputs q g) k)) (length asked) (length asked') (omega arith) (asked_len q laws g sound k asked' answered running') }

pub ended_round : {K V : Type 0} (q : Queries K V) (laws : AreLawful q) (g : Held K V) (sound : IsSound q g) (k : K) (asked : List K) (before answered : List ℕ) (st : Step K V) (v : V)
    → IsRunning q g k asked before → AreAnswered q g asked answered × (length answered ≡ length asked) → st ≡ q.step k (kept g answered) → st ≡ Done v
    → AreAnswered q g (q.asks (inputs q g) k) answered × (length answered ≡ length (q.asks (inputs q g) k)) × (v ≡ q.val (inputs q g) k)
ended_round q laws g sound k asked before answered st v run col e is =
    let running : IsRunning q g k asked answered = (run.0, run.1, run.2, col.0) in ends_with q laws g sound k asked answered running col.1 v (sym is ∙ e)

get_within : (xs : List ℕ) (p j : ℕ) → slice_get xs p ≡ Some j → p < length xs
get_within [] p j e = let bad : ⊥ = cc in absurd bad
get_within (x ∷ xs) zero j e = omega arith
get_within (x ∷ xs) (suc p) j e = let l = get_within xs p j e in omega arith

pub stale_within : {K V : Type 0} (q : Queries K V) (g : Held K V) (k : K) (node place : ℕ) → IsChecking q g k node place → (p : ℕ) → ((r : Node K V) → at g node ≡ Some r → IsLook q g r (Stale p))
    → (r : Node K V) × ((at g node ≡ Some r) × (p < length r.reads))
stale_within q g k node place checking p look =
    let l = look checking.1.0 checking.1.1.1 in (checking.1.0, (checking.1.1.1, get_within checking.1.0.reads p l.1.0 l.1.1.1.0))

answers_append : {K V : Type 0} (value : K → V) (xs ys : List K) → answers value (xs ++ ys) ≡ answers value xs ++ answers value ys
answers_append value [] ys = refl
answers_append value (x ∷ xs) ys = ap (λ l. (x, value x) ∷ l) (answers_append value xs ys)

-- what a run has read before and after a round
module _ {K V S : Type 0} (q : Queries K V) (has_read : K → S → List (K × V) → Type 0) (laws : AreLawful q) (g : Held K V) (sound : IsSound q g) (k : K) (run : S) (asked : List K) where
  pub begun_round : (answered : List ℕ) → AreAnswered q g asked answered × (length answered ≡ length asked) → HasBegun q has_read g k run asked → HasReadFirst has_read k run (kept g answered)
  begun_round answered col h = (
    answers (q.val (inputs q g)) h.0,
    answers (q.val (inputs q g)) h.1,
    (answered_kept q g laws sound answered asked col.0 col.1 ∙ ap (answers (q.val (inputs q g))) h.2.0 ∙ answers_append (q.val (inputs q g)) h.0 h.1, h.2.1),
  )

  pub begun_more : (asked' keys : List K) (answered : List ℕ) → AreAnswered q g asked answered × (length answered ≡ length asked) → has_read k run (kept g answered) → asked' ≡ asked ++ keys
      → HasBegun q has_read g k run asked'
  begun_more asked' keys answered col h e = (asked, keys, (e, subst (has_read k run) (answered_kept q g laws sound answered asked col.0 col.1) h))

  pub begun_all : (answered : List ℕ) → AreAnswered q g asked answered × (length answered ≡ length asked) → has_read k run (kept g answered) → HasBegun q has_read g k run asked
  begun_all answered col h = begun_more asked [] answered col h (sym (append-nil asked))
