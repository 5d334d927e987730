-- What the steps of a walk keep: a record is verified, a run is entered, an input that isn't set is made.
use Rattle.std.proofs.Common.{Result, Ok, Err, IfOk, ◌≡◌, ◌≢◌, ℕ, zero, suc, ◌<◌, ◌≤◌, true, false, ◌||◌, ◌==◌, List, [], ◌∷◌, ◌++◌, length, refl, ap, sym, ◌∙◌, subst, inl, inr, ◌⊎◌, Some, None, arith, eq-eqb, get_or, IsSome}
use Rattle.std.specs.List.{slice_get}
use Rattle.query_core.specs.Lists.{Has, Each}
use Rattle.query_core.specs.Queries.{Queries, AreLawful, answers, GoesOn, next_key, done_with}
use Rattle.query_core.specs.Graph.{Held, at, node_of, record_of, inputs, is_current, is_verified}
use Rattle.query_core.specs.Soundness.{kept, IsUnchanged, Replays, IsSound}
use Rattle.query_core.specs.Walk.{IsSettled, IsSettledTo, HasMoved, IsOutdated, AreAnswered, AreAsked, IsLook, IsEntry}
use Rattle.query_core.specs.declared.frame.Checked.TheVariants.{Changed, Stale}
use Rattle.query_core.specs.Node.{Node}
use Rattle.query_core.specs.declared.rules.Step.{Step}
use Rattle.query_core.specs.declared.rules.Step.TheVariants.{Ask, Done}
use Rattle.query_core.proofs.Words.{Each-at, Each-map, Each-left, kept-append, kept-one, has_at, get_at}
use Rattle.query_core.proofs.Reading.{verified_is, record_none}
use Rattle.query_core.proofs.Values.{current_value}
use Rattle.query_core.proofs.Puts.{Keeps}

len_back : {K : Type 0} (first left : List ℕ) (a b : List K) → length (first ++ left) ≡ length (a ++ b) → length first ≡ length a → length left ≡ length b
len_back [] left [] b e f = e
len_back [] left (x ∷ a) b e f = let bad : ⊥ = cc in absurd bad
len_back (j ∷ first) left [] b e f = let bad : ⊥ = cc in absurd bad
len_back (j ∷ first) left (x ∷ a) b e f = len_back first left a b (omega arith) (omega arith)

module _ {K V : Type 0} where
  -- a key that isn't verified has no record that is
  pub not_current : (q : Queries K V) (g : Held K V) (sound : IsSound q g) (k : K) (i : ℕ) (r : Node K V) → is_verified q g k ≡ false → at g i ≡ Some r → r.key ≡ k → is_current q g r ≡ false
  not_current q g sound k i r stale e key =
      let n : node_of q g k ≡ Some i = subst (λ x. node_of q g x ≡ Some i) key (sound.numbered i r e) in
      sym (verified_is q g k i r n e) ∙ stale

  -- a record that isn't current was verified before now
  pub before_now : (q : Queries K V) (g : Held K V) (sound : IsSound q g) (i : ℕ) (r : Node K V) → at g i ≡ Some r → is_current q g r ≡ false → r.verified_at < g.revision
  before_now q g sound i r e c =
      let le = sound.stamps i r e in
      let ne : r.verified_at ≢ g.revision = (λ s. let t : (r.verified_at == g.revision) ≡ true = eq-eqb r.verified_at g.revision s in
      let u : is_current q g r ≡ true = elim (q.is_input r.key) as (λ b. (b || (r.verified_at == g.revision)) ≡ true) [ true ↦ refl | false ↦ t ] in let bad : ⊥ = cc in bad) in
      omega arith

  pub stamped_current : (q : Queries K V) (g : Held K V) (r : Node K V) → r.verified_at ≡ g.revision → is_current q g r ≡ true
  stamped_current q g r e = elim (q.is_input r.key) as (λ b. (b || (r.verified_at == g.revision)) ≡ true) [ true ↦ refl | false ↦ eq-eqb r.verified_at g.revision e ]

  -- readers of a record that isn't current were verified before now
  pub reader_before : (q : Queries K V) (g : Held K V) (sound : IsSound q g) (i j : ℕ) (s e : Node K V) → at g i ≡ Some s → is_current q g s ≡ false → at g j ≡ Some e → Has e.reads i → e.verified_at < g.revision
  reader_before q g sound i j s e at_i c at_j has =
      before_now q g sound j e at_j
      (elim (is_current q g e) as (λ b. is_current q g e ≡ b → b ≡ false)
      [ true ↦ (λ yes. let cur = sound.verified j i e s at_j yes has at_i in let bad : ⊥ = cc in absurd bad) | false ↦ (λ _. refl) ] refl)

  -- how work begins
  pub no_record : (q : Queries K V) (g : Held K V) (sound : IsSound q g) (k : K) → is_verified q g k ≡ false → q.is_input k ≡ true → record_of q g k ≡ None
  no_record q g sound k stale is =
      elim (node_of q g k) as (λ o. node_of q g k ≡ o → record_of q g k ≡ None) [
        | None ↦ (λ n. record_none q g k n)
        | Some i ↦ (λ n. let st = sound.numbers k i n in
            let cur : is_current q g st.0 ≡ true = ap (λ b. b || (st.0.verified_at == g.revision)) (subst (λ x. q.is_input x ≡ true) (sym st.2) is) in
            let no = not_current q g sound k i st.0 stale st.1 st.2 in let bad : ⊥ = cc in absurd bad)
      ] refl

  pub stage_check : (q : Queries K V) (g : Held K V) (sound : IsSound q g) (k : K) (i : ℕ) → q.is_input k ≡ false → node_of q g k ≡ Some i
      → (q.is_input k ≡ false) × ((r : Node K V) × ((node_of q g k ≡ Some i) × (at g i ≡ Some r) × IsSettledTo q g r 0))
  stage_check q g sound k i isnt n = let st = sound.numbers k i n in (isnt, (st.0, (n, st.1, ((omega arith), tt))))

  pub stage_run : (q : Queries K V) (g : Held K V) (k : K) → q.is_input k ≡ false → IsOutdated q g k → (q.is_input k ≡ false) × IsOutdated q g k × AreAsked q g k [] × AreAnswered q g [] []
  stage_run q g k isnt out = (isnt, out, (q.asks (inputs q g) k, refl), tt)

  -- answered keys
  pub answered_kept : (q : Queries K V) (g : Held K V) (laws : AreLawful q) (sound : IsSound q g) (js : List ℕ) (ks : List K) → AreAnswered q g ks js → length js ≡ length ks → kept g js ≡ answers (q.val (inputs q g)) ks
  answered_kept q g laws sound [] [] a l = refl
  answered_kept q g laws sound [] (k ∷ ks) a l = let bad : ⊥ = cc in absurd bad
  answered_kept q g laws sound (j ∷ js) [] a l = absurd a
  answered_kept q g laws sound (j ∷ js) (k ∷ ks) a l =
      let d = a.0.0 in let v = current_value q g laws sound j d a.0.1.0 a.0.1.2 in
      let rest = answered_kept q g laws sound js ks a.1 (omega arith) in
      let head : kept g (j ∷ js) ≡ (d.key, d.value) ∷ kept g js = kept-append g (j ∷ []) js ∙ ap (λ l. l ++ kept g js) (kept-one g j d a.0.1.0) in
      let pair : (d.key, d.value) ≡ (k, q.val (inputs q g) k) = ap (λ x. (d.key, x)) v ∙ ap (λ x. (x, q.val (inputs q g) x)) a.0.1.1 in
      head ∙ ap (λ l. (d.key, d.value) ∷ l) rest ∙ ap (λ p. p ∷ answers (q.val (inputs q g)) ks) pair

  pub answered_at : (q : Queries K V) (g : Held K V) (js : List ℕ) (ks : List K) (j : ℕ) → AreAnswered q g ks js → Has js j → (d : Node K V) × ((at g j ≡ Some d) × (is_current q g d ≡ true))
  answered_at q g [] ks j a h = absurd h
  answered_at q g (i ∷ js) [] j a h = absurd a
  answered_at q g (i ∷ js) (k ∷ ks) j a (inl e) = (a.0.0, (subst (λ n. at g n ≡ Some a.0.0) e a.0.1.0, a.0.1.2))
  answered_at q g (i ∷ js) (k ∷ ks) j a (inr h) = answered_at q g js ks j a.1 h

  pub record Cut (q : Queries K V) (g : Held K V) (ks : List K) (first left : List ℕ) : Type 0 where
    pub front : List K
    pub back : List K
    pub whole : ks ≡ front ++ back
    pub answered : AreAnswered q g front first
    pub length_is : length first ≡ length front
    pub behind : AreAnswered q g back left

  pub answered_cut : (q : Queries K V) (g : Held K V) (first left : List ℕ) (ks : List K) → AreAnswered q g ks (first ++ left) → Cut q g ks first left
  answered_cut q g [] left ks a = record { front = []; back = ks; whole = refl; answered = tt; length_is = refl; behind = a }
  answered_cut q g (j ∷ first) left [] a = absurd a
  answered_cut q g (j ∷ first) left (k ∷ ks) a =
      let c = answered_cut q g first left ks a.1 in
      record { front = k ∷ c.front; back = c.back; whole = ap (λ l. k ∷ l) c.whole; answered = (a.0, c.answered); length_is = (let e = c.length_is in omega arith); behind = c.behind }

  ends_back : (step : Step K V) (v : V) → GoesOn [] v step → done_with step ≡ Some v
  ends_back (Ask []) v h = absurd (let z = h.0 in omega arith)
  ends_back (Ask (x ∷ xs)) v h = let bad : ⊥ = (let z = h.1.1 in cc) in absurd bad
  ends_back (Done x) v h = ap Some h.1

  goes_back : (step : Step K V) (k : K) (ks : List K) (v : V) → GoesOn (k ∷ ks) v step → next_key step ≡ Some k
  goes_back (Ask []) k ks v h = absurd (let z = h.0 in omega arith)
  goes_back (Ask (x ∷ xs)) k ks v h = let z = h.1.1 in let s : x ≡ k = cc in ap Some s
  goes_back (Done x) k ks v h = let bad : ⊥ = (let z = h.0 in cc) in absurd bad

  -- the keys that a node's answer stands for
  replay_front : (q : Queries K V) (g : Held K V) (ks : List K) (left : List ℕ) (v : V) (st : Step K V) → AreAnswered q g ks left → length left ≡ length ks → GoesOn ks v st → Replays g left v st
  replay_front q g [] [] v st a l h = ends_back st v h
  replay_front q g (k ∷ ks) [] v st a l h = let bad : ⊥ = cc in absurd bad
  replay_front q g [] (j ∷ left) v st a l h = absurd a
  replay_front q g (k ∷ ks) (j ∷ left) v st a l h = λ d e. let s : a.0.0 ≡ d = (let p = a.0.1.0 in cc) in goes_back st k ks v h ∙ ap Some (sym a.0.1.1 ∙ ap (λ (x : Node K V). x.key) s)

  module _ (q : Queries K V) (laws : AreLawful q) (g : Held K V) (sound : IsSound q g) where
    -- a record is verified: its reads are verified and unchanged
    pub touch_keeps : (k : K) (i : ℕ) (r : Node K V) → at g i ≡ Some r → r.key ≡ k → q.is_input k ≡ false → is_verified q g k ≡ false → Each (IsSettled q g r.verified_at) r.reads
        → Keeps q g i (record r { verified_at = g.revision })
    touch_keeps k i r e key isnt stale settled =
        let c = not_current q g sound k i r stale e key in
        record {
          current = stamped_current q g (record r { verified_at = g.revision }) refl;
          flag = sound.flagged i r e;
          reads = λ j h. let s = Each-at (IsSettled q g r.verified_at) r.reads j settled h in (
            (λ ji. let bad : ⊥ = (let p = subst (λ n. at g n ≡ Some s.0) ji s.1.0 in let cur = s.1.1 in let same : s.0 ≡ r = cc in
                let cr : is_current q g r ≡ true = subst (λ (x : Node K V). is_current q g x ≡ true) same cur in cc) in bad),
            (s.0, (s.1.0, s.1.1)),
          );
          inputs = λ is. absurd (let no = subst (λ x. q.is_input x ≡ false) (sym key) isnt in let bad : ⊥ = cc in bad);
          replays = λ no first left s.
              sound.replays i r e no first left s
              (Each-left (IsUnchanged g r.verified_at) first left
              (subst (Each (IsUnchanged g r.verified_at)) s
              (Each-map (IsSettled q g r.verified_at) (IsUnchanged g r.verified_at) r.reads
              (λ j m h d at_d. let same : h.0 ≡ d = (let p = h.1.0 in cc) in subst (λ (x : Node K V). x.changed_at ≤ r.verified_at) same h.1.2) settled)));
          stamps = ((omega arith), (sound.stamps i r e).1);
          still = λ j s x at_i at_j has. inl (let same : r ≡ s = cc in (ap (λ (y : Node K V). y.value) same, ap (λ (y : Node K V). y.changed_at) same));
        }

    -- a run is entered
    pub enter_keeps : (k : K) (i : ℕ) (r : Node K V) (reads : List ℕ) (v : V) → IsEntry q g k v reads → r.key ≡ k → r.value ≡ v → r.reads ≡ reads → r.input ≡ false → r.verified_at ≡ g.revision → r.changed_at ≤ g.revision
        → ((s : Node K V) → at g i ≡ Some s → (s.key ≡ k) × (((r.value ≡ s.value) × (r.changed_at ≡ s.changed_at)) ⊎ (r.changed_at ≡ g.revision)))
        → Keeps q g i r
    enter_keeps k i r reads v entry key value reads_is flag va ca was =
        record {
          current = stamped_current q g r va;
          flag = flag ∙ sym (subst (λ x. q.is_input x ≡ false) (sym key) entry.no_input);
          reads = λ j h.
              let s = answered_at q g reads (q.asks (inputs q g) k) j entry.answered (subst (λ l. Has l j) reads_is h) in (
                (λ ji. let p = subst (λ n. at g n ≡ Some s.0) ji s.1.0 in
                    let no = not_current q g sound k i s.0 entry.stale p (was s.0 p).0 in let yes = s.1.1 in let bad : ⊥ = cc in bad),
                (s.0, (s.1.0, s.1.1)),
              );
          inputs = λ is. absurd (let no = subst (λ x. q.is_input x ≡ false) (sym key) entry.no_input in let bad : ⊥ = cc in bad);
          replays = λ no first left s.
              let a : AreAnswered q g (q.asks (inputs q g) k) (first ++ left) = subst (AreAnswered q g (q.asks (inputs q g) k)) (sym reads_is ∙ s) entry.answered in
              let c = answered_cut q g first left (q.asks (inputs q g) k) a in
              let law = laws.steps (inputs q g) k entry.no_input c.front c.back c.whole in
              let kept_is = answered_kept q g laws sound first c.front c.answered c.length_is in
              let len : length left ≡ length c.back = len_back first left c.front c.back (ap length (sym s ∙ reads_is) ∙ entry.all ∙ ap length c.whole) c.length_is in
              let base : Replays g left (q.val (inputs q g) k) (q.step k (answers (q.val (inputs q g)) c.front)) = replay_front q g c.back left (q.val (inputs q g) k) (q.step k (answers (q.val (inputs q g)) c.front)) c.behind len law in
              subst (λ x. Replays g left r.value (q.step x (kept g first))) (sym key)
              (subst (λ l. Replays g left r.value (q.step k l)) (sym kept_is)
              (subst (λ x. Replays g left x (q.step k (answers (q.val (inputs q g)) c.front))) (sym (value ∙ entry.value_is)) base));
          stamps = ((omega arith), ca);
          still = λ j s e at_i at_j has.
              let w = was s at_i in
              elim w.1 [
                | inl p ↦ inl p
                | inr n ↦ inr (let lt = reader_before q g sound i j s e at_i (not_current q g sound k i s entry.stale at_i w.0) at_j has in omega arith)
              ];
        }

    -- an input that isn't set is made
    pub unset_keeps : (i : ℕ) (r : Node K V) → at g i ≡ None → q.is_input r.key ≡ true → r.input ≡ true → r.reads ≡ [] → r.verified_at ≤ g.revision → r.changed_at ≤ g.revision → Keeps q g i r
    unset_keeps i r free is flag none va ca =
        record {
          current = ap (λ b. b || (r.verified_at == g.revision)) is;
          flag = flag ∙ sym is;
          reads = λ j h. absurd (let bad : ⊥ = subst (λ l. Has l j) none h in bad);
          inputs = λ _. none;
          replays = λ isnt first left e. absurd (let bad : ⊥ = cc in bad);
          stamps = (va, ca);
          still = λ j s e at_i at_j has. absurd (let bad : ⊥ = cc in bad);
        }

module _ {K V : Type 0} (q : Queries K V) (g : Held K V) (i : ℕ) (kept_one : Node K V) (here : Some kept_one ≡ at g i) (reads : List ℕ) (reads_is : reads ≡ kept_one.reads) (place : ℕ) (within : place < length reads) where
  pub read_has : Has kept_one.reads (get_or reads place 0)
  read_has = subst (λ l. Has l (get_or reads place 0)) reads_is (has_at reads place within)

  pub read_stands : IsSound q g → IsSome (at g (get_or reads place 0))
  read_stands sound = let st = sound.stands i (get_or reads place 0) kept_one (sym here) read_has in rw st.1 refl

  pub look_altered : HasMoved q g kept_one.verified_at (get_or reads place 0) → (r : Node K V) → at g i ≡ Some r → IsLook q g r Changed
  look_altered h r e = let same : kept_one ≡ r = cc in subst (λ (x : Node K V). IsLook q g x Changed) same (get_or reads place 0, (read_has, h))

  pub look_open : IsSettledTo q g kept_one place → (d : Node K V) × ((at g (get_or reads place 0) ≡ Some d) × (is_current q g d ≡ false)) → (r : Node K V) → at g i ≡ Some r → IsLook q g r (Stale place)
  look_open settled h r e =
      let same : kept_one ≡ r = cc in
      let got : slice_get kept_one.reads place ≡ Some (get_or reads place 0) = subst (λ l. slice_get l place ≡ Some (get_or reads place 0)) reads_is (get_at reads place within) in
      subst (λ (x : Node K V). IsLook q g x (Stale place)) same (settled, (get_or reads place 0, (h.0, (got, h.1.0, h.1.1))))

module _ {K V : Type 0} (q : Queries K V) (g : Held K V) (sound : IsSound q g) (k : K) (i : ℕ) (found : node_of q g k ≡ Some i) (verified : is_verified q g k ≡ true) where
  answered_here : (x : K) → k ≡ x → (d : Node K V) × ((at g i ≡ Some d) × (d.key ≡ x) × (is_current q g d ≡ true))
  answered_here x e = let st = sound.numbers k i found in (st.0, (st.1, st.2 ∙ e, sym (verified_is q g k i st.0 found st.1) ∙ verified))

  answered_next : (js : List ℕ) (ks : List K) → AreAnswered q g ks js → length js < length ks → k ≡ get_or ks (length js) k → AreAnswered q g ks (js ++ i ∷ [])
  answered_next [] [] a lt e = absurd (omega arith)
  answered_next [] (x ∷ ks) a lt e = (answered_here x e, tt)
  answered_next (j ∷ js) [] a lt e = absurd a
  answered_next (j ∷ js) (x ∷ ks) a lt e = (a.0, answered_next js ks a.1 (omega arith) e)

  -- one more key is answered
  pub answered_push : (js : List ℕ) (ks : List K) (place : ℕ) → AreAnswered q g ks js → length js ≡ place → place < length ks → k ≡ get_or ks place k → AreAnswered q g ks (js ++ i ∷ [])
  answered_push js ks place a l lt e = answered_next js ks a (omega arith) (subst (λ n. k ≡ get_or ks n k) (sym l) e)

pub has_get : {X : Type 0} (xs : List X) (i : ℕ) (x : X) → i < length xs → x ≡ get_or xs i x → Has xs x
has_get [] i x l e = absurd (omega arith)
has_get (y ∷ xs) zero x l e = inl (sym e)
has_get (y ∷ xs) (suc i) x l e = inr (has_get xs i x (omega arith) e)

pub answered_len : {K V : Type 0} (q : Queries K V) (g : Held K V) (js : List ℕ) (ks : List K) → AreAnswered q g ks js → length js ≤ length ks
answered_len q g [] ks a = omega arith
answered_len q g (j ∷ js) [] a = absurd a
answered_len q g (j ∷ js) (k ∷ ks) a = let l = answered_len q g js ks a.1 in omega arith

-- a read of a record has a record
pub read_absent : {K V : Type 0} (q : Queries K V) (g : Held K V) → IsSound q g → (node place : ℕ) (kept_here : Node K V) → Some kept_here ≡ at g node → (reads : List ℕ) → reads ≡ kept_here.reads
    → (r : Node K V) × ((at g node ≡ Some r) × (place < length r.reads)) → None ≡ at g (get_or reads place 0) → ⊥
read_absent {K = K} {V = V} q g sound node place kept_here here reads is within absent =
    let same : within.0 ≡ kept_here = (let e = within.1.0 in cc) in
    let lt : place < length reads = subst (λ (l : List ℕ). place < length l) (ap (λ (x : Node K V). x.reads) same ∙ sym is) within.1.1 in
    let st = sound.stands node (get_or reads place 0) kept_here (sym here) (subst (λ l. Has l (get_or reads place 0)) is (has_at reads place lt)) in
    let e = st.1 in let bad : ⊥ = cc in bad

pub key_read : {K V : Type 0} (g : Held K V) (node place : ℕ) (kept_here : Node K V) → Some kept_here ≡ at g node → (reads : List ℕ) → reads ≡ kept_here.reads
    → (r : Node K V) × ((at g node ≡ Some r) × (place < length r.reads)) → (read : Node K V) → Some read ≡ at g (get_or reads place 0) → (key : K) → key ≡ read.key
    → (r d : Node K V) (j : ℕ) → at g node ≡ Some r → slice_get r.reads place ≡ Some j → at g j ≡ Some d → (d.key ≡ key) × (j ≡ get_or reads place 0)
key_read {K = K} {V = V} g node place kept_here here reads is within read at_read key key_is r d j e got at_j =
    let same : r ≡ kept_here = cc in
    let same' : within.0 ≡ kept_here = (let e' = within.1.0 in cc) in
    let lt : place < length reads = subst (λ (l : List ℕ). place < length l) (ap (λ (x : Node K V). x.reads) same' ∙ sym is) within.1.1 in
    let got' : slice_get reads place ≡ Some j = subst (λ (l : List ℕ). slice_get l place ≡ Some j) (ap (λ (x : Node K V). x.reads) same ∙ sym is) got in
    let at_place = get_at reads place lt in
    let index : get_or reads place 0 ≡ j = cc in
    let at_j' : Some read ≡ at g j = subst (λ n. Some read ≡ at g n) index at_read in
    let same_d : read ≡ d = cc in
    (sym (key_is ∙ ap (λ (x : Node K V). x.key) same_d), sym index)

pub if_ok_from : {A E : Type 0} (r : Result A E) (P Q : A → Type 0) → ((a : A) → P a → Q a) → IfOk r P → IfOk r Q
if_ok_from (Ok a) P Q f h = f a h
if_ok_from (Err e) P Q f h = tt
