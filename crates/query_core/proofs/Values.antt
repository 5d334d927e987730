-- A record that was verified now holds the value of its key, and its reads are what its key reads.
use Rattle.std.proofs.Common.{◌≡◌, ℕ, zero, suc, ◌+◌, ◌<◌, ◌≤◌, Bool, true, false, ◌||◌, ◌==◌, List, [], ◌∷◌, ◌++◌, refl, ap, sym, ◌∙◌, subst, Some, append_assoc, append-nil, arith}
use Rattle.query_core.specs.Lists.{Has, Each}
use Rattle.query_core.specs.Queries.{Queries, AreLawful, answers, GoesOn, next_key, done_with}
use Rattle.query_core.specs.Graph.{Held, at, inputs, is_current}
use Rattle.query_core.specs.Soundness.{kept, IsUnchanged, IsSound}
use Rattle.query_core.specs.Node.{Node}
use Rattle.query_core.specs.declared.rules.Step.{Step}
use Rattle.query_core.specs.declared.rules.Step.TheVariants.{Ask, Done}
use Rattle.query_core.proofs.Words.{Has-middle, Each-from, Each-append, Each-map, kept-push, answers-push}

pub or_false : (a b : Bool) → (a || b) ≡ true → a ≡ false → b ≡ true
or_false false b h e = h
or_false true b h e = absurd (let bad : ⊥ = cc in bad)

module _ {K V : Type 0} where
  pub ends : (step : Step K V) (left : List K) (v w : V) → GoesOn left v step → done_with step ≡ Some w → (left ≡ []) × (w ≡ v)
  ends (Ask ks) left v w h e = absurd (let bad : ⊥ = cc in bad)
  ends (Done x) left v w h e = let s : x ≡ w = cc in (h.0, sym s ∙ h.1)

  pub goes : (step : Step K V) (left : List K) (v : V) (k : K) → GoesOn left v step → next_key step ≡ Some k → (more : List K) × (left ≡ k ∷ more)
  goes (Ask []) left v k h e = let bad : ⊥ = cc in absurd bad
  goes (Ask (x ∷ xs)) left v k h e = let s : x ≡ k = cc in (xs ++ h.1.0, h.1.1 ∙ ap (λ y. y ∷ (xs ++ h.1.0)) s)
  goes (Done x) left v k h e = let bad : ⊥ = cc in absurd bad

  -- the read at the node didn't change after the stamp, and holds its value if the key reads it
  abbrev pub IsGood : Queries K V → Held K V → ℕ → K → ℕ → Type 0
  IsGood q g since k j = (d : Node K V) → at g j ≡ Some d → (d.changed_at ≤ since) × (Has (q.asks (inputs q g) k) d.key → d.value ≡ q.val (inputs q g) d.key)

  -- what the key reads, cut where some reads of its record end: these hold their values
  pub record Follows (q : Queries K V) (g : Held K V) (k : K) (nodes : List ℕ) : Type 0 where
    pub first : List K
    pub left : List K
    pub asks : q.asks (inputs q g) k ≡ first ++ left
    pub kept : kept g nodes ≡ answers (q.val (inputs q g)) first

  -- one more read
  pub follow_one : (q : Queries K V) (g : Held K V) (laws : AreLawful q) (sound : IsSound q g) (i : ℕ) (r : Node K V) → at g i ≡ Some r → q.is_input r.key ≡ false
      → (a : List ℕ) (j : ℕ) (left : List ℕ) (d : Node K V) → r.reads ≡ a ++ j ∷ left → at g j ≡ Some d → Each (IsUnchanged g r.verified_at) a
      → (f : Follows q g r.key a) → (more : List K) × (f.left ≡ d.key ∷ more)
  follow_one q g laws sound i r e n a j left d s ej un f =
      let replay = sound.replays i r e n a (j ∷ left) s un d ej in
      let law = laws.steps (inputs q g) r.key n f.first f.left f.asks in
      goes (q.step r.key (answers (q.val (inputs q g)) f.first)) f.left (q.val (inputs q g) r.key) d.key law (rw f.kept at replay)

  pub follow_push : (q : Queries K V) (g : Held K V) (k : K) (a : List ℕ) (j : ℕ) (d : Node K V) → at g j ≡ Some d → (f : Follows q g k a)
      → (more : List K) → f.left ≡ d.key ∷ more → d.value ≡ q.val (inputs q g) d.key → Follows q g k (a ++ j ∷ [])
  follow_push q g k a j d ej f more s v = record {
    first = f.first ++ d.key ∷ [];
    left = more;
    asks = f.asks ∙ ap (λ l. f.first ++ l) s ∙ sym (append_assoc f.first (d.key ∷ []) more);
    kept = kept-push g a j d ej ∙ ap (λ l. l ++ (d.key, d.value) ∷ []) f.kept ∙ ap (λ x. answers (q.val (inputs q g)) f.first ++ (d.key, x) ∷ []) v ∙ sym (answers-push (q.val (inputs q g)) f.first d.key);
  }

  pub follow_none : (q : Queries K V) (g : Held K V) (k : K) → Follows q g k []
  follow_none q g k = record { first = []; left = q.asks (inputs q g) k; asks = refl; kept = refl }

  -- the first reads of a record, unchanged and good, are the first that its key reads
  pub follow : (q : Queries K V) (g : Held K V) (laws : AreLawful q) (sound : IsSound q g) (i : ℕ) (r : Node K V) → at g i ≡ Some r → q.is_input r.key ≡ false
      → (b a left : List ℕ) → r.reads ≡ a ++ (b ++ left) → Each (IsUnchanged g r.verified_at) a → Each (IsGood q g r.verified_at r.key) b → Follows q g r.key a → Follows q g r.key (a ++ b)
  follow q g laws sound i r e n [] a left s un good f = subst (Follows q g r.key) (sym (append-nil a)) f
  follow q g laws sound i r e n (j ∷ b) a left s un good f =
      let st = sound.stands i j r e (subst (λ l. Has l j) (sym s) (Has-middle a (b ++ left) j)) in
      let ej = st.1 in
      let one = follow_one q g laws sound i r e n a j (b ++ left) st.0 s ej un f in
      let has : Has (q.asks (inputs q g) r.key) st.0.key = subst (λ l. Has l st.0.key) (sym (f.asks ∙ ap (λ l. f.first ++ l) one.1)) (Has-middle f.first one.0 st.0.key) in
      let good_j = good.0 st.0 ej in
      let f' = follow_push q g r.key a j st.0 ej f one.0 one.1 (good_j.1 has) in
      let un_j : IsUnchanged g r.verified_at j = λ d' e'. let same : st.0 ≡ d' = cc in subst (λ (x : Node K V). x.changed_at ≤ r.verified_at) same good_j.0 in
      let rest = follow q g laws sound i r e n b (a ++ j ∷ []) left (s ∙ sym (append_assoc a (j ∷ []) (b ++ left))) (Each-append (IsUnchanged g r.verified_at) a (j ∷ []) un (un_j, tt)) good.1 f' in
      subst (Follows q g r.key) (append_assoc a (j ∷ []) b) rest

  abbrev pub HoldsValue : Queries K V → Held K V → Node K V → Type 0
  HoldsValue q g r = r.value ≡ q.val (inputs q g) r.key

  -- all reads of a record, unchanged and good: the record holds its value, and they are what its key reads
  pub follow_all : (q : Queries K V) (g : Held K V) (laws : AreLawful q) (sound : IsSound q g) (i : ℕ) (r : Node K V) → at g i ≡ Some r → q.is_input r.key ≡ false
      → Each (IsGood q g r.verified_at r.key) r.reads
      → HoldsValue q g r × (kept g r.reads ≡ answers (q.val (inputs q g)) (q.asks (inputs q g) r.key))
  follow_all q g laws sound i r e n good =
      let f = follow q g laws sound i r e n r.reads [] [] (sym (append-nil r.reads)) tt good (follow_none q g r.key) in
      let un : Each (IsUnchanged g r.verified_at) r.reads = Each-map (IsGood q g r.verified_at r.key) (IsUnchanged g r.verified_at) r.reads (λ j m p d ej. (p d ej).0) good in
      let replay = sound.replays i r e n r.reads [] (sym (append-nil r.reads)) un in
      let law = laws.steps (inputs q g) r.key n f.first f.left f.asks in
      let end = ends (q.step r.key (answers (q.val (inputs q g)) f.first)) f.left (q.val (inputs q g) r.key) r.value law (rw f.kept at replay) in
      let all : f.first ≡ q.asks (inputs q g) r.key = sym (append-nil f.first) ∙ sym (f.asks ∙ ap (λ l. f.first ++ l) end.0) in
      (end.1, f.kept ∙ ap (answers (q.val (inputs q g))) all)

  -- a record that is no input and was verified now has this stamp
  pub current_stamp : (q : Queries K V) (g : Held K V) (r : Node K V) → is_current q g r ≡ true → q.is_input r.key ≡ false → r.verified_at ≡ g.revision
  current_stamp q g r c n = let e : (r.verified_at == g.revision) ≡ true = or_false (q.is_input r.key) (r.verified_at == g.revision) c n in grind (arith, e)

  input_value : (q : Queries K V) (g : Held K V) (laws : AreLawful q) (sound : IsSound q g) (i : ℕ) (r : Node K V) → at g i ≡ Some r → q.is_input r.key ≡ true → inputs q g r.key ≡ r.value
  input_value q g laws sound i r e n = let s = sound.numbered i r e in rw (n, s, e) refl

  values_at : (q : Queries K V) (g : Held K V) (laws : AreLawful q) (sound : IsSound q g) (n : ℕ) (i : ℕ) (r : Node K V) → at g i ≡ Some r → is_current q g r ≡ true → q.rank (inputs q g) r.key < n + 1
      → ((j : ℕ) (d : Node K V) → at g j ≡ Some d → is_current q g d ≡ true → q.rank (inputs q g) d.key < n → HoldsValue q g d)
      → q.is_input r.key ≡ false → Each (IsGood q g r.verified_at r.key) r.reads
  values_at q g laws sound n i r e c lt ih isnt =
      Each-from (IsGood q g r.verified_at r.key) r.reads
      (λ j m d ej.
      let stamp = current_stamp q g r c isnt in
      let now = sound.stamps j d ej in
      ((omega arith), (λ has. let rk = laws.ranks (inputs q g) r.key d.key has in ih j d ej (sound.verified i j r d e c m ej) (omega arith))))

  below : (q : Queries K V) (g : Held K V) (laws : AreLawful q) (sound : IsSound q g) (n : ℕ) (i : ℕ) (r : Node K V) → at g i ≡ Some r → is_current q g r ≡ true → q.rank (inputs q g) r.key < n
      → HoldsValue q g r
  below q g laws sound zero i r e c lt = absurd (omega arith)
  below q g laws sound (suc n) i r e c lt =
      elim (q.is_input r.key) as (λ b. q.is_input r.key ≡ b → HoldsValue q g r) [
        | true ↦ (λ is. sym (input_value q g laws sound i r e is) ∙ sym (laws.inputs (inputs q g) r.key is))
        | false ↦ (λ isnt. (follow_all q g laws sound i r e isnt (values_at q g laws sound n i r e c (omega arith) (below q g laws sound n) isnt)).0)
      ] refl

  -- a record that was verified now holds the value of its key
  pub current_value : (q : Queries K V) (g : Held K V) (laws : AreLawful q) (sound : IsSound q g) (i : ℕ) (r : Node K V) → at g i ≡ Some r → is_current q g r ≡ true → HoldsValue q g r
  current_value q g laws sound i r e c = below q g laws sound (q.rank (inputs q g) r.key + 1) i r e c (omega arith)

  -- and its reads are what its key reads
  pub current_reads : (q : Queries K V) (g : Held K V) (laws : AreLawful q) (sound : IsSound q g) (i : ℕ) (r : Node K V) → at g i ≡ Some r → is_current q g r ≡ true → q.is_input r.key ≡ false
      → kept g r.reads ≡ answers (q.val (inputs q g)) (q.asks (inputs q g) r.key)
  current_reads q g laws sound i r e c isnt =
      (follow_all q g laws sound i r e isnt (values_at q g laws sound (q.rank (inputs q g) r.key) i r e c (omega arith) (λ j d ej cd lt. current_value q g laws sound j d ej cd) isnt)).1
