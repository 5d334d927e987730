-- What the calls of the store say of a graph, and the calls that set inputs.
use Rattle.std.proofs.Common.{if◌then◌else◌, ◌≡◌, ℕ, ◌<◌, ◌≤◌, Bool, true, false, cond, List, [], ◌∷◌, refl, ap, sym, ◌∙◌, subst, inl, inr, ◌⊎◌, Option, Some, None, IsSome, arith}
use Rattle.std.proofs.lemmas.Bool.{cases_eq}
use Rattle.std.specs.Map.{lookup}
use Rattle.std.specs.Option.{option_map_or}
use Rattle.query_core.specs.Lists.{Has}
use Rattle.query_core.specs.Queries.{Queries, AreLawful}
use Rattle.query_core.specs.Graph.{Held, at, node_of, record_of, inputs}
use Rattle.query_core.specs.Stored.{Stored, Changes, Adds, node_at, Prepares}
use Rattle.query_core.specs.Answering.{IsNumbered}
use Rattle.query_core.specs.Soundness.{IsSound, IsUnswept}
use Rattle.query_core.specs.Changes.{Puts, SetsInput, IsFresh, IsStamped, Moves}
use Rattle.query_core.specs.Node.{Node}
use Rattle.query_core.proofs.Puts.{Keeps, sound_puts, unswept_puts, same_key}

pub is_some_from : {X : Type 0} (o : Option X) (x : X) → o ≡ Some x → IsSome o
is_some_from o x e = rw e refl

pub lookup_same : {K X : Type 0} (f h : K → K → Bool) → ((a b : K) → f a b ≡ h a b) → (k : K) (es : List (K × X)) → lookup (f k) es ≡ lookup (h k) es
lookup_same f h s k [] = refl
lookup_same f h s k (e ∷ es) = ap (λ b. cond b (Some e.1) (lookup (f k) es)) (s k e.0) ∙ ap (λ l. cond (h k e.0) (Some e.1) l) (lookup_same f h s k es)

module _ {K V : Type 0} where
  -- the graph of a store
  abbrev pub held : Stored K V → ℕ → List K → Held K V
  held s revision runs = record { nodes = s.nodes; numbers = s.numbers; revision = revision; runs = runs; demanded_at = s.clean_at }

  -- the record at a node that the store names
  pub stored_node : (q : Queries K V) (eq : K → K → Bool) (same : (a b : K) → eq a b ≡ q.same a b) (s : Stored K V) (n : ℕ) (rs : List K) → IsSound q (held s n rs)
      → (k : K) (i : ℕ) → lookup (eq k) s.numbers ≡ Some i → (r : Node K V) × (node_at s i ≡ Some r) × (r.key ≡ k)
  stored_node q eq same s n rs sound k i e = sound.numbers k i (sym (lookup_same eq q.same same k s.numbers) ∙ e)

  -- a key without a record has no number
  pub no_number : (q : Queries K V) (eq : K → K → Bool) (same : (a b : K) → eq a b ≡ q.same a b) (s : Stored K V) (n : ℕ) (rs : List K) → IsSound q (held s n rs)
      → (k : K) → record_of q (held s n rs) k ≡ None → lookup (eq k) s.numbers ≡ None
  no_number q eq same s n rs sound k e =
      elim (lookup (eq k) s.numbers) as (λ o. lookup (eq k) s.numbers ≡ o → o ≡ None) [
        | None ↦ (λ _. refl)
        | Some i ↦ (λ f. let st = stored_node q eq same s n rs sound k i f in
            let was : record_of q (held s n rs) k ≡ Some st.0 = ap (λ o. option_map_or (at (held s n rs)) o None) (sym (lookup_same eq q.same same k s.numbers) ∙ f) ∙ st.1 in
            let bad : ⊥ = cc in absurd bad)
      ] refl

  -- the store gives each key the number of its node
  pub numbered_of : (q : Queries K V) (laws : AreLawful q) (eq : K → K → Bool) (same : (a b : K) → eq a b ≡ q.same a b) (s : Stored K V) (n : ℕ) (rs : List K) → IsSound q (held s n rs) → IsNumbered eq s
  numbered_of q laws eq same s n rs sound = record {
    stands = λ k i e. let st = stored_node q eq same s n rs sound k i e in
        (st.0, (st.1, same k st.0.key ∙ subst (λ x. q.same k x ≡ true) (sym st.2) (laws.same_self k)));
    only = λ k i r e is. let key : k ≡ r.key = laws.same k r.key (sym (same k r.key) ∙ is) in
        lookup_same eq q.same same k s.numbers ∙ subst (λ x. node_of q (held s n rs) x ≡ Some i) (sym key) (sound.numbered i r e);
  }

  -- the store's number of a key is the graph's
  pub number_is : (q : Queries K V) (eq : K → K → Bool) (same : (a b : K) → eq a b ≡ q.same a b) (s : Stored K V) (n : ℕ) (rs : List K) (k : K) (o : Option ℕ)
      → node_of q (held s n rs) k ≡ o → lookup (eq k) s.numbers ≡ o
  number_is q eq same s n rs k o e = lookup_same eq q.same same k s.numbers ∙ e

  pub puts_changes : (q : Queries K V) (laws : AreLawful q) (s s' : Stored K V) (n : ℕ) (rs rs' : List K) (sound : IsSound q (held s n rs)) (i : ℕ) (r r' : Node K V)
      → node_at s i ≡ Some r → r'.key ≡ r.key → Changes s s' i r' → Puts q (held s n rs) (held s' n rs') i r'
  puts_changes q laws s s' n rs rs' sound i r r' e key ch =
      let own : node_of q (held s n rs) r'.key ≡ Some i = subst (λ x. node_of q (held s n rs) x ≡ Some i) (sym key) (sound.numbered i r e) in
      record {
        here = ch.here;
        others = ch.others;
        numbers = λ k.
            elim (q.same r'.key k) as (λ b. q.same r'.key k ≡ b → node_of q (held s' n rs') k ≡ cond b (Some i) (node_of q (held s n rs) k)) [
              | true ↦ (λ is. ap (lookup (q.same k)) ch.numbers ∙ subst (λ x. node_of q (held s n rs) x ≡ Some i) (laws.same r'.key k is) own)
              | false ↦ (λ is. ap (lookup (q.same k)) ch.numbers)
            ] refl;
        place = inl own;
        revision = refl;
      }

  pub puts_adds : (q : Queries K V) (eq : K → K → Bool) (same : (a b : K) → eq a b ≡ q.same a b) (s s' : Stored K V) (n : ℕ) (rs rs' : List K) (i : ℕ) (r : Node K V)
      → lookup (eq r.key) s.numbers ≡ None → Adds eq s s' i r → Puts q (held s n rs) (held s' n rs') i r
  puts_adds q eq same s s' n rs rs' i r e ad = record {
    here = ad.here;
    others = ad.others;
    numbers = λ k. sym (lookup_same eq q.same same k s'.numbers) ∙ ad.numbers k ∙ ap (λ b. cond b (Some i) (lookup (eq k) s.numbers)) (same r.key k)
        ∙ ap (λ l. cond (q.same r.key k) (Some i) l) (lookup_same eq q.same same k s.numbers);
    place = inr (ad.free, sym (lookup_same eq q.same same r.key s.numbers) ∙ e);
    revision = refl;
  }

  -- the stamp that a comparison of the values gives
  pub moves_if : (eq : V → V → Bool) → ((a b : V) → eq a b ≡ true → a ≡ b) → ((a : V) → eq a a ≡ true) → (now : ℕ) (r s : Node K V)
      → s.changed_at ≡ cond (eq r.value s.value) r.changed_at now → Moves now r s
  moves_if eq means itself now r s e =
      elim (eq r.value s.value) as (λ b. eq r.value s.value ≡ b → Moves now r s) [
        | true ↦ (λ is. inl (sym (means r.value s.value is), e ∙ ap (λ b. cond b r.changed_at now) is))
        | false ↦ (λ is. inr (
          (λ same. let yes : eq r.value s.value ≡ true = subst (λ x. eq r.value x ≡ true) (sym same) (itself r.value) in let bad : ⊥ = cc in bad),
          e ∙ ap (λ b. cond b r.changed_at now) is,
        ))
      ] refl

  module _ (q : Queries K V) (laws : AreLawful q) (old : Held K V) (sound : IsSound q old) (fresh : IsFresh q old) where
    pub input_keeps : (i : ℕ) (r : Node K V) → q.is_input r.key ≡ true → r.input ≡ true → r.reads ≡ [] → (r.verified_at ≤ old.revision) × (r.changed_at ≤ old.revision)
        → ((s : Node K V) → at old i ≡ Some s → ((r.value ≡ s.value) × (r.changed_at ≡ s.changed_at)) ⊎ (r.changed_at ≡ old.revision)) → Keeps q old i r
    input_keeps i r is flag none stamps still = record {
      current = rw is refl;
      flag = flag ∙ sym is;
      reads = λ j h. absurd (let bad : ⊥ = subst (λ l. Has l j) none h in bad);
      inputs = λ _. none;
      replays = λ isnt first left e. absurd (let bad : ⊥ = cc in bad);
      stamps = stamps;
      still = λ j s e at_i at_j has.
          elim (still s at_i) [
            | inl p ↦ inl p
            | inr p ↦ inr (
                elim (q.is_input e.key) as (λ b. q.is_input e.key ≡ b → e.verified_at < r.changed_at) [
                  | true ↦ (λ yes. absurd (let bad : ⊥ = subst (λ l. Has l i) (sound.inputs j e at_j yes) has in bad))
                  | false ↦ (λ isnt. let lt = fresh j e at_j isnt in omega arith)
                ] refl)
          ];
    }

    pub fresh_puts : (new : Held K V) (i : ℕ) (r : Node K V) → Puts q old new i r → q.is_input r.key ≡ true → IsFresh q new
    fresh_puts new i r puts is j d e isnt =
        elim (cases_eq j i) [
          | inl ji ↦ absurd (let h : at new i ≡ Some d = subst (λ n. at new n ≡ Some d) ji e in let p = puts.here in
              let same : r ≡ d = cc in let yes : q.is_input d.key ≡ true = subst (λ (x : Node K V). q.is_input x.key ≡ true) same is in let bad : ⊥ = cc in bad)
          | inr n ↦ subst (λ m. d.verified_at < m) (sym puts.revision) (fresh j d (sym (puts.others j n) ∙ e) isnt)
        ]

  module _ (q : Queries K V) (laws : AreLawful q) (old new : Held K V) (i : ℕ) (r : Node K V) (sound : IsSound q old) (puts : Puts q old new i r) (is : q.is_input r.key ≡ true) where
    reads_input : (h : Held K V) (x : K) → q.is_input x ≡ true → inputs q h x ≡ option_map_or (λ (e : Node K V). e.value) (record_of q h x) (q.unset x)
    reads_input h x was_in = ap (λ b. if b then option_map_or (λ (e : Node K V). e.value) (record_of q h x) (q.unset x) else q.unset x) was_in

    reads_unset : (h : Held K V) (x : K) → q.is_input x ≡ false → inputs q h x ≡ q.unset x
    reads_unset h x isnt = ap (λ b. if b then option_map_or (λ (e : Node K V). e.value) (record_of q h x) (q.unset x) else q.unset x) isnt

    -- a key that isn't that of the record has the record that it had
    pub other_record : (x : K) → q.same r.key x ≡ false → record_of q new x ≡ record_of q old x
    other_record x n =
        ap (λ o. option_map_or (at new) o None) (puts.numbers x ∙ ap (λ b. cond b (Some i) (node_of q old x)) n) ∙
        elim (node_of q old x) as (λ o. node_of q old x ≡ o → option_map_or (at new) o None ≡ option_map_or (at old) o None) [
          | None ↦ (λ _. refl)
          | Some j ↦ (λ e. puts.others j (λ ji.
              let st = sound.numbers x j e in
              let key : r.key ≡ x = sym (same_key q laws old new i r sound puts st.0 (subst (λ m. at old m ≡ Some st.0) ji st.1)) ∙ st.2 in
              let was_in : q.same r.key x ≡ true = subst (λ y. q.same r.key y ≡ true) key (laws.same_self r.key) in let bad : ⊥ = cc in bad))
        ] refl

    -- the inputs after one was put
    pub given_puts : (x : K) → inputs q new x ≡ cond (q.same r.key x) r.value (inputs q old x)
    given_puts x =
        elim (q.same r.key x) as (λ b. q.same r.key x ≡ b → inputs q new x ≡ cond b r.value (inputs q old x)) [
          | true ↦ (λ e.
              let key : r.key ≡ x = laws.same r.key x e in
              let was_in : q.is_input x ≡ true = subst (λ y. q.is_input y ≡ true) key is in
              let rec : record_of q new x ≡ Some r = ap (λ o. option_map_or (at new) o None) (puts.numbers x ∙ ap (λ b. cond b (Some i) (node_of q old x)) e) ∙ puts.here in
              reads_input new x was_in ∙ ap (λ o. option_map_or (λ (e' : Node K V). e'.value) o (q.unset x)) rec)
          | false ↦ (λ e.
              elim (q.is_input x) as (λ b. q.is_input x ≡ b → inputs q new x ≡ inputs q old x) [
                | true ↦ (λ was_in. reads_input new x was_in ∙ ap (λ o. option_map_or (λ (e' : Node K V). e'.value) o (q.unset x)) (other_record x e) ∙ sym (reads_input old x was_in))
                | false ↦ (λ isnt. reads_unset new x isnt ∙ sym (reads_unset old x isnt))
              ] refl)
        ] refl

  -- what setting an input has to show
  pub record SetDone (q : Queries K V) (old new : Held K V) (k : K) (v : V) (i : ℕ) : Type 0 where
    pub sound : IsSound q new
    pub sets : SetsInput q old new k v
    pub node_is : sets.node ≡ i
    pub fresh : IsFresh q new
    pub unswept : IsUnswept q old → IsUnswept q new

  module _ (q : Queries K V) (laws : AreLawful q) (eq : K → K → Bool) (same : (a b : K) → eq a b ≡ q.same a b) (s s' : Stored K V) (n : ℕ) (rs : List K)
      (sound : IsSound q (held s n rs)) (fresh : IsFresh q (held s n rs)) (k : K) (v : V) (is : q.is_input k ≡ true) where
    pub set_done : (i : ℕ) (r : Node K V) → Puts q (held s n rs) (held s' n rs) i r → r.key ≡ k → r.value ≡ v → r.reads ≡ [] → r.input ≡ true → r.verified_at ≤ n → r.changed_at ≤ n
        → IsStamped n (record_of q (held s n rs) k) r
        → ((e : Node K V) → at (held s n rs) i ≡ Some e → ((r.value ≡ e.value) × (r.changed_at ≡ e.changed_at)) ⊎ (r.changed_at ≡ n))
        → SetDone q (held s n rs) (held s' n rs) k v i
    set_done i r puts key value none flag va ca stamped still =
        let is' : q.is_input r.key ≡ true = subst (λ x. q.is_input x ≡ true) (sym key) is in
        let keeps = input_keeps q laws (held s n rs) sound fresh i r is' flag none (va, ca) still in
        record {
          sound = sound_puts q laws (held s n rs) (held s' n rs) i r sound puts keeps (inl refl);
          unswept = λ u. unswept_puts q laws (held s n rs) (held s' n rs) i r sound puts keeps u (inl refl);
          sets = record {
            node = i;
            entry = r;
            puts = puts;
            key = key;
            value = value;
            reads = none;
            stamped = stamped;
            runs = refl;
            given = λ x. given_puts q laws (held s n rs) (held s' n rs) i r sound puts is' x
                ∙ ap (λ y. cond (q.same y x) r.value (inputs q (held s n rs) x)) key ∙ ap (λ w. cond (q.same k x) w (inputs q (held s n rs) x)) value;
          };
          node_is = refl;
          fresh = fresh_puts q laws (held s n rs) sound fresh (held s' n rs) i r puts is';
        }

    pub set_changed : (veq : V → V → Bool) → ((a b : V) → veq a b ≡ true → a ≡ b) → ((a : V) → veq a a ≡ true) → (i : ℕ) → lookup (eq k) s.numbers ≡ Some i
        → ((r : Node K V) → node_at s i ≡ Some r → Changes s s' i (record { key = r.key; value = v; reads = r.reads; input = r.input; verified_at = n; changed_at = cond (veq r.value v) r.changed_at n }))
        → SetDone q (held s n rs) (held s' n rs) k v i
    set_changed veq means itself i found ch =
        let st = stored_node q eq same s n rs sound k i found in
        let none = sound.inputs i st.0 st.1 (subst (λ x. q.is_input x ≡ true) (sym st.2) is) in
        let new : Node K V = record { key = st.0.key; value = v; reads = st.0.reads; input = st.0.input; verified_at = n; changed_at = cond (veq st.0.value v) st.0.changed_at n } in
        let puts = puts_changes q laws s s' n rs rs sound i st.0 new st.1 refl (ch st.0 st.1) in
        let moves : Moves n st.0 new = moves_if veq means itself n st.0 new refl in
        let was : record_of q (held s n rs) k ≡ Some st.0 = ap (λ o. option_map_or (at (held s n rs)) o None) (sym (lookup_same eq q.same same k s.numbers) ∙ found) ∙ st.1 in
        let small : cond (veq st.0.value v) st.0.changed_at n ≤ n = elim moves [ inl p ↦ (let le = (sound.stamps i st.0 st.1).1 in let e = p.1 in omega arith) | inr p ↦ (let e = p.1 in omega arith) ] in
        set_done i new puts st.2 refl none (sound.flagged i st.0 st.1 ∙ subst (λ x. q.is_input x ≡ true) (sym st.2) is) (omega arith) small (subst (λ o. IsStamped n o new) (sym was) moves)
        (λ e at_e. let same_e : st.0 ≡ e = (let h = st.1 in cc) in
        subst (λ (x : Node K V). ((new.value ≡ x.value) × (new.changed_at ≡ x.changed_at)) ⊎ (new.changed_at ≡ n)) same_e
        (elim moves [ inl p ↦ inl p | inr p ↦ inr p.1 ]))

    pub set_added : lookup (eq k) s.numbers ≡ None → (i : ℕ) (reads : List ℕ) → reads ≡ [] → Adds eq s s' i (record { key = k; value = v; reads = reads; input = true; verified_at = n; changed_at = n })
        → SetDone q (held s n rs) (held s' n rs) k v i
    set_added absent i reads none ad =
        let new : Node K V = record { key = k; value = v; reads = reads; input = true; verified_at = n; changed_at = n } in
        let puts = puts_adds q eq same s s' n rs rs i new absent ad in
        let was : record_of q (held s n rs) k ≡ None = ap (λ o. option_map_or (at (held s n rs)) o None) (sym (lookup_same eq q.same same k s.numbers) ∙ absent) in
        set_done i new puts refl refl none refl (omega arith) (omega arith) (subst (λ o. IsStamped n o new) (sym was) refl)
        (λ e at_e. inr refl)

  -- a store was prepared for the value of an input, and then has it
  pub prepared_changes : (same : V → V → Bool) (s s1 s' : Stored K V) (i : ℕ) (v : V) (n : ℕ) → Prepares same s s1 i v
      → ((r : Node K V) → node_at s1 i ≡ Some r → Changes s1 s' i (record { key = r.key; value = v; reads = r.reads; input = r.input; verified_at = n; changed_at = cond (same r.value v) r.changed_at n }))
      → (r : Node K V) → node_at s i ≡ Some r → Changes s s' i (record { key = r.key; value = v; reads = r.reads; input = r.input; verified_at = n; changed_at = cond (same r.value v) r.changed_at n })
  prepared_changes same s s1 s' i v n p ch r e =
      let c = ch r (p.nodes i ∙ e) in
      record { here = c.here; others = λ j ne. c.others j ne ∙ p.nodes j; numbers = c.numbers ∙ p.numbers }
