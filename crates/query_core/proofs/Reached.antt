-- What is reached along clean readers, and what is left of marks that are taken away.
use Rattle.std.proofs.Common.{◌≡◌, ◌≢◌, ℕ, ◌<◌, Bool, true, false, ◌&&◌, cond, List, [], ◌∷◌, length, refl, ap, sym, ◌∙◌, subst, inl, inr, ◌⊎◌, Option, Some, None, slice_index_or}
use Rattle.std.proofs.lemmas.Bool.{cases_eq}
use Rattle.std.specs.Prelude.{slice_get}
use Rattle.std.specs.Option.{option_map}
use Rattle.slab.specs.Slab.{Slab, get, Updates}
use Rattle.query_core.specs.Lists.{Has}
use Rattle.query_core.specs.Marking.{marked, all_marked}
use Rattle.query_core.specs.Readers.{Entries, Reaches, Names, KeepsNames, clean_of, clean_readers, is_live, row_at}
use Rattle.query_core.specs.Stored.{Stored, Opens, Prepares, AreNamed, clean_in, shown, stored, marked_clean, node_at}
use Rattle.query_core.specs.Node.{Node}
use Rattle.query_core.specs.declared.readers.Reader.{Reader}
use Rattle.query_core.specs.declared.record.Record.{Record}
use Rattle.query_core.proofs.Marking.{Along, Finding, all_found, at_within}
use Rattle.query_core.proofs.Marking.Along.{begin, step}
use Rattle.query_core.proofs.Slots.{seen_at, mark_is, kept_of}

module _ (rows : List Entries) (clean : ℕ → Bool) where
  -- one entry is looked at
  pub mark_step : (nodes : List ℕ) (e : Reader) (es : List Reader) → all_marked (cond (is_live rows e && clean e.node) (marked nodes e.node) nodes) (clean_of rows clean es) ≡ all_marked nodes (clean_of rows clean (e ∷ es))
  mark_step nodes e es =
      elim (is_live rows e && clean e.node) as (λ b. all_marked (cond b (marked nodes e.node) nodes) (clean_of rows clean es) ≡ all_marked nodes (cond b (e.node ∷ clean_of rows clean es) (clean_of rows clean es))) [
        | true ↦ refl
        | false ↦ refl
      ]

  -- a clean record that is named is among the clean readers
  clean_has : (es : List Reader) (e : Reader) → Has es e → is_live rows e ≡ true → clean e.node ≡ true → Has (clean_of rows clean es) e.node
  clean_has [] e h l c = absurd h
  clean_has (x ∷ es) e h l c =
      elim h [
        | inl s ↦ (let both : (is_live rows x && clean x.node) ≡ true = subst (λ (y : Reader). (is_live rows y && clean y.node) ≡ true) (sym s) (ap (λ b. b && clean e.node) l ∙ c) in
            subst (λ (b : Bool). Has (cond b (x.node ∷ clean_of rows clean es) (clean_of rows clean es)) e.node) (sym both) (inl (ap (λ (y : Reader). y.node) s)))
        | inr m ↦ (let rest = clean_has es e m l c in
            elim (is_live rows x && clean x.node) as (λ b. Has (cond b (x.node ∷ clean_of rows clean es) (clean_of rows clean es)) e.node) [ true ↦ inr rest | false ↦ rest ])
      ]

  pub named_clean : (j i : ℕ) → Names rows j i → clean i ≡ true → Has (clean_readers rows clean j) i
  named_clean j i n c = subst (Has (clean_readers rows clean j)) n.node (clean_has (row_at rows j).readers n.entry n.stands n.live (subst (λ m. clean m ≡ true) (sym n.node) c))

  -- and each of those is clean
  clean_from : (es : List Reader) (i : ℕ) → Has (clean_of rows clean es) i → clean i ≡ true
  clean_from [] i h = absurd h
  clean_from (x ∷ es) i h =
      elim (is_live rows x) as (λ a. is_live rows x ≡ a → Has (cond (a && clean x.node) (x.node ∷ clean_of rows clean es) (clean_of rows clean es)) i → clean i ≡ true) [
        | true ↦ (λ _. elim (clean x.node) as (λ b. clean x.node ≡ b → Has (cond b (x.node ∷ clean_of rows clean es) (clean_of rows clean es)) i → clean i ≡ true) [
          | true ↦ (λ y m. elim m [ inl s ↦ subst (λ k. clean k ≡ true) s y | inr r ↦ clean_from es i r ])
          | false ↦ (λ y m. clean_from es i m)
        ] refl)
        | false ↦ (λ _ m. clean_from es i m)
      ] refl h

  pub along_clean : (node i : ℕ) → Along (clean_readers rows clean) (clean_readers rows clean node) i → clean i ≡ true
  along_clean node i (begin k h) = clean_from (row_at rows node).readers i h
  along_clean node i (step a k u h) = clean_from (row_at rows a).readers i h

  pub found_reaches : (node : ℕ) (used : List ℕ) (place : ℕ) → Finding (clean_readers rows clean) (clean_readers rows clean node) used place → slice_get used place ≡ None → Reaches rows clean node used
  found_reaches node used place f none = record {
    begun = λ i h. all_found (clean_readers rows clean) (clean_readers rows clean node) used place f none i (begin i h);
    closed = λ a i h m. all_found (clean_readers rows clean) (clean_readers rows clean node) used place f none i (step a i (f.only a h) m);
  }

module _ {K V : Type 0} where
  -- a clean record is one
  pub clean_below : (slots : List (Option (Record K V))) (i : ℕ) → clean_in slots i ≡ true → i < length slots
  clean_below slots i c =
      elim (slice_index_or slots i None) as (λ o. slice_index_or slots i None ≡ o → marked_clean o ≡ true → i < length slots) [
        | None ↦ (λ e m. absurd (let bad : ⊥ = cc in bad))
        | Some r ↦ (λ e m. at_within slots i r e)
      ] refl c

  pub reach_below : (rows : List Entries) (slots : List (Option (Record K V))) (node i : ℕ) → Along (clean_readers rows (clean_in slots)) (clean_readers rows (clean_in slots) node) i → i < length slots
  reach_below rows slots node i a = clean_below slots i (along_clean rows (clean_in slots) node i a)

  -- the marks are taken away up to a place
  pub record Opening (c : ℕ) (list : List ℕ) (old slots : List (Option (Record K V))) (rest : List ℕ) : Type 0 where
    pub seen : (i : ℕ) → option_map (shown c) (slice_index_or slots i None) ≡ option_map (shown c) (slice_index_or old i None)
    pub less : (i : ℕ) → clean_in slots i ≡ true → clean_in old i ≡ true
    pub opened : (i : ℕ) → Has list i → Has rest i ⊎ (clean_in slots i ≡ false)
    pub listed : (i : ℕ) → clean_in old i ≡ true → clean_in slots i ≡ false → Has list i
    pub part : (i : ℕ) → Has rest i → Has list i

  module _ (c : ℕ) (list : List ℕ) (old : List (Option (Record K V))) where
    pub opening_begins : Opening c list old old list
    opening_begins = record { seen = λ i. refl; less = λ i e. e; opened = λ i h. inl h; listed = λ i y n. absurd (let bad : ⊥ = cc in bad); part = λ i h. h }

    pub opening_ends : (slots : List (Option (Record K V))) (rest : List ℕ) → Opening c list old slots rest → rest ≡ [] → Opens old slots list c
    opening_ends slots rest o none = record {
      seen = o.seen;
      less = o.less;
      opened = λ i h. elim (o.opened i h) [ inl r ↦ absurd (subst (λ l. Has l i) none r) | inr f ↦ f ];
      listed = o.listed;
    }

    module _ (kept kept' : Slab (Record K V)) (rest : List ℕ) (o : Opening c list old kept.slots rest) (node : ℕ) (behind : List ℕ) (is : rest ≡ node ∷ behind) where
      own : Has list node
      own = o.part node (subst (λ l. Has l node) (sym is) (inl refl))

      -- the record at one node was unmarked, or there is none
      turned : (slots : List (Option (Record K V))) → option_map (shown c) (slice_index_or slots node None) ≡ option_map (shown c) (slice_index_or kept.slots node None) → clean_in slots node ≡ false
          → ((j : ℕ) → j ≢ node → slice_index_or slots j None ≡ slice_index_or kept.slots j None) → Opening c list old slots behind
      turned slots seen off others = record {
        seen = λ i. elim (cases_eq i node) [
          | inl e ↦ subst (λ m. option_map (shown c) (slice_index_or slots m None) ≡ option_map (shown c) (slice_index_or old m None)) (sym e) (seen ∙ o.seen node)
          | inr n ↦ ap (option_map (shown c)) (others i n) ∙ o.seen i
        ];
        less = λ i y. elim (cases_eq i node) [
          | inl e ↦ absurd (let y' : clean_in slots node ≡ true = subst (λ m. clean_in slots m ≡ true) e y in let bad : ⊥ = cc in bad)
          | inr n ↦ o.less i (sym (ap marked_clean (others i n)) ∙ y)
        ];
        opened = λ i h. elim (cases_eq i node) [
          | inl e ↦ inr (subst (λ m. clean_in slots m ≡ false) (sym e) off)
          | inr n ↦ elim (o.opened i h) [
            | inl r ↦ elim (subst (λ l. Has l i) is r) [ inl s ↦ absurd (n (sym s)) | inr b ↦ inl b ]
            | inr f ↦ inr (ap marked_clean (others i n) ∙ f)
          ]
        ];
        listed = λ i y f. elim (cases_eq i node) [
          | inl e ↦ subst (Has list) (sym e) own
          | inr n ↦ o.listed i y (sym (ap marked_clean (others i n)) ∙ f)
        ];
        part = λ i h. o.part i (subst (λ l. Has l i) (sym is) (inr h));
      }

      pub opening_turns : ((r : Record K V) → get kept node ≡ Some r → Updates kept kept' node (Some (record r { clean = false; verified_at = cond r.clean c r.verified_at }))) → (get kept node ≡ None → kept'.slots ≡ kept.slots)
          → Opening c list old kept'.slots behind
      opening_turns some none =
          elim (get kept node) as (λ g. get kept node ≡ g → Opening c list old kept'.slots behind) [
            | None ↦ (λ e. let s = none e in
                turned kept'.slots (ap (λ l. option_map (shown c) (slice_index_or l node None)) s) (ap (λ l. clean_in l node) s ∙ ap marked_clean e) (λ j n. ap (λ l. slice_index_or l j None) s))
            | Some r ↦ (λ e. let u = some r e in turned kept'.slots (ap (option_map (shown c)) u.changed ∙ sym (ap (option_map (shown c)) e)) (ap marked_clean u.changed) u.others)
          ] refl

  -- what an input's new value needs
  module _ (veq : V → V → Bool) (v : V) (rows : List Entries) (slots slots' : List (Option (Record K V))) (numbers : List (K × ℕ)) (c node : ℕ) (named : AreNamed rows slots) where
    pub prepared : (list : List ℕ) → Reaches rows (clean_in slots) node list → Opens slots slots' list c → Prepares veq (stored slots numbers c) (stored slots' numbers c) node v
    prepared list r o = record {
      nodes = λ j. seen_at slots' numbers c j ∙ o.seen j ∙ sym (seen_at slots numbers c j);
      numbers = refl;
      clean_at = refl;
      less = λ a y. mark_is slots numbers c a ∙ o.less a (sym (mark_is slots' numbers c a) ∙ y);
      closed = λ a j e at_a y has.
          let y' = sym (mark_is slots' numbers c a) ∙ y in
          let was = o.less a y' in
          let k = kept_of slots numbers c a e at_a in
          let name = named a j k.0 k.1.0 (subst (λ (x : Node K V). Has x.reads j) (sym k.1.1) has) in
          let reader = named_clean rows (clean_in slots) j a name was in
          let out : ¬ Has list a = (λ h. let off = o.opened a h in let bad : ⊥ = cc in bad) in (
            inl (λ e'. out (r.begun a (subst (λ m. Has (clean_readers rows (clean_in slots) m) a) e' reader))),
            λ cj.
                let cj' = sym (mark_is slots numbers c j) ∙ cj in
                mark_is slots' numbers c j
                ∙ elim (clean_in slots' j) as (λ b. clean_in slots' j ≡ b → b ≡ true) [
                  | true ↦ (λ _. refl)
                  | false ↦ (λ f. absurd (out (r.closed j a (o.listed j cj' f) reader)))
                ] refl,
          );
    }

    -- what is seen the same reads the same
    pub named_opened : (list : List ℕ) → Opens slots slots' list c → AreNamed rows slots'
    named_opened list o i j x at_x has =
        let s : option_map (shown c) (slice_index_or slots i None) ≡ Some (shown c x) = sym (o.seen i) ∙ ap (option_map (shown c)) at_x in
        let k = kept_of slots numbers c i (shown c x) (seen_at slots numbers c i ∙ s) in
        named i j k.0 k.1.0 (subst (λ l. Has l j) (ap (λ (y : Node K V). y.reads) (sym k.1.1)) has)

  -- nothing has to be opened where the value is the same
  pub prepared_same : (veq : V → V → Bool) (v : V) (s : Stored K V) (node : ℕ) → ((x : Node K V) → node_at s node ≡ Some x → veq x.value v ≡ true) → Prepares veq s s node v
  prepared_same veq v s node same = record {
    nodes = λ j. refl;
    numbers = refl;
    clean_at = refl;
    less = λ a y. y;
    closed = λ a j e at_a y has. (inr same, λ cj. cj);
  }

  module _ (rows : List Entries) (slots slots' : List (Option (Record K V))) (node : ℕ) (named : AreNamed rows slots) where
    -- no slot has changed
    pub named_kept : (rows' : List Entries) → slots' ≡ slots → KeepsNames rows rows' → AreNamed rows' slots'
    named_kept rows' same keeps i j r e has = keeps i j (named i j r (ap (λ l. slice_index_or l i None) (sym same) ∙ e) has)

    -- nor has one, and a free node was linked
    pub named_free : (rows' : List Entries) → slots' ≡ slots → slice_index_or slots node None ≡ None → ((i j : ℕ) → i ≢ node → Names rows j i → Names rows' j i) → AreNamed rows' slots'
    named_free rows' same free others i j r e has =
        let e' = ap (λ l. slice_index_or l i None) (sym same) ∙ e in
        others i j (λ n. let at_i : slice_index_or slots i None ≡ None = ap (λ m. slice_index_or slots m None) n ∙ free in let bad : ⊥ = cc in absurd bad) (named i j r e' has)

    -- a record was written, whose reads were linked
    pub named_linked : (rows' : List Entries) (x : Record K V) → slice_index_or slots' node None ≡ Some x → ((k : ℕ) → k ≢ node → slice_index_or slots' k None ≡ slice_index_or slots k None)
        → ((j : ℕ) → Has x.reads j → Names rows' j node) → ((i j : ℕ) → i ≢ node → Names rows j i → Names rows' j i) → AreNamed rows' slots'
    named_linked rows' x here apart links others i j r e has =
        elim (cases_eq i node) [
          | inl n ↦ (let e' : slice_index_or slots' node None ≡ Some r = ap (λ m. slice_index_or slots' m None) (sym n) ∙ e in
              let same : r ≡ x = cc in subst (Names rows' j) (sym n) (links j (subst (λ (y : Record K V). Has y.reads j) same has)))
          | inr n ↦ others i j n (named i j r (sym (apart i n) ∙ e) has)
        ]

    -- a record was written that reads what it read
    pub named_written : (to : Record K V → Record K V) → ((x : Record K V) → (to x).reads ≡ x.reads) → ((x : Record K V) → slice_index_or slots node None ≡ Some x → slice_index_or slots' node None ≡ Some (to x))
        → (slice_index_or slots node None ≡ None → slots' ≡ slots) → ((x : Record K V) → slice_index_or slots node None ≡ Some x → (k : ℕ) → k ≢ node → slice_index_or slots' k None ≡ slice_index_or slots k None) → AreNamed rows slots'
    named_written to reads here none apart =
        elim (slice_index_or slots node None) as (λ o. slice_index_or slots node None ≡ o → AreNamed rows slots') [
          | None ↦ (λ n. subst (AreNamed rows) (sym (none n)) named)
          | Some x ↦ (λ at_x. named_linked rows (to x) (here x at_x) (apart x at_x) (λ j has. named node j x at_x (subst (λ l. Has l j) (reads x) has)) (λ i j n m. m))
        ] refl

    -- a record was removed
    pub named_removed : slice_index_or slots' node None ≡ None → ((k : ℕ) → k ≢ node → slice_index_or slots' k None ≡ slice_index_or slots k None) → AreNamed rows slots'
    named_removed gone apart i j r e has =
        elim (cases_eq i node) [
          | inl n ↦ (let e' : slice_index_or slots' node None ≡ Some r = ap (λ m. slice_index_or slots' m None) (sym n) ∙ e in let bad : ⊥ = cc in absurd bad)
          | inr n ↦ named i j r (sym (apart i n) ∙ e) has
        ]
