-- The walk as a whole: what stands in its path, what it has left of the graph at entry, and that it ends.
use Rattle.std.proofs.Common.{◌≡◌, ◌≢◌, ℕ, ◌≤◌, true, false, ◌||◌, ◌==◌, cond, if◌then◌else◌, List, [], ◌∷◌, take, refl, ap, sym, ◌∙◌, subst, inl, inr, Some, None, arith}
use Rattle.std.proofs.lemmas.Bool.{cases_eq}
use Rattle.std.specs.Option.{option_map_or}
use Rattle.query_core.specs.Lists.{Has}
use Rattle.query_core.specs.Queries.{Queries, AreLawful, answers}
use Rattle.query_core.specs.Graph.{Held, at, node_of, record_of, inputs, is_current, is_verified}
use Rattle.query_core.specs.Soundness.{IsSound}
use Rattle.query_core.specs.Changes.{IsReached}
use Rattle.query_core.specs.Changes.IsReached.{itself, along}
use Rattle.query_core.specs.Walk.{IsSettled, HasMoved, IsOutdated, AreAnswered, IsStage, IsFrame, Leads, Finishes, IsRunning, HasBegun}
use Rattle.query_core.specs.declared.frame.Frame.{Frame}
use Rattle.query_core.specs.declared.frame.Stage.{Stage}
use Rattle.query_core.specs.declared.frame.Stage.TheVariants.{Unset, Start, Check, Run}
use Rattle.query_core.specs.Node.{Node}
use Rattle.query_core.proofs.Words.{Each-map}
use Rattle.query_core.proofs.Reading.{record_is, verified_is}
use Rattle.query_core.proofs.Steps.{not_current, no_record}

module _ {K V : Type 0} (q : Queries K V) (laws : AreLawful q) (g g' : Held K V) (sound : IsSound q g) (k : K) (i : ℕ) (stale : is_verified q g k ≡ false) (f : Finishes q g g' k i) where
  -- the node's record, if there is one, is the key's
  pub key_there : (s : Node K V) → at g i ≡ Some s → s.key ≡ k
  key_there s e =
      elim f.puts.place [
        | inl p ↦ (let n = sound.numbers f.entry.key i p in let same : n.0 ≡ s = (let h = n.1 in cc) in subst (λ (x : Node K V). x.key ≡ f.entry.key) same n.2 ∙ f.key)
        | inr p ↦ absurd (let bad : ⊥ = (let h = p.0 in cc) in bad)
      ]

  other_node : (x : K) → x ≢ k → node_of q g' x ≡ node_of q g x
  other_node x n =
      f.puts.numbers x ∙ ap (λ b. cond b (Some i) (node_of q g x))
      (elim (q.same f.entry.key x) as (λ b. q.same f.entry.key x ≡ b → b ≡ false) [ true ↦ (λ is. absurd (n (sym (laws.same f.entry.key x is) ∙ f.key))) | false ↦ (λ _. refl) ] refl)

  -- a node that stands for another key keeps its record
  keeps_at : (j : ℕ) (d : Node K V) → at g j ≡ Some d → d.key ≢ k → at g' j ≡ Some d
  keeps_at j d e n = elim (cases_eq j i) [ inl ji ↦ absurd (n (key_there d (subst (λ m. at g m ≡ Some d) ji e))) | inr ne ↦ f.puts.others j ne ∙ e ]

  pub same_current : (d : Node K V) → is_current q g' d ≡ is_current q g d
  same_current d = ap (λ n. q.is_input d.key || (d.verified_at == n)) f.puts.revision

  -- a record that was verified now keeps its record
  keeps_current : (j : ℕ) (d : Node K V) → at g j ≡ Some d → is_current q g d ≡ true → (at g' j ≡ Some d) × (is_current q g' d ≡ true)
  keeps_current j d e c =
      (keeps_at j d e (λ s. let no = not_current q g sound k j d stale e s in let bad : ⊥ = cc in bad), same_current d ∙ c)

  pub other_record : (x : K) → x ≢ k → record_of q g' x ≡ record_of q g x
  other_record x n =
      ap (λ o. option_map_or (at g') o None) (other_node x n) ∙
      elim (node_of q g x) as (λ o. node_of q g x ≡ o → option_map_or (at g') o None ≡ option_map_or (at g) o None) [
        | None ↦ (λ _. refl)
        | Some j ↦ (λ e. let st = sound.numbers x j e in keeps_at j st.0 st.1 (λ s. n (sym st.2 ∙ s)) ∙ sym st.1)
      ] refl

  pub other_verified : (x : K) → x ≢ k → is_verified q g' x ≡ is_verified q g x
  other_verified x n =
      ap (λ o. option_map_or (is_current q g') o false) (other_record x n) ∙
      elim (record_of q g x) as (λ o. option_map_or (is_current q g') o false ≡ option_map_or (is_current q g) o false) [ None ↦ refl | Some d ↦ same_current d ]

  pub node_here : node_of q g' k ≡ Some i
  node_here =
      subst (λ x. node_of q g' x ≡ Some i) f.key
      (f.puts.numbers f.entry.key ∙ ap (λ b. cond b (Some i) (node_of q g f.entry.key)) (laws.same_self f.entry.key))

  pub verified_here : is_verified q g' k ≡ true
  verified_here = verified_is q g' k i f.entry node_here f.puts.here ∙ same_current f.entry ∙ f.current

  -- a key that was verified still is
  pub verified_stays : (x : K) → is_verified q g x ≡ true → is_verified q g' x ≡ true
  verified_stays x v = other_verified x (λ s. let no = subst (λ y. is_verified q g y ≡ false) (sym s) stale in let bad : ⊥ = cc in bad) ∙ v

  read_input : (h : Held K V) (x : K) → q.is_input x ≡ true → inputs q h x ≡ option_map_or (λ (r : Node K V). r.value) (record_of q h x) (q.unset x)
  read_input h x is = ap (λ b. if b then option_map_or (λ (r : Node K V). r.value) (record_of q h x) (q.unset x) else q.unset x) is

  -- an input that was finished has the value of inputs that aren't set
  entry_unset : q.is_input k ≡ true → f.entry.value ≡ q.unset k
  entry_unset is =
      let is_e : q.is_input f.entry.key ≡ true = subst (λ x. q.is_input x ≡ true) (sym f.key) is in
      elim f.how [
        | inl h ↦ (let no = not_current q g sound k i h.1.0 stale h.1.1.0 (key_there h.1.0 h.1.1.0) in
            let yes : is_current q g h.1.0 ≡ true = ap (λ b. b || (h.1.0.verified_at == g.revision)) (subst (λ x. q.is_input x ≡ true) (sym (key_there h.1.0 h.1.1.0)) is) in let bad : ⊥ = cc in absurd bad)
        | inr h ↦ elim h [ inl m ↦ (let no = m.1 in let bad : ⊥ = cc in absurd bad) | inr m ↦ m.3 ∙ ap q.unset f.key ]
      ]

  input_stays : (x : K) → q.is_input x ≡ true → inputs q g' x ≡ inputs q g x
  input_stays x is =
      elim (q.same k x) as (λ b. q.same k x ≡ b → inputs q g' x ≡ inputs q g x) [
        | true ↦ (λ e. let kx : k ≡ x = laws.same k x e in
            let is_k : q.is_input k ≡ true = subst (λ y. q.is_input y ≡ true) (sym kx) is in
            let now : inputs q g' k ≡ q.unset k = read_input g' k is_k ∙ ap (λ o. option_map_or (λ (r : Node K V). r.value) o (q.unset k)) (record_is q g' k i f.entry node_here f.puts.here) ∙ entry_unset is_k in
            let was : inputs q g k ≡ q.unset k = read_input g k is_k ∙ ap (λ o. option_map_or (λ (r : Node K V). r.value) o (q.unset k)) (no_record q g sound k stale is_k) in
            subst (λ y. inputs q g' y ≡ inputs q g y) kx (now ∙ sym was))
        | false ↦ (λ e. let n : x ≢ k = (λ s. let yes : q.same k x ≡ true = subst (λ y. q.same k y ≡ true) (sym s) (laws.same_self k) in let bad : ⊥ = cc in bad) in
            read_input g' x is ∙ ap (λ o. option_map_or (λ (r : Node K V). r.value) o (q.unset x)) (other_record x n) ∙ sym (read_input g x is))
      ] refl

  input_at : (x : K) → inputs q g' x ≡ inputs q g x
  input_at x =
      elim (q.is_input x) as (λ b. q.is_input x ≡ b → inputs q g' x ≡ inputs q g x) [
        | false ↦ (λ isnt. ap (λ b. if b then option_map_or (λ (r : Node K V). r.value) (record_of q g' x) (q.unset x) else q.unset x) isnt
            ∙ sym (ap (λ b. if b then option_map_or (λ (r : Node K V). r.value) (record_of q g x) (q.unset x) else q.unset x) isnt))
        | true ↦ (λ is. input_stays x is)
      ] refl

  -- the inputs stay as they were
  pub inputs_stay : inputs q g' ≡ inputs q g
  inputs_stay = λ t x. input_at x t

  -- frames of other keys stand as before
  settled_stays : (since j : ℕ) → IsSettled q g since j → IsSettled q g' since j
  settled_stays since j h = let c = keeps_current j h.0 h.1.0 h.1.1 in (h.0, (c.0, c.1, h.1.2))

  moved_stays : (since j : ℕ) → HasMoved q g since j → HasMoved q g' since j
  moved_stays since j h = let c = keeps_current j h.0 h.1.0 h.1.1 in (h.0, (c.0, c.1, h.1.2))

  answered_stays : (ks : List K) (js : List ℕ) → AreAnswered q g ks js → AreAnswered q g' ks js
  answered_stays ks [] a = tt
  answered_stays [] (j ∷ js) a = absurd a
  answered_stays (x ∷ ks) (j ∷ js) a = let c = keeps_current j a.0.0 a.0.1.0 a.0.1.2 in ((a.0.0, (c.0, a.0.1.1, c.1)), answered_stays ks js a.1)

  outdated_stays : (x : K) → x ≢ k → IsOutdated q g x → IsOutdated q g' x
  outdated_stays x n h =
      elim h [
        | inl e ↦ inl (other_record x n ∙ e)
        | inr e ↦ inr (e.0, (other_record x n ∙ e.1.0, (e.1.1.0, (e.1.1.1.0, moved_stays e.0.verified_at e.1.1.0 e.1.1.1.1))))
      ]

  running_stays : (x : K) (asked : List K) (answered : List ℕ) → x ≢ k → IsRunning q g x asked answered → IsRunning q g' x asked answered
  running_stays x asked answered n h =
      (h.0, outdated_stays x n h.1, (h.2.0, ap (λ I. q.asks I x) inputs_stay ∙ h.2.1), answered_stays asked answered h.3)

  begun_stays : {S : Type 0} (has_read : K → S → List (K × V) → Type 0) (x : K) (run : S) (asked : List K) → HasBegun q has_read g x run asked → HasBegun q has_read g' x run asked
  begun_stays has_read x run asked h = (h.0, h.1, (h.2.0, subst (λ I. has_read x run (answers (q.val I) h.0)) (sym inputs_stay) h.2.1))

  stage_stays : {S : Type 0} (has_read : K → S → List (K × V) → Type 0) (x : K) (stage : Stage K S) → x ≢ k → IsStage q has_read g x stage → IsStage q has_read g' x stage
  stage_stays has_read x Unset n h = (h.0, other_record x n ∙ h.1)
  stage_stays has_read x (Check node place) n h =
      let r = h.1.0 in
      let st = sound.numbers x node h.1.1.0 in
      let own : r.key ≡ x = (let e = h.1.1.1 in let p = st.1 in let s : st.0 ≡ r = cc in subst (λ (y : Node K V). y.key ≡ x) s st.2) in (
        h.0,
        (
          r,
          (
            other_node x n ∙ h.1.1.0,
            keeps_at node r h.1.1.1 (λ s. n (sym own ∙ s)),
            (h.1.1.2.0, Each-map (IsSettled q g r.verified_at) (IsSettled q g' r.verified_at) (take place r.reads) (λ j m s. settled_stays r.verified_at j s) h.1.1.2.1),
          ),
        ),
      )
  stage_stays has_read x Start n h = (other_node x n ∙ h.0, running_stays x [] [] n h.1)
  stage_stays has_read x (Run running) n h =
      (other_node x n ∙ h.0, running_stays x running.value.asked running.value.answered n h.1, begun_stays has_read x running.value.run running.value.asked h.2)

  pub frame_stays : {S : Type 0} (has_read : K → S → List (K × V) → Type 0) (p : Frame K S) → p.key ≢ k → IsFrame q has_read g p → IsFrame q has_read g' p
  frame_stays has_read p n h = record { stale = other_verified p.key n ∙ h.stale; stage = stage_stays has_read p.key p.stage n h.stage }

module _ {K V S : Type 0} where
  -- how ranks fall along a path, and how it reaches its end
  pub leads_rank : (q : Queries K V) (has_read : K → S → List (K × V) → Type 0) (laws : AreLawful q) (g : Held K V) (root k : K) (fs : List (Frame K S)) → Leads q has_read g root k fs → q.rank (inputs q g) k ≤ q.rank (inputs q g) root
  leads_rank q has_read laws g root k [] l = let e = ap (q.rank (inputs q g)) l in omega arith
  leads_rank q has_read laws g root k (f ∷ fs) l = let lt = laws.ranks (inputs q g) f.key k l.0 in let le = leads_rank q has_read laws g root f.key fs l.2 in omega arith

  pub leads_reached : (q : Queries K V) (has_read : K → S → List (K × V) → Type 0) (g : Held K V) (root k : K) (fs : List (Frame K S)) → Leads q has_read g root k fs → IsReached (q.asks (inputs q g)) root k
  leads_reached q has_read g root k [] l = subst (IsReached (q.asks (inputs q g)) root) (sym l) itself
  leads_reached q has_read g root k (f ∷ fs) l = along f.key k (leads_reached q has_read g root f.key fs l.2) l.0

  -- a path whose keys stand above the finished one stands as before
  pub leads_stay : (q : Queries K V) (has_read : K → S → List (K × V) → Type 0) (laws : AreLawful q) (g g' : Held K V) (sound : IsSound q g) (k : K) (i : ℕ) (stale : is_verified q g k ≡ false) → Finishes q g g' k i
      → (root x : K) (fs : List (Frame K S)) → q.rank (inputs q g) k ≤ q.rank (inputs q g) x → Leads q has_read g root x fs → Leads q has_read g' root x fs
  leads_stay q has_read laws g g' sound k i stale f root x [] le l = l
  leads_stay q has_read laws g g' sound k i stale f root x (p ∷ ps) le l =
      let lt = laws.ranks (inputs q g) p.key x l.0 in
      let n : p.key ≢ k = (λ s. let e = ap (q.rank (inputs q g)) s in absurd (omega arith)) in (
        subst (λ I. Has (q.asks I p.key) x) (sym (inputs_stay q laws g g' sound k i stale f)) l.0,
        frame_stays q laws g g' sound k i stale f has_read p n l.1,
        leads_stay q has_read laws g g' sound k i stale f root p.key ps (omega arith) l.2,
      )
