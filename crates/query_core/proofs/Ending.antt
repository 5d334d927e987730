-- The walk ends, and what it has done then.
use Rattle.std.proofs.Common.{◌≡◌, ◌≢◌, ℕ, zero, suc, ◌+◌, ◌-◌, ◌*◌, ◌<◌, ◌≤◌, Bool, true, false, cond, List, [], ◌∷◌, ◌++◌, length, drop, reverse, refl, ap, sym, ◌∙◌, subst, inl, inr, ◌⊎◌, Option, Some, arith, Result, Ok, Err, OnErr}
use Rattle.std.specs.List.{flat_map}
use Rattle.std.proofs.lemmas.List.{reverse-append, drop_at, length_push}
use Rattle.query_core.specs.Lists.{Has, Each}
use Rattle.query_core.specs.Queries.{Queries, AreLawful}
use Rattle.query_core.specs.Graph.{Held, node_of, inputs, is_current, is_verified}
use Rattle.query_core.specs.Soundness.{IsSound, IsUnswept}
use Rattle.query_core.specs.Changes.{LeavesBy, IsRunBy, IsRun, IsReached, IsHolding, WalkedBy, Walked, ran}
use Rattle.query_core.specs.Changes.IsReached.{itself, along}
use Rattle.query_core.specs.Walk.{IsFrame, Leads, IsOutdated, Finishes, IsStep}
use Rattle.query_core.specs.declared.frame.Frame.{Frame}
use Rattle.query_core.specs.declared.frame.Moved.TheVariants.{Waits, Done}
use Rattle.query_core.proofs.Words.{Has-left, Has-right, Each-append, one_less}
use Rattle.query_core.proofs.Values.{current_value}
use Rattle.query_core.proofs.Reading.{verified_is}
use Rattle.query_core.proofs.Walking.{verified_here, verified_stays, leads_rank, leads_reached, leads_stay, same_current, frame_stays}
use Rattle.query_core.proofs.Leaving.{Left, left_none, due_before, stale_before, left_touched, left_ran, left_unset}

Has-flat : {X Y : Type 0} (f : X → List Y) (xs : List X) (x : X) (y : Y) → Has xs x → Has (f x) y → Has (flat_map f xs) y
Has-flat f [] x y h m = absurd h
Has-flat f (z ∷ xs) x y (inl e) m = Has-left (f z) (flat_map f xs) y (subst (λ v. Has (f v) y) (sym e) m)
Has-flat f (z ∷ xs) x y (inr h) m = Has-right (f z) (flat_map f xs) y (Has-flat f xs x y h m)

Has-append_cases : {X : Type 0} (xs ys : List X) (x : X) → Has (xs ++ ys) x → Has xs x ⊎ Has ys x
Has-append_cases [] ys x h = inr h
Has-append_cases (y ∷ xs) ys x (inl e) = inl (inl e)
Has-append_cases (y ∷ xs) ys x (inr h) = elim (Has-append_cases xs ys x h) [ inl a ↦ inl (inr a) | inr b ↦ inr b ]

Has-flat_inv : {X Y : Type 0} (f : X → List Y) (xs : List X) (y : Y) → Has (flat_map f xs) y → (x : X) × (Has xs x × Has (f x) y)
Has-flat_inv f [] y h = absurd h
Has-flat_inv f (z ∷ xs) y h =
    elim (Has-append_cases (f z) (flat_map f xs) y h) [
      | inl a ↦ (z, (inl refl, a))
      | inr b ↦ (let r = Has-flat_inv f xs y b in (r.0, (inr r.1.0, r.1.1)))
    ]

-- the keys that a key reaches, as often as they are reached
pub reach : {K : Type 0} → (K → List K) → ℕ → K → List K
reach asks zero k = k ∷ []
reach asks (suc n) k = k ∷ flat_map (reach asks n) (asks k)

reach_itself : {K : Type 0} (asks : K → List K) (n : ℕ) (k : K) → Has (reach asks n k) k
unfolding reach
reach_itself asks zero k = inl refl
reach_itself asks (suc n) k = inl refl

reach_more : {K : Type 0} (asks : K → List K) (rank : K → ℕ) → ((a b : K) → Has (asks a) b → rank b < rank a) → (n : ℕ) (k d e : K) → rank k ≤ n → Has (reach asks n k) d → Has (asks d) e → Has (reach asks n k) e
unfolding reach
reach_more asks rank falls zero k d e le (inl s) h = let lt = falls d e h in let r = ap rank s in absurd (omega arith)
reach_more asks rank falls zero k d e le (inr m) h = absurd m
reach_more asks rank falls (suc n) k d e le (inl s) h = inr (Has-flat (reach asks n) (asks k) e e (subst (λ x. Has (asks x) e) (sym s) h) (reach_itself asks n e))
reach_more asks rank falls (suc n) k d e le (inr m) h =
    let i = Has-flat_inv (reach asks n) (asks k) d m in
    let lt = falls k i.0 i.1.0 in
    inr (Has-flat (reach asks n) (asks k) i.0 e i.1.0 (reach_more asks rank falls n i.0 d e (omega arith) i.1.1 h))

reached_in : {K : Type 0} (asks : K → List K) (rank : K → ℕ) → ((a b : K) → Has (asks a) b → rank b < rank a) → (root k : K) → IsReached asks root k → Has (reach asks (rank root) root) k
reached_in asks rank falls root k itself = reach_itself asks (rank root) root
reached_in asks rank falls root k (along d e h m) = reach_more asks rank falls (rank root) root d e (omega arith) (reached_in asks rank falls root d h) m

-- the rest of a lexicographic measure falls with its first part
lex_falls : (n d b r r' : ℕ) → r' < b → n * b + r' < (n + 1 + d) * b + r
lex_falls n d b r r' lt = omega arith

pub lex : (m n b r r' : ℕ) → n < m → r' < b → n * b + r' < m * b + r
lex m n b r r' nm lt = let e : n + 1 + (m - n - 1) ≡ m = omega arith in subst (λ x. n * b + r' < x * b + r) e (lex_falls n (m - n - 1) b r r' lt)

closed_counts : (b : Bool) → b ≡ true → cond {A = ℕ} b 0 1 ≡ 0
closed_counts b e = ap (λ (x : Bool). cond {A = ℕ} x 0 1) e

open_counts : (b : Bool) → b ≡ false → cond {A = ℕ} b 0 1 ≡ 1
open_counts b e = ap (λ (x : Bool). cond {A = ℕ} x 0 1) e

module _ {K V : Type 0} where
  -- how many of the keys aren't verified
  pub open_count : Queries K V → Held K V → List K → ℕ
  open_count q g [] = 0
  open_count q g (k ∷ ks) = cond (is_verified q g k) 0 1 + open_count q g ks

  count_le : (q : Queries K V) (g g' : Held K V) → ((x : K) → is_verified q g x ≡ true → is_verified q g' x ≡ true) → (ks : List K) → open_count q g' ks ≤ open_count q g ks
  unfolding open_count
  count_le q g g' f [] = omega arith
  count_le q g g' f (k ∷ ks) = let one = one_less (is_verified q g k) (is_verified q g' k) (f k) in let rest = count_le q g g' f ks in omega arith

  count_lt : (q : Queries K V) (g g' : Held K V) → ((x : K) → is_verified q g x ≡ true → is_verified q g' x ≡ true) → (ks : List K) (k : K) → Has ks k → is_verified q g k ≡ false → is_verified q g' k ≡ true
      → open_count q g' ks < open_count q g ks
  unfolding open_count
  count_lt q g g' f [] k h n y = absurd h
  count_lt q g g' f (x ∷ ks) k (inl e) n y =
      let was = open_counts (is_verified q g x) (subst (λ z. is_verified q g z ≡ false) (sym e) n) in
      let now = closed_counts (is_verified q g' x) (subst (λ z. is_verified q g' z ≡ true) (sym e) y) in
      let rest = count_le q g g' f ks in omega arith
  count_lt q g g' f (x ∷ ks) k (inr h) n y =
      let one = one_less (is_verified q g x) (is_verified q g' x) (f x) in let rest = count_lt q g g' f ks k h n y in omega arith

  -- what is left to do of a demand: the keys that aren't verified, and then the rank of the key at the end of the path
  unfoldable pub to_do : Queries K V → Held K V → K → Held K V → K → ℕ
  to_do q g0 root g k =
      open_count q g (reach (q.asks (inputs q g0)) (q.rank (inputs q g0) root) root) * (q.rank (inputs q g0) root + 1) + q.rank (inputs q g0) k

  -- the walk, with the key at the end of its path and the frames before it, the last first
  pub record Walk {S : Type 0} (q : Queries K V) (has_read : K → S → List (K × V) → Type 0) (g0 : Held K V) (root : K) (g : Held K V) (k : K) (path : List (Frame K S)) (steps0 steps : ℕ) : Type 0 where
    pub sound0 : IsSound q g0
    pub sound : IsSound q g
    pub unswept : IsUnswept q g
    pub added : List K
    pub left : Left q g0 g (IsReached (q.asks (inputs q g0)) root) added
    pub due : Each (IsRun q g0 root) added
    pub counted : steps ≡ steps0 + length added
    pub leads : Leads q has_read g root k path

  pub walk_begins : {S : Type 0} (q : Queries K V) (has_read : K → S → List (K × V) → Type 0) (g : Held K V) (root k : K) (steps : ℕ) → IsSound q g → IsUnswept q g → k ≡ root → Walk q has_read g root g k [] steps steps
  walk_begins q has_read g root k steps sound unswept e = record {
    sound0 = sound;
    sound = sound;
    unswept = unswept;
    added = [];
    left = left_none q g (IsReached (q.asks (inputs q g)) root);
    due = tt;
    counted = omega arith;
    leads = e;
  }

  module _ {S : Type 0} (q : Queries K V) (has_read : K → S → List (K × V) → Type 0) (laws : AreLawful q) (g0 : Held K V) (root : K) (g : Held K V) (k : K) (path : List (Frame K S)) (steps0 steps : ℕ) (w : Walk q has_read g0 root g k path steps0 steps) where
    -- a key waits for another one
    pub walk_waits : (g' : Held K V) (steps' : ℕ) (frame : Frame K S) (on : K) → g' ≡ g → steps' ≡ steps → frame.key ≡ k → IsFrame q has_read g frame → Has (q.asks (inputs q g) k) on
        → Walk q has_read g0 root g' on (frame ∷ path) steps0 steps'
    walk_waits g' steps' frame on eg es key is_frame has =
        let base : Walk q has_read g0 root g on (frame ∷ path) steps0 steps' = record {
          sound0 = w.sound0;
          sound = w.sound;
          unswept = w.unswept;
          added = w.added;
          left = w.left;
          due = w.due;
          counted = es ∙ w.counted;
          leads = (subst (λ x. Has (q.asks (inputs q g) x) on) (sym key) has, is_frame, subst (λ x. Leads q has_read g root x path) (sym key) w.leads);
        } in
        subst (λ h. Walk q has_read g0 root h on (frame ∷ path) steps0 steps') (sym eg) base

    pub to_do_waits : (g' : Held K V) (on : K) → g' ≡ g → Has (q.asks (inputs q g) k) on → to_do q g0 root g' on < to_do q g0 root g k
    unfolding to_do
    to_do_waits g' on eg has =
        let lt = laws.ranks (inputs q g0) k on (subst (λ I. Has (q.asks I k) on) w.left.inputs_same has) in
        let same = ap (λ h. open_count q h (reach (q.asks (inputs q g0)) (q.rank (inputs q g0) root) root) * (q.rank (inputs q g0) root + 1)) eg in
        omega arith

    module _ (g' : Held K V) (i steps' : ℕ) (stale : is_verified q g k ≡ false) (sound' : IsSound q g') (unswept' : IsUnswept q g') (f : Finishes q g g' k i) (count : steps' + length g.runs ≡ steps + length g'.runs) where
      -- what has been done once the key is finished
      pub record Now (added : List K) : Type 0 where
        pub left : Left q g0 g' (IsReached (q.asks (inputs q g0)) root) added
        pub due : Each (IsRun q g0 root) added
        pub counted : steps' ≡ steps0 + length added

      reached_key : IsReached (q.asks (inputs q g0)) root k
      reached_key = subst (λ I. IsReached (q.asks I) root k) w.left.inputs_same (leads_reached q has_read g root k path w.leads)

      pub now : (added : List K) × Now added
      now =
          elim f.how [
            | inl h ↦ (
              w.added,
              record {
                left = left_touched q laws g0 g w.sound0 w.sound w.unswept (IsReached (q.asks (inputs q g0)) root) w.added w.left g' k i stale f h.0 h.1.0 h.1.1.0 h.1.1.1;
                due = w.due;
                counted = (let l = ap length h.0 in let c = w.counted in omega arith);
              },
            )
            | inr h ↦ elim h [
              | inl m ↦ (
                w.added ++ k ∷ [],
                record {
                  left = left_ran q laws g0 g w.sound0 w.sound w.unswept (IsReached (q.asks (inputs q g0)) root) w.added w.left g' k i stale f m.0 m.1 m.3;
                  due = Each-append (IsRun q g0 root) w.added (k ∷ []) w.due (
                    record {
                      reached = reached_key;
                      stale = stale_before q laws g0 g w.sound0 w.sound w.unswept (IsReached (q.asks (inputs q g0)) root) w.added w.left k stale;
                      due = due_before q laws g0 g w.sound0 w.sound w.unswept (IsReached (q.asks (inputs q g0)) root) w.added w.left k stale (subst (λ x. q.is_input x ≡ false) f.key m.1) (subst (IsOutdated q g) f.key m.2);
                    },
                    tt,
                  );
                  counted = (let l = ap length m.0 ∙ length_push g.runs f.entry.key in let l' = length_push w.added k in let c = w.counted in omega arith);
                },
              )
              | inr m ↦ (
                w.added,
                record {
                  left = left_unset q laws g0 g w.sound0 w.sound w.unswept (IsReached (q.asks (inputs q g0)) root) w.added w.left g' k i stale f m.0 m.1 m.2 m.3 m.4 reached_key;
                  due = w.due;
                  counted = (let l = ap length m.0 in let c = w.counted in omega arith);
                },
              )
            ]
          ]

      -- fewer keys aren't verified
      pub to_do_done : (x : K) → q.rank (inputs q g0) x ≤ q.rank (inputs q g0) root → to_do q g0 root g' x < to_do q g0 root g k
      unfolding to_do
      to_do_done x le =
          let has = reached_in (q.asks (inputs q g0)) (q.rank (inputs q g0)) (laws.ranks (inputs q g0)) root k reached_key in
          let lt = count_lt q g g' (verified_stays q laws g g' w.sound k i stale f) (reach (q.asks (inputs q g0)) (q.rank (inputs q g0) root) root) k has stale (verified_here q laws g g' w.sound k i stale f) in
          lex (open_count q g (reach (q.asks (inputs q g0)) (q.rank (inputs q g0) root) root)) (open_count q g' (reach (q.asks (inputs q g0)) (q.rank (inputs q g0) root) root)) (q.rank (inputs q g0) root + 1)
          (q.rank (inputs q g0) k) (q.rank (inputs q g0) x) lt (omega arith)

      -- the frame that waited for the key goes on
      pub walk_goes_on : (frame : Frame K S) (rest : List (Frame K S)) → path ≡ frame ∷ rest → Walk q has_read g0 root g' frame.key rest steps0 steps' × IsFrame q has_read g' frame
      walk_goes_on frame rest e =
          let l = subst (Leads q has_read g root k) e w.leads in
          let lt = laws.ranks (inputs q g) frame.key k l.0 in
          let n : frame.key ≢ k = (λ s. let r = ap (q.rank (inputs q g)) s in absurd (omega arith)) in (
            record {
              sound0 = w.sound0;
              sound = sound';
              unswept = unswept';
              added = now.0;
              left = now.1.left;
              due = now.1.due;
              counted = now.1.counted;
              leads = leads_stay q has_read laws g g' w.sound k i stale f root frame.key rest (omega arith) l.2;
            },
            frame_stays q laws g g' w.sound k i stale f has_read frame n l.1,
          )

      pub to_do_goes_on : (frame : Frame K S) (rest : List (Frame K S)) → path ≡ frame ∷ rest → to_do q g0 root g' frame.key < to_do q g0 root g k
      to_do_goes_on frame rest e =
          let l = subst (Leads q has_read g root k) e w.leads in
          to_do_done frame.key (subst (λ I. q.rank I frame.key ≤ q.rank I root) w.left.inputs_same (leads_rank q has_read laws g root frame.key rest l.2))

  pub leaves_from : (q : Queries K V) (g0 g : Held K V) (reached : K → Type 0) (added : List K) → Left q g0 g reached added → LeavesBy q g0 g reached added
  leaves_from q g0 g reached added l = record {
    revision = l.revision;
    runs = l.runs;
    inputs_stay = l.inputs_same;
    rest = λ i r e n. elim (l.kept i r e) [ inl a ↦ a | inr b ↦ absurd (n b.0) ];
    run = λ i r e h. elim (l.kept i r e) [
      | inl a ↦ elim a [ inl x ↦ (r, (x, refl, inl (refl, refl))) | inr x ↦ (record r { verified_at = g0.revision }, (x, refl, inl (refl, refl))) ]
      | inr b ↦ b.1
    ];
    fresh = l.fresh;
  }

  pub ran_is : (g0 g : Held K V) (added : List K) → g.runs ≡ g0.runs ++ added → ran g0 g ≡ added
  ran_is g0 g added e = ap (drop (length g0.runs)) e ∙ drop_at g0.runs added (length g0.runs) refl

  pub walked_from : (q : Queries K V) (g0 : Held K V) (reached : K → Type 0) (g : Held K V) (added : List K) → IsSound q g → IsUnswept q g → Left q g0 g reached added → Each (IsRunBy q g0 reached) added → WalkedBy q g0 reached g
  walked_from q g0 reached g added sound unswept left due =
      let e = ran_is g0 g added left.runs in
      record { sound = sound; unswept = unswept; leaves = subst (LeavesBy q g0 g reached) (sym e) (leaves_from q g0 g reached added left); due = subst (Each (IsRunBy q g0 reached)) (sym e) due }

module _ {K V S : Type 0} (q : Queries K V) (has_read : K → S → List (K × V) → Type 0) (laws : AreLawful q) (g0 : Held K V) (root : K) (g : Held K V) (k : K) (items : List (Frame K S)) (steps0 steps : ℕ)
    (w : Walk q has_read g0 root g k (reverse items) steps0 steps) where
  -- a step that waits, over the path as it is kept, the last frame at its end
  pub waits_on : (g' : Held K V) (steps' : ℕ) (frame : Frame K S) (on : K) (hint : Option ℕ) (items' : List (Frame K S)) (top : Frame K S) → IsStep q has_read g g' k steps steps' (Waits frame on hint) → items' ≡ items ++ frame ∷ [] → top.key ≡ on
      → Walk q has_read g0 root g' top.key (reverse items') steps0 steps'
  waits_on g' steps' frame on hint items' top s e key =
      let base = walk_waits q has_read laws g0 root g k (reverse items) steps0 steps w g' steps' frame on s.0 s.1 s.2 s.3 s.4 in
      let path : frame ∷ reverse items ≡ reverse items' = sym (ap reverse e ∙ reverse-append items (frame ∷ [])) in
      subst (λ x. Walk q has_read g0 root g' x (reverse items') steps0 steps') (sym key) (subst (λ l. Walk q has_read g0 root g' on l steps0 steps') path base)

  pub waits_less : (g' : Held K V) (steps' : ℕ) (frame : Frame K S) (on : K) (hint : Option ℕ) (top : Frame K S) → IsStep q has_read g g' k steps steps' (Waits frame on hint) → top.key ≡ on → to_do q g0 root g' top.key < to_do q g0 root g k
  waits_less g' steps' frame on hint top s key = subst (λ x. to_do q g0 root g' x < to_do q g0 root g k) (sym key) (to_do_waits q has_read laws g0 root g k (reverse items) steps0 steps w g' on s.0 s.4)

  -- after a step that gave nothing, or waits, the graph is as before it
  pub given_up : (g' : Held K V) → g' ≡ g → Walked q g0 root g'
  given_up g' e = subst (Walked q g0 root) (sym e) (walked_from q g0 (IsReached (q.asks (inputs q g0)) root) g w.added w.sound w.unswept w.left w.due)

  pub ran_length : (g' : Held K V) → g' ≡ g → steps ≡ steps0 + length (ran g0 g')
  ran_length g' e = w.counted ∙ ap (λ l. steps0 + length l) (sym (ran_is g0 g w.added w.left.runs) ∙ ap (ran g0) (sym e))

  module _ (g' : Held K V) (i steps' : ℕ) (stale : is_verified q g k ≡ false) (s : IsStep q has_read g g' k steps steps' (Done i)) where
    pub goes_on : (frame : Frame K S) (items' : List (Frame K S)) → items ≡ items' ++ frame ∷ [] → Walk q has_read g0 root g' frame.key (reverse items') steps0 steps' × IsFrame q has_read g' frame
    goes_on frame items' e =
        walk_goes_on q has_read laws g0 root g k (reverse items) steps0 steps w g' i steps' stale s.1 s.3 s.0 s.2 frame (reverse items') (ap reverse e ∙ reverse-append items' (frame ∷ []))

    pub goes_on_less : (frame : Frame K S) (items' : List (Frame K S)) → items ≡ items' ++ frame ∷ [] → to_do q g0 root g' frame.key < to_do q g0 root g k
    goes_on_less frame items' e =
        to_do_goes_on q has_read laws g0 root g k (reverse items) steps0 steps w g' i steps' stale s.1 s.3 s.0 s.2 frame (reverse items') (ap reverse e ∙ reverse-append items' (frame ∷ []))

    all_done : (added : List K) × Now q has_read laws g0 root g k (reverse items) steps0 steps w g' i steps' stale s.1 s.3 s.0 s.2 added
    all_done = now q has_read laws g0 root g k (reverse items) steps0 steps w g' i steps' stale s.1 s.3 s.0 s.2

    pub ends_walked : Walked q g0 root g'
    ends_walked = walked_from q g0 (IsReached (q.asks (inputs q g0)) root) g' all_done.0 s.1 s.3 all_done.1.left all_done.1.due

    pub ends_counted : steps' ≡ steps0 + length (ran g0 g')
    ends_counted = all_done.1.counted ∙ ap (λ l. steps0 + length l) (sym (ran_is g0 g' all_done.0 all_done.1.left.runs))

    pub ends_holding : items ≡ [] → IsHolding q g0 g' root i
    ends_holding e =
        let root_is : k ≡ root = subst (λ l. Leads q has_read g root k (reverse l)) e w.leads in
        let cur : is_current q g' s.0.entry ≡ true = same_current q laws g g' w.sound k i stale s.0 s.0.entry ∙ s.0.current in
        let key : s.0.entry.key ≡ root = s.0.key ∙ root_is in (
          s.0.entry,
          (
            subst (λ x. node_of q g' x ≡ Some i) key (s.1.numbered i s.0.entry s.0.puts.here),
            s.0.puts.here,
            key,
            cur,
            current_value q g' laws s.1 i s.0.entry s.0.puts.here cur ∙ ap (λ I. q.val I s.0.entry.key) all_done.1.left.inputs_same ∙ ap (q.val (inputs q g0)) key,
          ),
        )

  pub waits_counted : (g' : Held K V) (steps' : ℕ) (frame : Frame K S) (on : K) (hint : Option ℕ) → IsStep q has_read g g' k steps steps' (Waits frame on hint)
      → (steps0 + length (ran g0 g') ≤ steps') × (steps' ≤ steps0 + length (ran g0 g') + 1)
  waits_counted g' steps' frame on hint s = let e = ran_length g' s.0 in let e' = s.1 in ((omega arith), (omega arith))

pub on_err : {A E : Type 0} (r : Result A E) (P : Type 0) → P → OnErr r P
on_err (Ok x) P p = tt
on_err (Err e) P p = p

pub holds_already : {K V : Type 0} (q : Queries K V) (laws : AreLawful q) (g : Held K V) → IsSound q g → (k : K) (i : ℕ) → node_of q g k ≡ Some i → is_verified q g k ≡ true → IsHolding q g g k i
holds_already q laws g sound k i n v =
    let st = sound.numbers k i n in
    let cur : is_current q g st.0 ≡ true = sym (verified_is q g k i st.0 n st.1) ∙ v in
    (st.0, (n, st.1, st.2, cur, current_value q g laws sound i st.0 st.1 cur ∙ ap (q.val (inputs q g)) st.2))
