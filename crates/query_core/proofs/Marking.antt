-- What is marked, and how much is left to mark.
use Rattle.std.proofs.Common.{◌≡◌, ℕ, zero, suc, ◌+◌, ◌-◌, ◌<◌, ◌≤◌, Bool, true, false, ◌||◌, nat_eq, cond, List, [], ◌∷◌, ◌++◌, length, refl, ap, sym, ◌∙◌, subst, inl, inr, ◌⊎◌, Option, Some, None, append_assoc, append-nil, arith}
use Rattle.std.proofs.lemmas.Bool.{cases_eq}
use Rattle.std.proofs.lemmas.List.{length-append, length_push}
use Rattle.std.specs.Prelude.{slice_get, slice_index_or}
use Rattle.std.specs.List.{list_any}
use Rattle.query_core.specs.Lists.{Has}
use Rattle.query_core.specs.Marking.{marked, all_marked}
use Rattle.query_core.proofs.Words.{Has-left, Has-append, Has-middle, one_less}
use Rattle.query_core.proofs.Answering.{any_from}

pub has_any : (i : ℕ) (js : List ℕ) → list_any (nat_eq i) js ≡ true → Has js i
has_any i [] e = absurd (let bad : ⊥ = cc in bad)
has_any i (j ∷ js) e =
    elim (nat_eq i j) as (λ b. nat_eq i j ≡ b → (b || list_any (nat_eq i) js) ≡ true → Has (j ∷ js) i) [
      | true ↦ (λ s _. inl (sym (grind (arith, s))))
      | false ↦ (λ s h. inr (has_any i js h))
    ] refl e

any_more : (i : ℕ) (nodes more : List ℕ) → list_any (nat_eq i) nodes ≡ true → list_any (nat_eq i) (nodes ++ more) ≡ true
any_more i nodes more e = any_from i (nodes ++ more) (Has-left nodes more i (has_any i nodes e))

-- marking adds to the end
marked_more : (nodes : List ℕ) (j : ℕ) → (more : List ℕ) × (marked nodes j ≡ nodes ++ more)
unfolding marked
marked_more nodes j =
    elim (list_any (nat_eq j) nodes) as (λ b. (more : List ℕ) × (cond b nodes (nodes ++ j ∷ []) ≡ nodes ++ more)) [
      | true ↦ ([], sym (append-nil nodes))
      | false ↦ (j ∷ [], refl)
    ]

marked_has : (nodes : List ℕ) (j : ℕ) → Has (marked nodes j) j
unfolding marked
marked_has nodes j =
    elim (list_any (nat_eq j) nodes) as (λ b. list_any (nat_eq j) nodes ≡ b → Has (cond b nodes (nodes ++ j ∷ [])) j) [
      | true ↦ (λ e. has_any j nodes e)
      | false ↦ (λ e. Has-middle nodes [] j)
    ] refl

marked_from : (nodes : List ℕ) (j i : ℕ) → Has (marked nodes j) i → Has nodes i ⊎ (j ≡ i)
unfolding marked
marked_from nodes j i h =
    elim (list_any (nat_eq j) nodes) as (λ b. Has (cond b nodes (nodes ++ j ∷ [])) i → Has nodes i ⊎ (j ≡ i)) [
      | true ↦ (λ a. inl a)
      | false ↦ (λ a. elim (Has-append nodes (j ∷ []) i a) [ inl x ↦ inl x | inr x ↦ elim x [ inl e ↦ inr e | inr c ↦ absurd c ] ])
    ] h

all_more : (js nodes : List ℕ) → (more : List ℕ) × (all_marked nodes js ≡ nodes ++ more)
all_more [] nodes = ([], sym (append-nil nodes))
all_more (j ∷ js) nodes =
    let a = marked_more nodes j in
    let b = all_more js (marked nodes j) in
    (a.0 ++ b.0, b.1 ∙ ap (λ l. l ++ b.0) a.1 ∙ append_assoc nodes a.0 b.0)

all_kept : (js nodes : List ℕ) (i : ℕ) → Has nodes i → Has (all_marked nodes js) i
all_kept js nodes i h = let a = all_more js nodes in subst (λ l. Has l i) (sym a.1) (Has-left nodes a.0 i h)

all_has : (js nodes : List ℕ) (i : ℕ) → Has js i → Has (all_marked nodes js) i
all_has [] nodes i h = absurd h
all_has (j ∷ js) nodes i (inl e) = subst (Has (all_marked nodes (j ∷ js))) e (all_kept js (marked nodes j) j (marked_has nodes j))
all_has (j ∷ js) nodes i (inr h) = all_has js (marked nodes j) i h

all_from : (js nodes : List ℕ) (i : ℕ) → Has (all_marked nodes js) i → Has nodes i ⊎ Has js i
all_from [] nodes i h = inl h
all_from (j ∷ js) nodes i h =
    elim (all_from js (marked nodes j) i h) [
      | inl a ↦ elim (marked_from nodes j i a) [ inl x ↦ inl x | inr e ↦ inr (inl e) ]
      | inr b ↦ inr (inr b)
    ]

-- how many of the first n nodes aren't marked
pub unmarked : ℕ → List ℕ → ℕ
unmarked zero nodes = 0
unmarked (suc n) nodes = cond (list_any (nat_eq n) nodes) 0 1 + unmarked n nodes

unmarked_le : (n : ℕ) (nodes more : List ℕ) → unmarked n (nodes ++ more) ≤ unmarked n nodes
unfolding unmarked
unmarked_le zero nodes more = omega arith
unmarked_le (suc n) nodes more =
    let one = one_less (list_any (nat_eq n) nodes) (list_any (nat_eq n) (nodes ++ more)) (any_more n nodes more) in
    let rest = unmarked_le n nodes more in omega arith

unmarked_lt : (n : ℕ) (nodes : List ℕ) (j : ℕ) → j < n → list_any (nat_eq j) nodes ≡ false → unmarked n (nodes ++ j ∷ []) < unmarked n nodes
unfolding unmarked
unmarked_lt zero nodes j lt e = absurd (omega arith)
unmarked_lt (suc n) nodes j lt e =
    elim (cases_eq j n) [
      | inl s ↦
          (let was : cond {A = ℕ} (list_any (nat_eq n) nodes) 0 1 ≡ 1 = ap (λ (b : Bool). cond {A = ℕ} b 0 1) (subst (λ m. list_any (nat_eq m) nodes ≡ false) s e) in
          let now : cond {A = ℕ} (list_any (nat_eq n) (nodes ++ j ∷ [])) 0 1 ≡ 0 =
          ap (λ (b : Bool). cond {A = ℕ} b 0 1) (any_from n (nodes ++ j ∷ []) (subst (Has (nodes ++ j ∷ [])) s (Has-middle nodes [] j))) in
          let rest = unmarked_le n nodes (j ∷ []) in omega arith)
      | inr s ↦
          (let one = one_less (list_any (nat_eq n) nodes) (list_any (nat_eq n) (nodes ++ j ∷ [])) (any_more n nodes (j ∷ [])) in
          let rest = unmarked_lt n nodes j (omega arith) e in omega arith)
    ]

marked_room : (n : ℕ) (nodes : List ℕ) (j : ℕ) → j < n → unmarked n (marked nodes j) + length (marked nodes j) ≤ unmarked n nodes + length nodes
unfolding marked
marked_room n nodes j lt =
    elim (list_any (nat_eq j) nodes) as (λ b. list_any (nat_eq j) nodes ≡ b
    → unmarked n (cond b nodes (nodes ++ j ∷ [])) + length (cond b nodes (nodes ++ j ∷ [])) ≤ unmarked n nodes + length nodes) [
      | true ↦ (λ e. omega arith)
      | false ↦ (λ e. let l = length_push nodes j in let less = unmarked_lt n nodes j lt e in omega arith)
    ] refl

all_room : (n : ℕ) (js nodes : List ℕ) → ((j : ℕ) → Has js j → j < n) → unmarked n (all_marked nodes js) + length (all_marked nodes js) ≤ unmarked n nodes + length nodes
all_room n [] nodes f = omega arith
all_room n (j ∷ js) nodes f =
    let one = marked_room n nodes j (f j (inl refl)) in
    let rest = all_room n js (marked nodes j) (λ i h. f i (inr h)) in omega arith

-- places of a list
get_left : (xs ys : List ℕ) (p i : ℕ) → slice_get xs p ≡ Some i → slice_get (xs ++ ys) p ≡ Some i
get_left [] ys p i e = absurd (let bad : ⊥ = cc in bad)
get_left (x ∷ xs) ys zero i e = e
get_left (x ∷ xs) ys (suc p) i e = get_left xs ys p i e

get_within : (xs : List ℕ) (p i : ℕ) → slice_get xs p ≡ Some i → p < length xs
get_within [] p i e = absurd (let bad : ⊥ = cc in bad)
get_within (x ∷ xs) zero i e = omega arith
get_within (x ∷ xs) (suc p) i e = let l = get_within xs p i e in omega arith

has_got : (xs : List ℕ) (p i : ℕ) → slice_get xs p ≡ Some i → Has xs i
has_got [] p i e = absurd (let bad : ⊥ = cc in bad)
has_got (x ∷ xs) zero i e = inl (let s : x ≡ i = cc in s)
has_got (x ∷ xs) (suc p) i e = inr (has_got xs p i e)

get_here : (xs : List ℕ) (p : ℕ) → p < length xs → (i : ℕ) × (slice_get xs p ≡ Some i)
get_here [] p lt = absurd (omega arith)
get_here (x ∷ xs) zero lt = (x, refl)
get_here (x ∷ xs) (suc p) lt = get_here xs p (omega arith)

place_of : (xs : List ℕ) (i : ℕ) → Has xs i → (p : ℕ) × (slice_get xs p ≡ Some i)
place_of [] i h = absurd h
place_of (x ∷ xs) i (inl e) = (0, ap Some e)
place_of (x ∷ xs) i (inr h) = let r = place_of xs i h in (suc r.0, r.1)

pub at_within : {X : Type 0} (xs : List (Option X)) (i : ℕ) (x : X) → slice_index_or xs i None ≡ Some x → i < length xs
at_within [] i x e = absurd (let bad : ⊥ = cc in bad)
at_within (y ∷ xs) zero x e = omega arith
at_within (y ∷ xs) (suc i) x e = let l = at_within xs i x e in omega arith

-- reached from these nodes along the edges
pub data Along (edges : ℕ → List ℕ) (starts : List ℕ) : ℕ → Type 0 where
  begin : (i : ℕ) → Has starts i → Along edges starts i
  step : (i j : ℕ) → Along edges starts i → Has (edges i) j → Along edges starts j

module _ (edges : ℕ → List ℕ) (starts : List ℕ) where
  -- What is marked on the way: the nodes to start from, what is reached from them, and where the edges of the first of them lead.
  pub record Finding (used : List ℕ) (place : ℕ) : Type 0 where
    pub only : (i : ℕ) → Has used i → Along edges starts i
    pub begun : (i : ℕ) → Has starts i → Has used i
    pub closed : (p i j : ℕ) → p < place → slice_get used p ≡ Some i → Has (edges i) j → Has used j
    pub within : place ≤ length used

  pub finding_begins : (used : List ℕ) → used ≡ all_marked [] starts → Finding used 0
  finding_begins used is = record {
    only = λ i h. elim (all_from starts [] i (subst (λ l. Has l i) is h)) [ inl a ↦ absurd a | inr a ↦ begin i a ];
    begun = λ i h. subst (λ l. Has l i) (sym is) (all_has starts [] i h);
    closed = λ p i j lt e h. absurd (omega arith);
    within = omega arith;
  }

  module _ (used used' : List ℕ) (place node : ℕ) (f : Finding used place) (here : slice_get used place ≡ Some node) (is : used' ≡ all_marked used (edges node)) where
    node_reached : Along edges starts node
    node_reached = f.only node (has_got used place node here)

    longer : length used ≤ length used'
    longer = let a = all_more (edges node) used in let l = ap length (is ∙ a.1) ∙ length-append used a.0 in omega arith

    before : (p i : ℕ) → p < length used → slice_get used' p ≡ Some i → slice_get used p ≡ Some i
    before p i lt e =
        let a = all_more (edges node) used in
        let h = get_here used p lt in
        let e' = subst (λ l. slice_get l p ≡ Some i) (is ∙ a.1) e in
        let k = get_left used a.0 p h.0 h.1 in
        let same : h.0 ≡ i = cc in h.1 ∙ ap Some same

    stays : (i : ℕ) → Has used i → Has used' i
    stays i h = subst (λ l. Has l i) (sym is) (all_kept (edges node) used i h)

    pub finding_turns : Finding used' (place + 1)
    finding_turns =
        let lt = get_within used place node here in
        let le = longer in
        record {
          only = λ i h. elim (all_from (edges node) used i (subst (λ l. Has l i) is h)) [ inl a ↦ f.only i a | inr a ↦ step node i node_reached a ];
          begun = λ i h. stays i (f.begun i h);
          closed = λ p i j small e h. elim (cases_eq p place) [
            | inl s ↦ (let e' = before p i (omega arith) e in
                let here' : slice_get used p ≡ Some node = subst (λ m. slice_get used m ≡ Some node) (sym s) here in
                let same : node ≡ i = cc in
                subst (λ l. Has l j) (sym is) (all_has (edges node) used j (subst (λ m. Has (edges m) j) (sym same) h)))
            | inr n ↦ stays j (f.closed p i j (omega arith) (before p i (omega arith) e) h)
          ];
          within = omega arith;
        }

    -- where what is reached is below n, less is left
    pub finding_less : (n : ℕ) → ((i : ℕ) → Along edges starts i → i < n) → unmarked n used' + (length used' - (place + 1)) < unmarked n used + (length used - place)
    finding_less n below =
        let lt = get_within used place node here in
        let le = longer in
        let room = subst (λ l. unmarked n l + length l ≤ unmarked n used + length used) (sym is) (all_room n (edges node) used (λ j h. below j (step node j node_reached h))) in omega arith

  module _ (used : List ℕ) (place : ℕ) (f : Finding used place) (none : slice_get used place ≡ None) where
    past : (p i : ℕ) → slice_get used p ≡ Some i → p < place
    past p i e =
        let lt = get_within used p i e in
        let no : ¬ (place < length used) = (λ l. let h = get_here used place l in let e' = h.1 in let bad : ⊥ = cc in bad) in omega arith

    pub all_found : (i : ℕ) → Along edges starts i → Has used i
    all_found i (begin k h) = f.begun k h
    all_found i (step a j u h) = let m = place_of used a (all_found a u) in f.closed m.0 a j (past m.0 a m.1) m.1 h
