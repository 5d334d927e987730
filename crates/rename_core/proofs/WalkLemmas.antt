-- A walk along lists there and back comes to all that a chain leads to, and to nothing else.
use Rattle.std.proofs.Common.{arith, ◌≡◌, ℕ, ◌+◌, Bool, true, false, ◌||◌, List, [], ◌∷◌, ◌++◌, length, Option, Some, None, inl, inr, refl, sym, ap, subst, ◌∙◌, append_assoc, append-nil}
use Rattle.std.specs.Bool.{Decides}
use Rattle.std.specs.List.{list_any, slice_get}
use Rattle.std.specs.Prelude.{if◌then◌else◌, ◌⊎◌}
use Rattle.indexmap.specs.IndexSet.{insert_key}
use Rattle.rename_core.specs.Ties.Steps.{Seen, noted_all, step, steps}
use Rattle.rename_core.specs.Ties.Walked.{Chain, first, further, From, IsWalked}

no : {b : Bool} → b ≡ true → b ≡ false → ⊥
no t f = cc

pub either_true : (a b : Bool) → (a || b) ≡ true → (a ≡ true) ⊎ (b ≡ true)
either_true true b h = inl refl
either_true false b h = inr h

pub or_first : (a b : Bool) → a ≡ true → (a || b) ≡ true
or_first a b h = ap (λ x. x || b) h

pub or_later : (a b : Bool) → b ≡ true → (a || b) ≡ true
or_later true b h = refl
or_later false b h = h

-- a list with an equality that decides
module _ {A : Type 0} (same : A → A → Bool) (exact : (x y : A) → Decides (same x y) (x ≡ y)) where
  abbrev pub has : List A → A → Type 0
  has xs x = list_any (same x) xs ≡ true

  pub has_none : (x : A) → has [] x → ⊥
  has_none x h = cc

  pub has_front : (xs ys : List A) (x : A) → has xs x → has (xs ++ ys) x
  has_front [] ys x h = absurd (has_none x h)
  has_front (z ∷ zs) ys x h =
      elim (either_true (same x z) (list_any (same x) zs) h) [
        | inl e ↦ or_first (same x z) (list_any (same x) (zs ++ ys)) e
        | inr k ↦ or_later (same x z) (list_any (same x) (zs ++ ys)) (has_front zs ys x k)
      ]

  pub has_back : (xs ys : List A) (x : A) → has ys x → has (xs ++ ys) x
  has_back [] ys x h = h
  has_back (z ∷ zs) ys x h = or_later (same x z) (list_any (same x) (zs ++ ys)) (has_back zs ys x h)

  pub has_parts : (xs ys : List A) (x : A) → has (xs ++ ys) x → has xs x ⊎ has ys x
  has_parts [] ys x h = inr h
  has_parts (z ∷ zs) ys x h =
      elim (either_true (same x z) (list_any (same x) (zs ++ ys)) h) [
        | inl e ↦ inl (or_first (same x z) (list_any (same x) zs) e)
        | inr k ↦ elim (has_parts zs ys x k) [
          | inl m ↦ inl (or_later (same x z) (list_any (same x) zs) m)
          | inr m ↦ inr m
        ]
      ]

  pub has_one : (x y : A) → has (y ∷ []) x → x ≡ y
  has_one x y h =
      elim (either_true (same x y) false h) [
        | inl e ↦ (exact x y).0 e
        | inr k ↦ absurd (has_none x k)
      ]

  pub has_own : (x : A) (xs : List A) → has (x ∷ xs) x
  has_own x xs = or_first (same x x) (list_any (same x) xs) ((exact x x).1 refl)

  -- what is there already, or goes last
  pub record Inserted (xs now : List A) (x : A) : Type 0 where
    pub others : List A
    pub behind : now ≡ xs ++ others
    pub own : has now x
    pub came : (y : A) → has now y → has xs y ⊎ (y ≡ x)

  pub inserted : (xs : List A) (x : A) → Inserted xs (insert_key same xs x) x
  inserted xs x = by_test (list_any (same x) xs) refl
    where
      by_test : (b : Bool) → list_any (same x) xs ≡ b → Inserted xs (if b then xs else xs ++ x ∷ []) x
      by_test true e = record { others = []; behind = sym (append-nil xs); own = e; came = λ y h. inl h }
      by_test false e = record {
        others = x ∷ [];
        behind = refl;
        own = has_back xs (x ∷ []) x (has_own x []);
        came = λ y h. elim (has_parts xs (x ∷ []) y h) [ inl a ↦ inl a | inr a ↦ inr (has_one y x a) ];
      }

  pub record AllNoted (xs ys now : List A) : Type 0 where
    pub others : List A
    pub behind : now ≡ xs ++ others
    pub all : (y : A) → has ys y → has now y
    pub came : (y : A) → has now y → has xs y ⊎ has ys y

  pub all_noted : (ys xs : List A) → AllNoted xs ys (noted_all same xs ys)
  all_noted [] xs = record { others = []; behind = sym (append-nil xs); all = λ y h. absurd (has_none y h); came = λ y h. inl h }
  all_noted (y ∷ ys) xs =
      let i = inserted xs y in
      let r = all_noted ys (insert_key same xs y) in
      record {
        others = i.others ++ r.others;
        behind = r.behind ∙ ap (λ l. l ++ r.others) i.behind ∙ append_assoc xs i.others r.others;
        all = λ z h. elim (either_true (same z y) (list_any (same z) ys) h) [
          | inl e ↦ subst (λ l. has l z) (sym r.behind) (has_front (insert_key same xs y) r.others z (subst (λ w. has (insert_key same xs y) w) (sym ((exact z y).0 e)) i.own))
          | inr k ↦ r.all z k
        ];
        came = λ z h. elim (r.came z h) [
          | inl a ↦ elim (i.came z a) [
            | inl b ↦ inl b
            | inr e ↦ inr (or_first (same z y) (list_any (same z) ys) ((exact z y).1 e))
          ]
          | inr a ↦ inr (or_later (same z y) (list_any (same z) ys) a)
        ];
      }

module _ {A B : Type 0} (same : A → A → Bool) (exact : (x y : A) → Decides (same x y) (x ≡ y)) (alike : B → B → Bool) (exactly : (c d : B) → Decides (alike c d) (c ≡ d)) (keys : A → List B) (tokens : B → List A) where
  abbrev hasa : List A → A → Type 0
  hasa xs x = list_any (same x) xs ≡ true

  abbrev hasb : List B → B → Type 0
  hasb ds d = list_any (alike d) ds ≡ true

  -- what some steps add
  record Stepped (seen now : Seen A B) (ds : List B) : Type 0 where
    pub others : List A
    pub behind : now.toks ≡ seen.toks ++ others
    pub kept : (d : B) → hasb seen.denoted d → hasb now.denoted d
    pub all : (d : B) → hasb ds d → hasb now.denoted d
    pub came_denoted : (d : B) → hasb now.denoted d → hasb seen.denoted d ⊎ hasb ds d
    pub came : (x : A) → hasa now.toks x → hasa seen.toks x ⊎ ((d : B) × (hasb ds d) × (hasa (tokens d) x))
    pub closed : ((d : B) → hasb seen.denoted d → (x : A) → hasa (tokens d) x → hasa seen.toks x) → (d : B) → hasb now.denoted d → (x : A) → hasa (tokens d) x → hasa now.toks x

  stepped : (seen : Seen A B) (d : B) → Stepped seen (step same alike tokens seen d) (d ∷ [])
  stepped seen d = by_test (list_any (alike d) seen.denoted) refl
    where
      by_test : (b : Bool) → list_any (alike d) seen.denoted ≡ b
          → Stepped seen (if b then seen else record { toks = noted_all same seen.toks (tokens d); denoted = seen.denoted ++ d ∷ [] }) (d ∷ [])
      by_test true e = record {
        others = [];
        behind = sym (append-nil seen.toks);
        kept = λ c h. h;
        all = λ c h. subst (λ k. hasb seen.denoted k) (sym (has_one alike exactly c d h)) e;
        came_denoted = λ c h. inl h;
        came = λ x h. inl h;
        closed = λ was. was;
      }
      by_test false e =
          let n = all_noted same exact (tokens d) seen.toks in
          record {
            others = n.others;
            behind = n.behind;
            kept = λ c h. has_front alike exactly seen.denoted (d ∷ []) c h;
            all = λ c h. has_back alike exactly seen.denoted (d ∷ []) c h;
            came_denoted = λ c h. has_parts alike exactly seen.denoted (d ∷ []) c h;
            came = λ x h. elim (n.came x h) [ inl a ↦ inl a | inr a ↦ inr (d, has_own alike exactly d [], a) ];
            closed = λ was c h x t. elim (has_parts alike exactly seen.denoted (d ∷ []) c h) [
              | inl a ↦ subst (λ l. hasa l x) (sym n.behind) (has_front same exact seen.toks n.others x (was c a x t))
              | inr a ↦ n.all x (subst (λ k. hasa (tokens k) x) (has_one alike exactly c d a) t)
            ];
          }

  all_stepped : (ds : List B) (seen : Seen A B) → Stepped seen (steps same alike tokens seen ds) ds
  all_stepped [] seen = record {
    others = [];
    behind = sym (append-nil seen.toks);
    kept = λ c h. h;
    all = λ c h. absurd (has_none alike exactly c h);
    came_denoted = λ c h. inl h;
    came = λ x h. inl h;
    closed = λ was. was;
  }
  all_stepped (d ∷ ds) seen =
      let s = stepped seen d in
      let r = all_stepped ds (step same alike tokens seen d) in
      record {
        others = s.others ++ r.others;
        behind = r.behind ∙ ap (λ l. l ++ r.others) s.behind ∙ append_assoc seen.toks s.others r.others;
        kept = λ c h. r.kept c (s.kept c h);
        all = λ c h. elim (has_parts alike exactly (d ∷ []) ds c h) [ inl a ↦ r.kept c (s.all c a) | inr a ↦ r.all c a ];
        came_denoted = λ c h. elim (r.came_denoted c h) [
          | inl a ↦ elim (s.came_denoted c a) [ inl b ↦ inl b | inr b ↦ inr (has_front alike exactly (d ∷ []) ds c b) ]
          | inr a ↦ inr (has_back alike exactly (d ∷ []) ds c a)
        ];
        came = λ x h. elim (r.came x h) [
          | inl a ↦ elim (s.came x a) [ inl b ↦ inl b | inr b ↦ inr (b.0, has_front alike exactly (d ∷ []) ds b.0 b.1, b.2) ]
          | inr a ↦ inr (a.0, has_back alike exactly (d ∷ []) ds a.0 a.1, a.2)
        ];
        closed = λ was. r.closed (s.closed was);
      }

  -- on the way: from the first `at` tokens all that they denote was come to
  pub record Going (t : A) (at : ℕ) (seen : Seen A B) : Type 0 where
    pub done : List A
    pub left : List A
    pub split : seen.toks ≡ done ++ left
    pub count : length done ≡ at
    pub only : (x : A) → hasa seen.toks x → Chain same alike keys tokens t x
    pub from : (d : B) → hasb seen.denoted d → From same alike keys tokens t d
    pub closed : (d : B) → hasb seen.denoted d → (x : A) → hasa (tokens d) x → hasa seen.toks x
    pub begun : (d : B) → hasb (keys t) d → hasb seen.denoted d
    pub opened : (x : A) → hasa done x → (d : B) → hasb (keys x) d → hasb seen.denoted d

  pub going_begins : (t : A) (seen : Seen A B) → seen ≡ record { toks = []; denoted = [] } → Going t 0 (steps same alike tokens seen (keys t))
  going_begins t seen is =
      let now = steps same alike tokens seen (keys t) in
      let s = all_stepped (keys t) seen in
      let no_tok : (x : A) → hasa seen.toks x → ⊥ = λ x h. has_none same exact x (subst (λ v. hasa v.toks x) is h) in
      let no_key : (d : B) → hasb seen.denoted d → ⊥ = λ d h. has_none alike exactly d (subst (λ v. hasb v.denoted d) is h) in
      record {
        done = [];
        left = now.toks;
        split = refl;
        count = refl;
        only = λ x h. elim (s.came x h) [
          | inl a ↦ absurd (no_tok x a)
          | inr a ↦ first x (record { key = a.0; mine = a.1; yours = a.2 })
        ];
        from = λ d h. elim (s.came_denoted d h) [
          | inl a ↦ absurd (no_key d a)
          | inr a ↦ record { token = t; come = inl refl; denotes = a }
        ];
        closed = s.closed (λ d h. absurd (no_key d h));
        begun = s.all;
        opened = λ x h. absurd (has_none same exact x h);
      }

  abbrev or_that : A → Option A → A
  or_that y None = y
  or_that y (Some x) = x

  here : (done left : List A) (x : A) → slice_get (done ++ left) (length done) ≡ Some x → (more : List A) × (left ≡ x ∷ more)
  here [] [] x e = absurd (cc e)
  here [] (y ∷ ys) x e = (ys, ap (λ z. z ∷ ys) (ap (or_that y) e))
  here (y ∷ ys) left x e = here ys left x e

  at_place : (done left toks : List A) (at : ℕ) (x : A) → toks ≡ done ++ left → length done ≡ at → slice_get toks at ≡ Some x → (more : List A) × (left ≡ x ∷ more)
  at_place done left toks at x split count e =
      here done left x (subst (λ n. slice_get (done ++ left) n ≡ Some x) (sym count) (subst (λ xs. slice_get xs at ≡ Some x) split e))

  nothing_left : (done left : List A) → slice_get (done ++ left) (length done) ≡ None → left ≡ []
  nothing_left [] [] e = refl
  nothing_left [] (y ∷ ys) e = absurd (cc e)
  nothing_left (y ∷ ys) left e = nothing_left ys left e

  one_more : (xs : List A) (x : A) → length (xs ++ x ∷ []) ≡ length xs + 1
  one_more [] x = refl
  one_more (y ∷ ys) x = let rest : length (ys ++ x ∷ []) ≡ length ys + 1 = one_more ys x in omega (arith, rest)

  pub going_turns : (t : A) (at : ℕ) (seen : Seen A B) (x : A) → Going t at seen → slice_get seen.toks at ≡ Some x → Going t (at + 1) (steps same alike tokens seen (keys x))
  going_turns t at seen x was e =
      let s = all_stepped (keys x) seen in
      let place = at_place was.done was.left seen.toks at x was.split was.count e in
      let stands : hasa seen.toks x = subst (λ l. hasa l x) (sym (was.split ∙ ap (λ l. was.done ++ l) place.1)) (has_back same exact was.done (x ∷ place.0) x (has_own same exact x place.0)) in
      let chain = was.only x stands in
      record {
        done = was.done ++ x ∷ [];
        left = place.0 ++ s.others;
        split = s.behind ∙ ap (λ l. l ++ s.others) (was.split ∙ ap (λ l. was.done ++ l) place.1)
            ∙ append_assoc was.done (x ∷ place.0) s.others ∙ sym (append_assoc was.done (x ∷ []) (place.0 ++ s.others));
        count = one_more was.done x ∙ ap (λ n. n + 1) was.count;
        only = λ y h. elim (s.came y h) [
          | inl a ↦ was.only y a
          | inr a ↦ further x y chain (record { key = a.0; mine = a.1; yours = a.2 })
        ];
        from = λ d h. elim (s.came_denoted d h) [
          | inl a ↦ was.from d a
          | inr a ↦ record { token = x; come = inr chain; denotes = a }
        ];
        closed = s.closed was.closed;
        begun = λ d h. s.kept d (was.begun d h);
        opened = λ y h d k. elim (has_parts same exact was.done (x ∷ []) y h) [
          | inl a ↦ s.kept d (was.opened y a d k)
          | inr a ↦ s.all d (subst (λ z. hasb (keys z) d) (has_one same exact y x a) k)
        ];
      }

  pub going_ends : (t : A) (at : ℕ) (seen : Seen A B) → Going t at seen → slice_get seen.toks at ≡ None → IsWalked same alike keys tokens t seen
  going_ends t at seen was e =
      let none : was.left ≡ [] = nothing_left was.done was.left (subst (λ n. slice_get (was.done ++ was.left) n ≡ None) (sym was.count) (subst (λ xs. slice_get xs at ≡ None) was.split e)) in
      let all : seen.toks ≡ was.done = was.split ∙ ap (λ l. was.done ++ l) none ∙ append-nil was.done in
      let opened : (x : A) → hasa seen.toks x → (d : B) → hasb (keys x) d → hasb seen.denoted d = λ x h. was.opened x (subst (λ l. hasa l x) all h) in
      record {
        toks = λ x. (was.only x, reached was opened x);
        denoted = λ d. (
          was.from d,
          λ f. elim f.come [
            | inl i ↦ was.begun d (subst (λ z. hasb (keys z) d) i f.denotes)
            | inr c ↦ opened f.token (reached was opened f.token c) d f.denotes
          ],
        );
      }
    where
      reached : Going t at seen → ((x : A) → hasa seen.toks x → (d : B) → hasb (keys x) d → hasb seen.denoted d) → (x : A) → Chain same alike keys tokens t x → hasa seen.toks x
      reached was opened x (first y s) = was.closed s.key (was.begun s.key s.mine) x s.yours
      reached was opened x (further y z c s) = was.closed s.key (opened y (reached was opened y c) s.key s.mine) x s.yours
