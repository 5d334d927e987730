-- Laws of runs in turn.
use Rattle.std.proofs.Common.{◌≡◌, ◌≤◌, ◌+◌, ℕ, suc, arith, length, drop, List, [], ◌∷◌, ◌++◌, Option, None, Some, option_and_then, option_map, unwrap_or, is_some, T, refl, sym, ap, ◌∙◌, subst}
use Rattle.asking.specs.Asking.{Kind, Answers, Asking, Gives, Asks, asks_all, and_then}
use Rattle.asking.specs.InTurn.{Turn, Gave, Wants, Differs, after_one, after_all, further, behind_one, run, and_run}

not_some : {X Y : Type 0} (x : X) → None ≡ Some x → Y
not_some x e = absurd (subst (λ o. T (is_some o)) (sym e) tt)

the_same : {X : Type 0} {x y : X} → Some x ≡ Some y → x ≡ y
the_same {x = x} e = ap (λ o. unwrap_or o x) e

module _ {kind : Kind} {A : Type 0} where
  -- ---- what is left to ask

  append_behind : (o : Option (Asking kind A)) (next : Asking kind A) (xs ys : List kind.Entry) →
      ((s : Asking kind A) → after_all s xs ≡ Some next → after_all s (xs ++ ys) ≡ after_all next ys) →
      option_and_then (λ s. after_all s xs) o ≡ Some next → option_and_then (λ s. after_all s (xs ++ ys)) o ≡ after_all next ys
  append_behind None next xs ys ih e = not_some next e
  append_behind (Some s) next xs ys ih e = ih s e

  pub after_append : (t next : Asking kind A) (xs ys : List kind.Entry) → after_all t xs ≡ Some next → after_all t (xs ++ ys) ≡ after_all next ys
  after_append t next [] ys e = ap (λ o. option_and_then (λ s. after_all s ys) o) e
  after_append t next (x ∷ xs) ys e = append_behind (after_one t x) next xs ys (λ s. after_append s next xs ys) e

  -- ---- runs

  further_none : (turn : Turn kind A) → further 0 turn ≡ turn
  further_none (Gave x used) = ap (Gave x) (omega arith)
  further_none (Wants q) = refl
  further_none (Differs q entry) = refl

  further_one : (n : ℕ) (turn : Turn kind A) → further 1 (further n turn) ≡ further (suc n) turn
  further_one n (Gave x used) = ap (Gave x) (omega arith)
  further_one n (Wants q) = refl
  further_one n (Differs q entry) = refl

  run_gives : (x : A) (entries : List kind.Entry) → run {kind = kind} (Gives x) entries ≡ Gave x 0
  run_gives x [] = refl
  run_gives x (entry ∷ entries) = refl

  goes_behind : (q : kind.Question) (entry : kind.Entry) (o : Option (Asking kind A)) (next : Asking kind A) (xs ys : List kind.Entry) →
      ((s : Asking kind A) → after_all s xs ≡ Some next → run s (xs ++ ys) ≡ further (length xs) (run next ys)) →
      option_and_then (λ s. after_all s xs) o ≡ Some next →
      behind_one q entry (option_map (λ s. run s (xs ++ ys)) o) ≡ further (suc (length xs)) (run next ys)
  goes_behind q entry None next xs ys ih e = not_some next e
  goes_behind q entry (Some s) next xs ys ih e = ap (further 1) (ih s e) ∙ further_one (length xs) (run next ys)

  goes_at : (t next : Asking kind A) (x : kind.Entry) (xs ys : List kind.Entry) →
      ((s : Asking kind A) → after_all s xs ≡ Some next → run s (xs ++ ys) ≡ further (length xs) (run next ys)) →
      after_all t (x ∷ xs) ≡ Some next → run t (x ∷ xs ++ ys) ≡ further (suc (length xs)) (run next ys)
  goes_at (Gives a) next x xs ys ih e = not_some next e
  goes_at (Asks q more f) next x xs ys ih e = goes_behind q x (after_one (Asks q more f) x) next xs ys ih e

  pub run_goes_on : (t next : Asking kind A) (xs ys : List kind.Entry) → after_all t xs ≡ Some next → run t (xs ++ ys) ≡ further (length xs) (run next ys)
  run_goes_on t next [] ys e = ap (λ s. run s ys) (the_same e) ∙ sym (further_none (run next ys))
  run_goes_on t next (x ∷ xs) ys e = goes_at t next x xs ys (λ s. run_goes_on s next xs ys) e

  -- ---- more answers

  abbrev IsGave : Turn kind A → Type 0
  IsGave (Gave x used) = Unit {0}
  IsGave (Wants q) = ⊥
  IsGave (Differs q entry) = ⊥

  abbrev used_by : Turn kind A → ℕ
  used_by (Gave x used) = used
  used_by (Wants q) = 0
  used_by (Differs q entry) = 0

  is_gave : (turn : Turn kind A) (x : A) (used : ℕ) → turn ≡ Gave x used → IsGave turn
  is_gave turn x used e = subst IsGave (sym e) tt

  -- a run that gave, and the same run over more answers
  record Stays (n : ℕ) (turn turn' : Turn kind A) : Type 0 where
    within : used_by turn ≤ n
    same : turn' ≡ turn

  stays_further : (n : ℕ) (turn turn' : Turn kind A) → IsGave turn → Stays n turn turn' → Stays (suc n) (further 1 turn) (further 1 turn')
  stays_further n (Gave x used) turn' is h = let le = h.within in record { within = omega arith; same = ap (further 1) h.same }
  stays_further n (Wants q) turn' is h = absurd is
  stays_further n (Differs q entry) turn' is h = absurd is

  gave_further : (turn : Turn kind A) → IsGave (further 1 turn) → IsGave turn
  gave_further (Gave x used) is = tt
  gave_further (Wants q) is = is
  gave_further (Differs q entry) is = is

  stays_behind : (q : kind.Question) (entry : kind.Entry) (o : Option (Asking kind A)) (xs ys : List kind.Entry) →
      ((s : Asking kind A) → IsGave (run s xs) → Stays (length xs) (run s xs) (run s (xs ++ ys))) →
      IsGave (behind_one q entry (option_map (λ s. run s xs) o)) →
      Stays (suc (length xs)) (behind_one q entry (option_map (λ s. run s xs) o)) (behind_one q entry (option_map (λ s. run s (xs ++ ys)) o))
  stays_behind q entry None xs ys ih is = absurd is
  stays_behind q entry (Some s) xs ys ih is =
      let gave = gave_further (run s xs) is in stays_further (length xs) (run s xs) (run s (xs ++ ys)) gave (ih s gave)

  stays_at : (t : Asking kind A) (x : kind.Entry) (xs ys : List kind.Entry) →
      ((s : Asking kind A) → IsGave (run s xs) → Stays (length xs) (run s xs) (run s (xs ++ ys))) →
      IsGave (run t (x ∷ xs)) → Stays (suc (length xs)) (run t (x ∷ xs)) (run t (x ∷ xs ++ ys))
  stays_at (Gives a) x xs ys ih is = record { within = omega arith; same = refl }
  stays_at (Asks q more f) x xs ys ih is = stays_behind q x (after_one (Asks q more f) x) xs ys ih is

  stays : (t : Asking kind A) (xs ys : List kind.Entry) → IsGave (run t xs) → Stays (length xs) (run t xs) (run t (xs ++ ys))
  stays (Gives a) [] ys is = record { within = omega arith; same = run_gives a ys }
  stays (Asks q more f) [] ys is = absurd is
  stays t (x ∷ xs) ys is = stays_at t x xs ys (λ s. stays s xs ys) is

  pub run_stays : (t : Asking kind A) (xs ys : List kind.Entry) (x : A) (used : ℕ) → run t xs ≡ Gave x used → (used ≤ length xs) × (run t (xs ++ ys) ≡ Gave x used)
  run_stays t xs ys x used e =
      let h = stays t xs ys (is_gave (run t xs) x used e) in (subst (λ turn. used_by turn ≤ length xs) e h.within, h.same ∙ e)

-- ---- what asks and then goes on

module _ {kind : Kind} {A B : Type 0} where
  asks_then : (questions : List kind.Question) (f : Answers kind questions → Asking kind A) (k : A → Asking kind B) →
      and_then (asks_all questions f) k ≡ asks_all questions (λ answers. and_then (f answers) k)
  asks_then [] f k = refl
  asks_then (q ∷ more) f k = refl

  one_read : (q : kind.Question) (more : List kind.Question) (f : Answers kind (q ∷ more) → Asking kind A) (k : A → Asking kind B) (o : Option (kind.Answer q)) →
      option_map (λ a. asks_all more (λ answers. and_then (f (a, answers)) k)) o ≡ option_map (λ s. and_then s k) (option_map (λ a. asks_all more (λ answers. f (a, answers))) o)
  one_read q more f k None = refl
  one_read q more f k (Some a) = ap Some (sym (asks_then more (λ answers. f (a, answers)) k))

  then_one : (t next : Asking kind A) (k : A → Asking kind B) (x : kind.Entry) → after_one t x ≡ Some next → after_one (and_then t k) x ≡ Some (and_then next k)
  then_one (Gives a) next k x e = not_some next e
  then_one (Asks q more f) next k x e = one_read q more f k (kind.reads q x) ∙ ap (option_map (λ s. and_then s k)) e

  then_behind : (t : Asking kind A) (o : Option (Asking kind A)) (next : Asking kind A) (k : A → Asking kind B) (x : kind.Entry) (xs : List kind.Entry) →
      ((s : Asking kind A) → after_all s xs ≡ Some next → after_all (and_then s k) xs ≡ Some (and_then next k)) →
      after_one t x ≡ o → option_and_then (λ s. after_all s xs) o ≡ Some next → after_all (and_then t k) (x ∷ xs) ≡ Some (and_then next k)
  then_behind t None next k x xs ih is e = not_some next e
  then_behind t (Some s) next k x xs ih is e = ap (option_and_then (λ u. after_all u xs)) (then_one t s k x is) ∙ ih s e

  pub then_answered : (t next : Asking kind A) (k : A → Asking kind B) (xs : List kind.Entry) → after_all t xs ≡ Some next → after_all (and_then t k) xs ≡ Some (and_then next k)
  then_answered t next k [] e = ap (option_map (λ s. and_then s k)) e
  then_answered t next k (x ∷ xs) e = then_behind t (after_one t x) next k x xs (λ s. then_answered s next k xs) refl e

  and_run_more : (entry : kind.Entry) (entries : List kind.Entry) (turn : Turn kind A) (k : A → Asking kind B) →
      further 1 (and_run entries turn k) ≡ and_run (entry ∷ entries) (further 1 turn) k
  and_run_more entry entries (Gave x used) k =
      let one : 1 + used ≡ suc used = omega arith in
      further_one used (run (k x) (drop used entries)) ∙ ap (λ n. further n (run (k x) (drop n (entry ∷ entries)))) (sym one)
  and_run_more entry entries (Wants q) k = refl
  and_run_more entry entries (Differs q other) k = refl

  runs_behind : (q : kind.Question) (x : kind.Entry) (xs : List kind.Entry) (k : A → Asking kind B) (o : Option (Asking kind A)) →
      ((s : Asking kind A) → run (and_then s k) xs ≡ and_run xs (run s xs) k) →
      behind_one q x (option_map (λ s. run s xs) (option_map (λ s. and_then s k) o)) ≡ and_run (x ∷ xs) (behind_one q x (option_map (λ s. run s xs) o)) k
  runs_behind q x xs k None ih = refl
  runs_behind q x xs k (Some s) ih = ap (further 1) (ih s) ∙ and_run_more x xs (run s xs) k

  runs_at : (t : Asking kind A) (k : A → Asking kind B) (x : kind.Entry) (xs : List kind.Entry) →
      ((s : Asking kind A) → run (and_then s k) xs ≡ and_run xs (run s xs) k) → run (and_then t k) (x ∷ xs) ≡ and_run (x ∷ xs) (run t (x ∷ xs)) k
  runs_at (Gives a) k x xs ih = sym (further_none (run (k a) (x ∷ xs)))
  runs_at (Asks q more f) k x xs ih =
      ap (λ o. behind_one q x (option_map (λ s. run s xs) o)) (one_read q more f k (kind.reads q x)) ∙ runs_behind q x xs k (after_one (Asks q more f) x) ih

  pub then_runs : (t : Asking kind A) (k : A → Asking kind B) (xs : List kind.Entry) → run (and_then t k) xs ≡ and_run xs (run t xs) k
  then_runs (Gives a) k [] = sym (further_none (run (k a) []))
  then_runs (Asks q more f) k [] = refl
  then_runs t k (x ∷ xs) = runs_at t k x xs (λ s. then_runs s k xs)
