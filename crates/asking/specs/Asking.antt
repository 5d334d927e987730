-- What depends on answers, as a tree: it gives a result, or asks a list of questions, at least one, and goes on by the
-- answers to them.
use Rattle.std.specs.Prelude.{◌≡◌, Bool, true, List, [], ◌∷◌, Option}

-- A kind of questions, and what an answer to each is. An entry is an answer together with what it answers, as it stands in
-- a list of answers.
pub record Kind : Type 1 where
  pub Question : Type 0
  pub Answer : Question → Type 0
  pub Entry : Type 0
  -- the answer to this question that the entry is; none where it answers another one
  pub reads : (q : Question) → Entry → Option (Answer q)
  -- whether two questions are the same
  pub same : Question → Question → Bool

-- Questions are the same by the test exactly where they are equal.
pub record IsLawful (kind : Kind) : Type 0 where
  pub same : (p q : kind.Question) → kind.same p q ≡ true → p ≡ q
  pub same_self : (q : kind.Question) → kind.same q q ≡ true

-- the answers to these questions, one to each, in their order
abbrev pub Answers : (kind : Kind) → List kind.Question → Type 0
Answers kind [] = Unit {0}
Answers kind (q ∷ more) = kind.Answer q × Answers kind more

pub data Asking (kind : Kind) (A : Type 0) : Type 0 where
  Gives : A → Asking kind A
  Asks : (q : kind.Question) → (more : List kind.Question) → (Answers kind (q ∷ more) → Asking kind A) → Asking kind A

module _ {kind : Kind} {A : Type 0} where
  -- one question is asked
  abbrev pub asks_one : (q : kind.Question) → (kind.Answer q → Asking kind A) → Asking kind A
  asks_one q next = Asks q [] (λ answers. next answers.0)

  -- these questions are asked, where there are any
  abbrev pub asks_all : (questions : List kind.Question) → (Answers kind questions → Asking kind A) → Asking kind A
  asks_all [] next = next tt
  asks_all (q ∷ more) next = Asks q more next

-- what asks, and then goes on with its result
abbrev pub and_then : {kind : Kind} {A B : Type 0} → Asking kind A → (A → Asking kind B) → Asking kind B
and_then (Gives x) k = k x
and_then (Asks q more next) k = Asks q more (λ answers. and_then (next answers) k)
