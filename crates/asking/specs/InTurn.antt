-- A run over a list of answers in turn: each answer is used once, for the question that is asked next.
use Rattle.std.specs.Prelude.{ℕ, ◌+◌, List, [], ◌∷◌, drop, Option, None, Some, option_map, option_and_then}
use Rattle.asking.specs.Asking.{Kind, Asking, Gives, Asks, asks_all}

-- What a run comes to.
pub data Turn (kind : Kind) (A : Type 0) : Type 0 where
  -- a result, with the number of answers that were used
  Gave : A → ℕ → Turn kind A
  -- the question that is asked next, to which there is no answer any more
  Wants : kind.Question → Turn kind A
  -- the question that is asked next, where the next answer is one to another question
  Differs : kind.Question → kind.Entry → Turn kind A

module _ {kind : Kind} {A : Type 0} where
  -- the question that is asked next
  abbrev pub next_question : Asking kind A → Option kind.Question
  next_question (Gives x) = None
  next_question (Asks q more next) = Some q

  -- what is left to ask behind one answer; none where the answer isn't to the question that is asked next
  abbrev pub after_one : Asking kind A → kind.Entry → Option (Asking kind A)
  after_one (Gives x) entry = None
  after_one (Asks q more next) entry = option_map (λ answer. asks_all more (λ answers. next (answer, answers))) (kind.reads q entry)

  -- what is left to ask behind these answers, each of them to the question that is asked in turn
  abbrev pub after_all : Asking kind A → List kind.Entry → Option (Asking kind A)
  after_all asking [] = Some asking
  after_all asking (entry ∷ entries) = option_and_then (λ next. after_all next entries) (after_one asking entry)

  -- a run that comes behind this many answers
  abbrev pub further : ℕ → Turn kind A → Turn kind A
  further n (Gave x used) = Gave x (n + used)
  further n (Wants q) = Wants q
  further n (Differs q entry) = Differs q entry

  -- the run that goes on behind one answer to this question
  abbrev pub behind_one : kind.Question → kind.Entry → Option (Turn kind A) → Turn kind A
  behind_one q entry None = Differs q entry
  behind_one q entry (Some turn) = further 1 turn

  abbrev pub run : Asking kind A → List kind.Entry → Turn kind A
  run (Gives x) [] = Gave x 0
  run (Gives x) (entry ∷ entries) = Gave x 0
  run (Asks q more next) [] = Wants q
  run (Asks q more next) (entry ∷ entries) = behind_one q entry (option_map (λ asking. run asking entries) (after_one (Asks q more next) entry))

-- the run that goes on with the result of the first one, and with the answers that it left
abbrev pub and_run : {kind : Kind} {A B : Type 0} → List kind.Entry → Turn kind A → (A → Asking kind B) → Turn kind B
and_run entries (Gave x used) k = further used (run (k x) (drop used entries))
and_run entries (Wants q) k = Wants q
and_run entries (Differs q entry) k = Differs q entry
