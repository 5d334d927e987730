-- Runs in which each answer is looked up: a question that is asked again gets the same answer.
use Rattle.std.specs.Prelude.{not, is_some, List, [], ◌∷◌, ◌++◌, filter, Option, None, Some, option_map}
use Rattle.std.specs.Option.{option_or}
use Rattle.asking.specs.Asking.{Kind, Answers, Asking, Gives, Asks}

-- ---- over an answer to each question

-- an answer to each question
abbrev pub Given : Kind → Type 0
Given kind = (q : kind.Question) → kind.Answer q

abbrev pub given_all : (kind : Kind) → Given kind → (questions : List kind.Question) → Answers kind questions
given_all kind given [] = tt
given_all kind given (q ∷ more) = (given q, given_all kind given more)

-- the result
abbrev pub result_of : {kind : Kind} {A : Type 0} → Given kind → Asking kind A → A
result_of {kind} given (Gives x) = x
result_of {kind} given (Asks q more next) = result_of given (next (given_all kind given (q ∷ more)))

-- all that is asked, in the order of asking; what is asked again stands here again
abbrev pub all_asked : {kind : Kind} {A : Type 0} → Given kind → Asking kind A → List kind.Question
all_asked {kind} given (Gives x) = []
all_asked {kind} given (Asks q more next) = (q ∷ more) ++ all_asked given (next (given_all kind given (q ∷ more)))

-- these questions, each once, where it stands first
abbrev pub once : (kind : Kind) → List kind.Question → List kind.Question
once kind [] = []
once kind (q ∷ more) = q ∷ filter (λ p. not (kind.same p q)) (once kind more)

-- what is asked, each question once, in the order in which they are first asked
abbrev pub asked : {kind : Kind} {A : Type 0} → Given kind → Asking kind A → List kind.Question
asked {kind} given asking = once kind (all_asked given asking)

-- ---- over answers to some questions

-- answers to some questions
abbrev pub LookUp : Kind → Type 0
LookUp kind = (q : kind.Question) → Option (kind.Answer q)

-- the answers in a list of entries: to each question that of the first entry that answers it
abbrev pub look_up : (kind : Kind) → List kind.Entry → LookUp kind
look_up kind [] q = None
look_up kind (entry ∷ entries) q = option_or (kind.reads q entry) (look_up kind entries q)

abbrev pub both : {A B : Type 0} → Option A → Option B → Option (A × B)
both None o = None
both (Some x) o = option_map (λ y. (x, y)) o

-- the answers to these questions; none where one of them has no answer
abbrev pub found_all : (kind : Kind) → LookUp kind → (questions : List kind.Question) → Option (Answers kind questions)
found_all kind look [] = Some tt
found_all kind look (q ∷ more) = both (look q) (found_all kind look more)

-- those of these questions that have no answer, each once
abbrev pub unanswered : (kind : Kind) → LookUp kind → List kind.Question → List kind.Question
unanswered kind look questions = once kind (filter (λ q. not (is_some (look q))) questions)

-- What a run comes to.
pub data Looked (kind : Kind) (A : Type 0) : Type 0 where
  -- a result
  Ends : A → Looked kind A
  -- those questions of the first list with a gap that have no answer, each once
  Needs : List kind.Question → Looked kind A

-- the run goes on by the answers, or needs what is asked for
abbrev pub by_found : {kind : Kind} {A : Type 0} {X : Type 0} → List kind.Question → (X → Looked kind A) → Option X → Looked kind A
by_found wanted next None = Needs wanted
by_found wanted next (Some answers) = next answers

abbrev pub run_by : {kind : Kind} {A : Type 0} → LookUp kind → Asking kind A → Looked kind A
run_by {kind} look (Gives x) = Ends x
run_by {kind} look (Asks q more next) = by_found (unanswered kind look (q ∷ more)) (λ answers. run_by look (next answers)) (found_all kind look (q ∷ more))

-- the run that goes on with the result of the first one
abbrev pub and_look : {kind : Kind} {A B : Type 0} → Looked kind A → (A → Looked kind B) → Looked kind B
and_look (Ends x) k = k x
and_look (Needs wanted) k = Needs wanted
