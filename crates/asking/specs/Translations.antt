-- From one kind of questions to another.
use Rattle.std.specs.Prelude.{List, [], ◌∷◌, map, option_map}
use Rattle.asking.specs.Asking.{Kind, Answers, Asking, Gives, Asks}
use Rattle.asking.specs.LookUps.{Given, LookUp, Looked, Ends, Needs, once}

-- Which question of the second kind is asked in place of one of the first, and what its answer says of the first.
pub record Translation (from to : Kind) : Type 0 where
  pub question : from.Question → to.Question
  pub answer : (q : from.Question) → to.Answer (question q) → from.Answer q

module _ {from to : Kind} where
  abbrev pub answers_by : (translation : Translation from to) → (questions : List from.Question) →
      Answers to (map translation.question questions) → Answers from questions
  answers_by translation [] answers = tt
  answers_by translation (q ∷ more) answers = (translation.answer q answers.0, answers_by translation more answers.1)

  -- the same, with the questions of the second kind asked
  abbrev pub translate : {A : Type 0} → Translation from to → Asking from A → Asking to A
  translate translation (Gives x) = Gives x
  translate translation (Asks q more next) =
      Asks (translation.question q) (map translation.question more) (λ answers. translate translation (next (answers_by translation (q ∷ more) answers)))

  -- what answers of the second kind say of the first
  abbrev pub given_by : Translation from to → Given to → Given from
  given_by translation given q = translation.answer q (given (translation.question q))

  abbrev pub look_by : Translation from to → LookUp to → LookUp from
  look_by translation look q = option_map (translation.answer q) (look (translation.question q))

  -- what a run comes to, by the questions of the second kind
  abbrev pub translated : {A : Type 0} → Translation from to → Looked from A → Looked to A
  translated translation (Ends x) = Ends x
  translated translation (Needs wanted) = Needs (once to (map translation.question wanted))
