use Rattle.std.proofs.Common.{rules, sym, ◌∙◌, arith}
use Rattle.project_conf.proofs.WordLemmas.{word_turns, word_keeps, word_keeps_both, word_ends}
use Rattle.project_conf.proofs.command_words.word_from.Goals as goal

pub returns-in_default-clause-words : goal.returns-in_default-clause-words
returns-in_default-clause-words c = word_ends _ _ _ _ _ (c.in_ok-after.ensures.words ∙ c.word.invariant.1) c.in_default.ensures.points c.in_ok-push_end.ensures

pub word-preserved-in-Turns : goal.word-preserved-in-Turns
word-preserved-in-Turns c = (
  search rules,
  word_turns _ _ _ _ _ _ (c.in_ok-after.ensures.words ∙ c.word.invariant.1) c.in-Some.ensures.points _ (sym c.step.ensures ∙ c.in-Turns.is),
  omega (arith, c.in-Some.ensures.shorter, c.in_ok-after.ensures.within, c.word.invariant.2),
)

pub word-preserved-in-Keeps : goal.word-preserved-in-Keeps
word-preserved-in-Keeps c = (
  search rules,
  word_keeps _ _ _ _ _ _ (c.in_ok-after.ensures.words ∙ c.word.invariant.1) c.in-Some.ensures.points _ _ (sym c.step.ensures ∙ c.in-Keeps.is) c.in_ok-push-in-Keeps.ensures.bytes,
  omega (arith, c.in-Some.ensures.shorter, c.in_ok-after.ensures.within, c.word.invariant.2),
)

pub word-preserved : goal.word-preserved
word-preserved c = (
  search rules,
  word_keeps_both _ _ _ _ _ _ (c.in_ok-after.ensures.words ∙ c.word.invariant.1) c.in-Some.ensures.points _ _ _ (sym c.step.ensures ∙ c.in-KeepsBoth.is)
      c.in_ok-push-in-KeepsBoth.ensures.bytes c.in_ok-push-in-KeepsBoth-2.ensures.bytes,
  omega (arith, c.in-Some.ensures.shorter, c.in_ok-after.ensures.within, c.word.invariant.2),
)
