use Rattle.std.proofs.Common.{ap, ◌∙◌, map}
use Rattle.elab_state.specs.Words.{lookup, word_of, words}
use Rattle.elab_state.proofs.Tables.{or_other, found_in}
use Rattle.elab_state.proofs.words.word_of.Goals as goal

pub returns-in-Some : goal.returns-in-Some
unfolding word_of words
returns-in-Some c =
    ap or_other c.in-Some.ensures
    ∙ found_in (λ e. e.0.now) (λ e. e.1) c.args.text.now c.as_slice.result.now
    ∙ ap (λ xs. lookup (map (λ e. (e.0.now, e.1)) xs) c.args.text.now) c.as_slice.ensures

pub returns-in-None : goal.returns-in-None
unfolding word_of words
returns-in-None c =
    ap or_other c.in-None.ensures
    ∙ found_in (λ e. e.0.now) (λ e. e.1) c.args.text.now c.as_slice.result.now
    ∙ ap (λ xs. lookup (map (λ e. (e.0.now, e.1)) xs) c.args.text.now) c.as_slice.ensures
