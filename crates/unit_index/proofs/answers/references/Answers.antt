use Rattle.std.proofs.Common.{ap, ◌∙◌}
use Rattle.std.specs.List.{filter}
use Rattle.unit_index.specs.Occurrences.{shared}
use Rattle.unit_index.specs.References.{references, is_wanted}
use Rattle.unit_index.proofs.AnswerLemmas.{all_toks}
use Rattle.unit_index.proofs.answers.references.Goals as goal

pub returns : goal.returns
unfolding references
returns c =
    c.in_ok-out.ensures
    ∙ ap (filter (is_wanted c.args.units.now c.args.declarations)) (c.as_slice.ensures.value ∙ c.in_ok-tokens.ensures ∙ all_toks (shared c.args.units.now c.args.tok.now))
