use Rattle.std.proofs.Common.{ap, sym, ◌∙◌}
use Rattle.std.specs.List.{filter}
use Rattle.unit_index.specs.References.{is_wanted}
use Rattle.unit_index.proofs.IntroducedLemmas.{all_left}
use Rattle.unit_index.proofs.answers.narrowed.Goals as goal

pub returns-then-declarations : goal.returns-then-declarations
returns-then-declarations c =
    c.in_ok-out.ensures ∙ all_left c.args.units.now c.args.tokens.now
    ∙ ap (λ d. filter (is_wanted c.args.units.now d) c.args.tokens.now) (sym c.if-declarations.true)

pub returns : goal.returns
returns c = c.in_ok-out-2.ensures ∙ ap (λ d. filter (is_wanted c.args.units.now d) c.args.tokens.now) (sym c.if-declarations.false)
