use Rattle.std.proofs.Common.{ap, sym, ◌∙◌}
use Rattle.std.specs.Prelude.{option_map}
use Rattle.macro_expand.specs.Ties.Looks.{seen}
use Rattle.macro_expand.specs.Ties.Steps.{meant}
use Rattle.macro_expand.proofs.ListLemmas.{drop_at}
use Rattle.macro_expand.proofs.skimming.stays_first.Goals as goal

pub returns-in-Ordinary-clause-value : goal.returns-in-Ordinary-clause-value
returns-in-Ordinary-clause-value c = λ yes f h. (
  seen c.in-Some.token,
  (
    drop_at c.args.rest.now 0 (seen c.in-Some.token) (sym c.look.ensures.value ∙ ap (option_map seen) c.in-Some.is),
    ap meant (sym c.in-Ordinary.is) ∙ c.in_ok-meaning.ensures.value f h,
  ),
)
