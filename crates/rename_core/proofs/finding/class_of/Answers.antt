use Rattle.std.proofs.Common.{ap, map, sym, ◌∙◌}
use Rattle.rename_core.specs.Found.{in_order, meanings_told, name_told}
use Rattle.rename_core.specs.Ties.Lists.{listed}
use Rattle.rename_core.specs.Mentions.{same_denoted}
use Rattle.rename_core.specs.Showing as spec
use Rattle.scope_tables.specs.Occurrences.{same_tok}
use Rattle.rename_core.specs.Occurrences.{first_some}
use Rattle.rename_core.proofs.ClassLemmas.{class_is, external_is, pasted_is, two_is}
use Rattle.rename_core.proofs.finding.class_of.Goals as goal

pub returns-clause-tokens : goal.returns-clause-tokens
returns-clause-tokens c =
    class_is (map (λ os. os.now) c.args.units.now) c.args.tok.now (listed same_tok c.in_ok-told.told) (listed same_denoted c.in_ok-mentioned.mentioned)
    c.in_ok-told.ensures c.in_ok-mentioned.ensures c.in_ok-walk.walk c.in_ok-class.class.toks
    (c.in_ok-class.ensures.tokens ∙ c.in_ok-toks.ensures ∙ ap in_order c.toks.ensures) c.in_ok-walk.ensures

pub returns-clause-external : goal.returns-clause-external
returns-clause-external c =
    c.in_ok-class.ensures.external
    ∙ ap (λ ts. first_some (λ q. name_told (listed same_tok c.in_ok-told.told q)) ts) (sym c.in_ok-class.ensures.tokens)
    ∙ external_is (map (λ os. os.now) c.args.units.now) c.args.tok.now (listed same_tok c.in_ok-told.told) (listed same_denoted c.in_ok-mentioned.mentioned)
    c.in_ok-told.ensures c.in_ok-mentioned.ensures c.in_ok-class.class.toks

pub returns-clause-library : goal.returns-clause-library
returns-clause-library c = c.in_ok-class.ensures.library ∙ ap spec.library (sym c.in_ok-class.ensures.tokens)

pub returns-clause-pasted : goal.returns-clause-pasted
returns-clause-pasted c =
    c.in_ok-class.ensures.pasted
    ∙ pasted_is (map (λ os. os.now) c.args.units.now) c.args.tok.now (listed same_tok c.in_ok-told.told) (listed same_denoted c.in_ok-mentioned.mentioned)
    c.in_ok-told.ensures c.in_ok-mentioned.ensures c.in_ok-walk.walk c.in_ok-class.class.toks
    (c.in_ok-class.ensures.tokens ∙ c.in_ok-toks.ensures ∙ ap in_order c.toks.ensures) c.in_ok-walk.ensures

pub returns-clause-spelled : goal.returns-clause-spelled
returns-clause-spelled c =
    c.in_ok-class.ensures.spelled ∙ ap (λ ts. spec.spelled (map (λ os. os.now) c.args.units.now) ts) (sym c.in_ok-class.ensures.tokens)

pub returns-clause-two : goal.returns-clause-two
returns-clause-two c =
    c.in_ok-class.ensures.two
    ∙ ap (λ ts. first_some (λ q. meanings_told q (listed same_tok c.in_ok-told.told q)) ts) (sym c.in_ok-class.ensures.tokens)
    ∙ two_is (map (λ os. os.now) c.args.units.now) c.args.tok.now (listed same_tok c.in_ok-told.told) (listed same_denoted c.in_ok-mentioned.mentioned)
    c.in_ok-told.ensures c.in_ok-mentioned.ensures c.in_ok-class.class.toks
