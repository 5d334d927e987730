use Rattle.std.proofs.Common.{rules, ◌≡◌, ap, ◌∙◌, drop, true, Some, option_map}
use Rattle.elab_state.specs.Tokens.{bare_tokens}
use Rattle.item_cut.specs.Items.{body_at}
use Rattle.stmt_checks.proofs.Stays.{body_stays}
use Rattle.stmt_checks.proofs.folding.body_stays.Goals as goal
use Rattle.stmt_checks.specs.Firm.{tokens_of}
use Rattle.stmt_checks.specs.Folds.{body_tokens, is_checked}

pub returns : goal.returns
returns c =
    let ts = c.args.tokens.now in
    let part = c.in-Some.part.now in
    let at : c.body_start-at.result ≡ body_at ts = c.body_start-at.ensures in
    let found : option_map (λ p. p.now) c.args.part ≡ Some part = search rules in
    let checked : is_checked ts c.args.head.now ≡ true = search rules in
    let tokens : c.behind-body.result.now ≡ body_tokens ts = c.behind-body.ensures.tokens ∙ ap (λ n. drop n ts) at in
    let alike : bare_tokens c.behind-body.result.now ≡ tokens_of part.words.items = search rules in
    let base : part.base ≡ body_at ts = search rules in
    body_stays ts c.behind-body.result.now c.args.head.now c.args.changed.now _ part c.leaves.result found checked tokens alike base c.leaves.ensures
