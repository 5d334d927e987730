use Rattle.std.proofs.Common.{IfOk, ◌≡◌, false, sym, ap, ◌∙◌, subst}
use Rattle.asking.specs.LookUps.{Needs, unanswered}
use Rattle.tree_data.specs.Seen.{tree_of}
use Rattle.elab_state.specs.Asked.{identifiers}
use Rattle.elab_state.specs.Tokens.{bare_tokens}
use Rattle.elab_state.specs.Wants.{answered, wants}
use Rattle.elab_state.proofs.Askings.{all_told, some_lack}
use Rattle.elab_core.specs.Meanings.{Means, judged_in, own_tokens}
use Rattle.elab_core.proofs.Bare.{own_bare}
use Rattle.elab_core.proofs.Lacking.{nothing_asked, something_asked}
use Rattle.elab_core.proofs.meaning.elab_expr.Goals as goal

pub returns-then-is_none : goal.returns-then-is_none
returns-then-is_none c =
    let look = answered c.args.known.now in
    let ids = identifiers false (own_tokens (tree_of c.args.expr.now) (bare_tokens c.args.tokens.now)) in
    let next = judged_in c.args.item.now (bare_tokens c.args.tokens.now) (tree_of c.args.expr.now) c.args.scopes.now c.args.tags in
    let asked : c.in_ok-asked.asked ≡ unanswered wants look ids = c.in_ok-asked.ensures ∙ ap (λ ts. unanswered wants look (identifiers false ts)) (ap bare_tokens c.own_tokens.ensures ∙ own_bare (tree_of c.args.expr.now) c.args.tokens.now) in
    subst (λ run. IfOk c.judged_in.result (λ elab. Means run elab)) (sym (all_told look ids next (sym asked ∙ nothing_asked c.in_ok-asked.asked (sym c.is_none.ensures ∙ c.if-is_none.true)))) c.judged_in.ensures

pub returns : goal.returns
returns c =
    let look = answered c.args.known.now in
    let ids = identifiers false (own_tokens (tree_of c.args.expr.now) (bare_tokens c.args.tokens.now)) in
    let next = judged_in c.args.item.now (bare_tokens c.args.tokens.now) (tree_of c.args.expr.now) c.args.scopes.now c.args.tags in
    let asked : c.in_ok-asked.asked ≡ unanswered wants look ids = c.in_ok-asked.ensures ∙ ap (λ ts. unanswered wants look (identifiers false ts)) (ap bare_tokens c.own_tokens.ensures ∙ own_bare (tree_of c.args.expr.now) c.args.tokens.now) in
    some_lack look ids next (λ none. something_asked c.in_ok-asked.asked (sym c.is_none.ensures ∙ c.if-is_none.false) (asked ∙ none)) ∙ ap (λ qs. Needs qs) (sym asked)
