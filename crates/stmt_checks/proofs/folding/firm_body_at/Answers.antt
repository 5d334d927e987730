use Rattle.std.proofs.Common.{subst, List, drop, IfSome}
use Rattle.earlier_items.specs.Before.{AreBefore}
use Rattle.elab_state.specs.Tokens.{bare_tokens}
use Rattle.scope_tables.specs.declared.meanings.HeadMeaning.{HeadMeaning}
use Rattle.stmt_checks.proofs.folding.firm_body_at.Goals as goal
use Rattle.stmt_checks.specs.Firm.{IsBody}

pub returns-in-Ok : goal.returns-in-Ok
returns-in-Ok c =
    let earlier = c.args.earlier.now in
    let head = c.args.head.now in
    subst (λ n. IfSome c.in-Ok.found (λ b. (hs : List HeadMeaning) → AreBefore hs earlier → IsBody hs head b (bare_tokens (drop n c.args.tokens.now)) n)) c.requires.at
    (subst (λ us. IfSome c.in-Ok.found (λ b. (hs : List HeadMeaning) → AreBefore hs earlier → IsBody hs head b (bare_tokens us) c.args.at)) c.behind.ensures.tokens c.in-Ok.ensures)
