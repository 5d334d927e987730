use Rattle.std.proofs.Common.{◌∙◌, ap, ◌++◌, ◌∷◌, []}
use Rattle.tree_data.specs.Stated.{lead_of, leads_of}
use Rattle.stmt_parser.proofs.StatementsRead.{mapped}
use Rattle.stmt_parser.proofs.frames.chosen.Goals as goal

pub returns : goal.returns
returns c =
    ap leads_of c.in_ok-push.ensures.items ∙ mapped lead_of _ _
    ∙ ap (λ l. leads_of c.args.leads.items ++ l ∷ []) c.in_ok-lead.ensures
