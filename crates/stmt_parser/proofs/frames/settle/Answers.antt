use Rattle.std.proofs.Common.{◌∙◌, ◌+◌, sym, subst, arith}
use Rattle.tree_data.specs.Seen.{tree_of}
use Rattle.tree_data.specs.Stated.{stmt_of, leads_of}
use Rattle.c_parser.specs.Parts.{past_tree}
use Rattle.stmt_parser.specs.declared.frames.Opener.TheVariants as opener
use Rattle.stmt_parser.specs.Found.{FoundStatement}
use Rattle.stmt_parser.specs.Frames.{Opens, behind_opener, inside_opener, led_back}
use Rattle.stmt_parser.proofs.FramesRead.{alone_settles, chosen_settles}
use Rattle.stmt_parser.proofs.PartsRead.{test_expression}
use Rattle.stmt_parser.proofs.frames.settle.Goals as goal

pub returns-in_default : goal.returns-in_default
returns-in_default c =
    let frame = c.args.frame in
    let opens : Opens frame.scope frame.at (opener.If c.in-If.test c.in-If.closing) = subst (Opens frame.scope frame.at) c.in-If.is c.requires.opens in
    let found : FoundStatement (past_tree frame.scope (tree_of c.in-If.test)) (c.in-If.closing + 1) (led_back (leads_of c.args.behind.items) (stmt_of c.args.core)) c.args.end =
    subst (λ o. FoundStatement (inside_opener frame.scope o) (behind_opener frame.at o) (led_back (leads_of c.args.behind.items) (stmt_of c.args.core)) c.args.end) c.in-If.is
    c.requires.found in
    record {
      settled =
          λ w a h.
          alone_settles c.requires.law w a _ _ _ h opens.0 _ _ opens.1 _ _ found (λ k. c.in_default.not-Else (c.kind_at.ensures.kind ∙ k)) _
          (c.in-Ok.ensures (stmt_of c.args.core));
      forth = omega arith;
      fails = tt;
    }

pub returns-in-Ok-chosen-clause-settled : goal.returns-in-Ok-chosen-clause-settled
returns-in-Ok-chosen-clause-settled c w a h =
    let frame = c.args.frame in
    let opens : Opens frame.scope frame.at (opener.If c.in-If.test c.in-If.closing) = subst (Opens frame.scope frame.at) c.in-If.is c.requires.opens in
    let found : FoundStatement (past_tree frame.scope (tree_of c.in-If.test)) (c.in-If.closing + 1) (led_back (leads_of c.args.behind.items) (stmt_of c.args.core)) c.args.end =
    subst (λ o. FoundStatement (inside_opener frame.scope o) (behind_opener frame.at o) (led_back (leads_of c.args.behind.items) (stmt_of c.args.core)) c.args.end) c.in-If.is
    c.requires.found in
    chosen_settles c.requires.law w a _ _ _ h opens.0 _ _ opens.1 _ _ found (sym c.in-Else.ensures.kind) c.in-Else.ensures.inside _
    (c.in-Ok-past_expression.ensures.past _ (test_expression _ _ _ _ opens.1)) _
    c.in-Ok-finished.ensures _ c.in-Ok-chosen.ensures
