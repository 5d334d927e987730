use Rattle.std.proofs.Common.{◌∙◌, ◌≤◌, ap, sym, subst, length}
use Rattle.tree_data.specs.Seen.{declarator_of}
use Rattle.c_parser.specs.Heads.{Leading}
use Rattle.c_parser.proofs.HeadLists.{declarator_missing, value_missing, one_found, one_same}
use Rattle.c_parser.proofs.HeadWords.{past_is, past_kinds, from_length}
use Rattle.c_parser.proofs.heads.one.Goals as goal

pub returns-in-Err-clause-only : goal.returns-in-Err-clause-only
returns-in-Err-clause-only c = declarator_missing c.args.origin _ (record { typed = c.args.leading.typed; typedef = c.args.leading.typedef }) _ _ c.in-Err.ensures.only

pub value_in-requires-clause-inside : goal.value_in-requires-clause-inside
value_in-requires-clause-inside c =
    let s : Leading = record { typed = c.args.leading.typed; typedef = c.args.leading.typedef } in
    let by = past_is c.args.scope _ s (declarator_of c.in-Ok.found.0) _ c.in-Ok-declare.ensures c.in-Ok.ensures.told in
    subst
    (λ n. c.in-Ok.found.2 ≤ n)
    (from_length c.args.scope c.args.origin
    ∙ sym (ap (λ w. length w.kinds) by ∙ ap (λ ks. length ks) (past_kinds c.args.scope s (declarator_of c.in-Ok.found.0))))
    c.in-Ok.ensures.found.inside

pub returns-in-Ok-value_in : goal.returns-in-Ok-value_in
returns-in-Ok-value_in c =
    let s : Leading = record { typed = c.args.leading.typed; typedef = c.args.leading.typedef } in
    let by = past_is c.args.scope _ s (declarator_of c.in-Ok.found.0) _ c.in-Ok-declare.ensures c.in-Ok.ensures.told in
    record {
      found = one_found c.args.origin _ s _ _ _ c.in-Ok.ensures.found _ by _ _ c.in-Ok-value_in.ensures.found;
      behind = by;
      only = one_same c.args.origin _ s _ _ _ c.in-Ok.ensures.only _ by _ _ c.in-Ok-value_in.ensures.only;
    }

pub returns-clause-only : goal.returns-clause-only
returns-clause-only c =
    let s : Leading = record { typed = c.args.leading.typed; typedef = c.args.leading.typedef } in
    value_missing c.args.origin _ s _ _ _ c.in-Ok.ensures.only _ (past_is c.args.scope _ s (declarator_of c.in-Ok.found.0) _ c.in-Ok-declare.ensures c.in-Ok.ensures.told) _ c.in-Err-value_in.ensures.only
