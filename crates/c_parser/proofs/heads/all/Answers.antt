use Rattle.std.proofs.Common.{◌∙◌, sym}
use Rattle.c_parser.proofs.HeadLists.{reading_start_with, all_fails, code_turn, code_found, code_past, code_same}
use Rattle.c_parser.proofs.heads.all.Goals as goal

pub declarators-init : goal.declarators-init
declarators-init c = reading_start_with c.args.origin _ _ _ _ c.new-list.ensures.items c.requires.inside

pub returns-in-Err : goal.returns-in-Err
returns-in-Err c = record { found = tt; past = tt; only = all_fails c.args.origin _ _ _ _ _ _ _ c.declarators.invariant _ c.in-Err.ensures.only }

pub returns-in_default-at : goal.returns-in_default-at
returns-in_default-at c =
    let more = c.in-Ok-push.ensures.items in
    record {
      found = code_found c.args.origin _ _ _ _ _ _ _ _ c.declarators.invariant _ _ c.in-Ok.ensures.found more;
      past = code_past c.args.origin _ _ _ _ _ _ _ _ c.declarators.invariant _ _ c.in-Ok.ensures.behind more;
      only =
          code_same
          c.args.origin
          _
          _
          _
          _
          _
          _
          _
          _
          c.declarators.invariant
          _
          _
          c.in-Ok.ensures.only
          _
          c.in-Ok.ensures.behind
          more
          (λ k. c.in_default-at.not-Comma (c.at.ensures.kind ∙ k));
    }

pub declarators-preserved : goal.declarators-preserved
declarators-preserved c =
    code_turn
    c.args.origin
    _
    _
    _
    _
    _
    _
    _
    _
    c.declarators.invariant
    _
    _
    c.in-Ok.ensures.found
    c.in-Ok.ensures.only
    _
    c.in-Ok.ensures.behind
    c.in-Ok-push.ensures.items
    (sym c.in-Comma.ensures.kind)
    c.in-Comma.ensures.inside
