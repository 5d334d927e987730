use Rattle.std.proofs.Common.{rules, ◌≡◌, ◌∷◌, [], sym, ap, ◌∙◌, Some, None}
use Rattle.asking.specs.Asking.{Gives, and_then}
use Rattle.asking.specs.LookUps.{Ends, run_by}
use Rattle.elab_state.specs.Looks.{Anonymous, At, Deep, look, told}
use Rattle.elab_state.specs.Seen.{context_of, told_of}
use Rattle.elab_state.specs.Wants.{answered}
use Rattle.elab_state.proofs.Runs.{comes_on, leads_on, run_then, stops_as, stops_on}
use Rattle.elab_state.specs.Tokens.{spelling}
use Rattle.elab_core.specs.Tags.{keyword_kind, mentioned, tag_found}
use Rattle.elab_core.proofs.tags.tag.Goals as goal

pub returns-in-Err : goal.returns-in-Err
returns-in-Err c = stops_on (answered (told_of c.args.around.now)) (mentioned (context_of c.args.around.now) (spelling (context_of c.args.around.now).tokens c.args.at) c.args.made.now) (λ r. tag_found (context_of c.args.around.now) (keyword_kind (spelling (context_of c.args.around.now).tokens c.args.keyword)) c.args.at r.0 r.1) c.in-Err.halt c.in-Err.ensures

pub returns : goal.returns
returns c =
    let first : run_by (answered (told_of c.args.around.now)) (mentioned (context_of c.args.around.now) (spelling (context_of c.args.around.now).tokens c.args.at) c.args.made.now) ≡ Ends (c.in-Ok.mention, c.args.made.now) = search rules in
    comes_on (told_of c.args.around.now) (mentioned (context_of c.args.around.now) (spelling (context_of c.args.around.now).tokens c.args.at) c.args.made.now) (λ r. tag_found (context_of c.args.around.now) (keyword_kind (spelling (context_of c.args.around.now).tokens c.args.keyword)) c.args.at r.0 r.1) (λ t. t) (c.in-Ok.mention, c.args.made.now) c.tag_behind.result c.tag_behind.new.made first c.tag_behind.ensures
