use Rattle.std.proofs.Common.{rules, ◌≡◌, ◌∷◌, [], sym, ap, ◌∙◌, Some, None}
use Rattle.asking.specs.Asking.{Gives, and_then}
use Rattle.asking.specs.LookUps.{Ends, run_by}
use Rattle.elab_state.specs.Looks.{Anonymous, At, Deep, look, told}
use Rattle.elab_state.specs.Seen.{context_of, told_of}
use Rattle.elab_state.specs.Wants.{answered}
use Rattle.elab_state.proofs.Runs.{comes_on, leads_on, run_then, stops_as, stops_on}
use Rattle.type_data.specs.declared.members.Space.TheVariants as space
use Rattle.elab_state.specs.Tokens.{spelling}
use Rattle.elab_state.specs.Names.{denoted}
use Rattle.elab_core.specs.Tags.{typedef_found}
use Rattle.elab_core.proofs.tags.typedef_name.Goals as goal

pub returns-in-Err : goal.returns-in-Err
returns-in-Err c = stops_on (answered (told_of c.args.around.now)) (denoted (context_of c.args.around.now) space.Ordinary (spelling (context_of c.args.around.now).tokens c.args.at) c.args.made.now) (λ r. Gives (typedef_found (context_of c.args.around.now) c.args.counted c.args.at r.0 r.1)) c.in-Err.halt c.in-Err.ensures

pub returns-in-Ok-typedef_found : goal.returns-in-Ok-typedef_found
returns-in-Ok-typedef_found c =
    let first : run_by (answered (told_of c.args.around.now)) (denoted (context_of c.args.around.now) space.Ordinary (spelling (context_of c.args.around.now).tokens c.args.at) c.args.made.now) ≡ Ends (c.in-Ok.entity, c.args.made.now) = search rules in
    let is : (c.in-Ok-typedef_found.typed, c.typedef_found.new.made) ≡ typedef_found (context_of c.args.around.now) c.args.counted c.args.at c.in-Ok.entity c.args.made.now = search rules in
    run_then (answered (told_of c.args.around.now)) (denoted (context_of c.args.around.now) space.Ordinary (spelling (context_of c.args.around.now).tokens c.args.at) c.args.made.now) (λ r. Gives (typedef_found (context_of c.args.around.now) c.args.counted c.args.at r.0 r.1)) (c.in-Ok.entity, c.args.made.now) first ∙ ap (λ r. Ends r) (sym is)
