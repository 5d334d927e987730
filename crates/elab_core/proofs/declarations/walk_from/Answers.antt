use Rattle.std.proofs.Common.{rules, ◌≡◌, sym, ap, ◌∙◌}
use Rattle.asking.specs.LookUps.{Ends, run_by}
use Rattle.tree_data.specs.Heads.{declared_of}
use Rattle.tree_data.specs.Seen.{specs_of}
use Rattle.elab_state.specs.Doings.{gives}
use Rattle.elab_state.specs.Seen.{context_of, told_of}
use Rattle.elab_state.specs.Wants.{answered}
use Rattle.elab_state.proofs.Runs.{run_then, stops_on}
use Rattle.elab_core.specs.Declarations.{all, told}
use Rattle.elab_core.proofs.declarations.walk_from.Goals as goal

pub returns-in-Ok : goal.returns-in-Ok
returns-in-Ok c =
    let first : run_by (answered (told_of c.args.around.now)) (all (context_of c.args.around.now) (specs_of c.args.specs.now) c.args.gathered.now c.args.typed.now c.args.body (declared_of c.args.pairs.now) c.args.walked c.args.made.now) ≡ Ends (c.declare_all.new.walked, c.declare_all.new.made) = search rules in
    let is : c.told.result ≡ told (specs_of c.args.specs.now) c.args.gathered.now c.declare_all.new.walked = search rules in
    run_then (answered (told_of c.args.around.now)) (all (context_of c.args.around.now) (specs_of c.args.specs.now) c.args.gathered.now c.args.typed.now c.args.body (declared_of c.args.pairs.now) c.args.walked c.args.made.now) (λ r. gives (told (specs_of c.args.specs.now) c.args.gathered.now r.0) r.1) (c.declare_all.new.walked, c.declare_all.new.made) first ∙ ap (λ d. Ends (d, c.declare_all.new.made)) (sym is)

pub returns-in-Err : goal.returns-in-Err
returns-in-Err c =
    stops_on (answered (told_of c.args.around.now)) (all (context_of c.args.around.now) (specs_of c.args.specs.now) c.args.gathered.now c.args.typed.now c.args.body (declared_of c.args.pairs.now) c.args.walked c.args.made.now) (λ r. gives (told (specs_of c.args.specs.now) c.args.gathered.now r.0) r.1) c.in-Err.halt c.in-Err.ensures
