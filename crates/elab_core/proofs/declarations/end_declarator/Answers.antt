use Rattle.std.proofs.Common.{rules, ◌≡◌, sym, ap, ◌∙◌, option_map}
use Rattle.asking.specs.LookUps.{Ends, run_by}
use Rattle.tree_data.specs.Seen.{initial_of}
use Rattle.elab_state.specs.Doings.{gives}
use Rattle.elab_state.specs.Seen.{context_of, told_of}
use Rattle.elab_state.specs.Wants.{answered}
use Rattle.elab_state.proofs.Runs.{run_then, stops_on}
use Rattle.elab_core.specs.Declarations.{declarator_more, initialized_by}
use Rattle.elab_core.proofs.declarations.end_declarator.Goals as goal

pub returns-in-Ok-initialize : goal.returns-in-Ok-initialize
returns-in-Ok-initialize c =
    let first : run_by (answered (told_of c.args.around.now)) (initialized_by (context_of c.args.around.now) (option_map initial_of c.args.init.now) c.args.entity c.args.made.now) ≡ Ends c.initialize.new.made = search rules in
    let is : c.add_declarator.new.walked ≡ declarator_more (context_of c.args.around.now) c.args.decl.now c.args.entity c.args.walked.now = search rules in
    run_then (answered (told_of c.args.around.now)) (initialized_by (context_of c.args.around.now) (option_map initial_of c.args.init.now) c.args.entity c.args.made.now) (λ now. gives (declarator_more (context_of c.args.around.now) c.args.decl.now c.args.entity c.args.walked.now) now) c.initialize.new.made first ∙ ap (λ v. Ends (v, c.initialize.new.made)) (sym is)

pub returns-in-Err : goal.returns-in-Err
returns-in-Err c =
    stops_on (answered (told_of c.args.around.now)) (initialized_by (context_of c.args.around.now) (option_map initial_of c.args.init.now) c.args.entity c.args.made.now) (λ now. gives (declarator_more (context_of c.args.around.now) c.args.decl.now c.args.entity c.args.walked.now) now) c.in-Err.halt c.in-Err.ensures
