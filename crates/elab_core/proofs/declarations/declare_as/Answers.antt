use Rattle.std.proofs.Common.{rules, ◌≡◌, option_map}
use Rattle.asking.specs.LookUps.{Ends, run_by}
use Rattle.tree_data.specs.Seen.{initial_of, specs_of}
use Rattle.elab_state.specs.Seen.{context_of, told_of}
use Rattle.elab_state.specs.Wants.{answered}
use Rattle.elab_state.proofs.Runs.{comes_on, stops_on}
use Rattle.elab_core.specs.Declarations.{with_initial}
use Rattle.elab_core.specs.Declarators.{declarator, places}
use Rattle.elab_core.specs.Ends.{specifiers_begin}
use Rattle.elab_core.proofs.declarations.declare_as.Goals as goal

pub returns-in-Err : goal.returns-in-Err
returns-in-Err c =
    stops_on (answered (told_of c.args.around.now)) (declarator (context_of c.args.around.now) (places (specifiers_begin (specs_of c.args.specs.now)) c.args.gathered.now) c.args.decl.now.at c.args.decl.now c.args.made.now) (λ r. with_initial (context_of c.args.around.now) (option_map initial_of c.args.init.now) c.args.decl.now c.args.walked.now r.0 r.1) c.in-Err.halt c.in-Err.ensures

pub returns : goal.returns
returns c =
    let first : run_by (answered (told_of c.args.around.now)) (declarator (context_of c.args.around.now) (places (specifiers_begin (specs_of c.args.specs.now)) c.args.gathered.now) c.args.decl.now.at c.args.decl.now c.args.made.now) ≡ Ends (c.in-Ok.entity, c.declare_at.new.made) = search rules in
    comes_on (told_of c.args.around.now) (declarator (context_of c.args.around.now) (places (specifiers_begin (specs_of c.args.specs.now)) c.args.gathered.now) c.args.decl.now.at c.args.decl.now c.args.made.now) (λ r. with_initial (context_of c.args.around.now) (option_map initial_of c.args.init.now) c.args.decl.now c.args.walked.now r.0 r.1) (λ _. c.end_declarator.new.walked) (c.in-Ok.entity, c.declare_at.new.made) c.end_declarator.result c.end_declarator.new.made first c.end_declarator.ensures
