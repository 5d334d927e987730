use Rattle.std.proofs.Common.{rules, ◌≡◌}
use Rattle.asking.specs.LookUps.{Ends, run_by}
use Rattle.tree_data.specs.Heads.{declared_of}
use Rattle.tree_data.specs.Seen.{specs_of}
use Rattle.elab_state.specs.Seen.{context_of, told_of}
use Rattle.elab_state.specs.Wants.{answered}
use Rattle.elab_state.proofs.Runs.{comes_on, stops_on}
use Rattle.elab_core.specs.Declarations.{declarators, evaluated, typed_in}
use Rattle.elab_core.specs.Expressions.{based}
use Rattle.elab_core.proofs.declarations.declare_specified.Goals as goal

pub returns-in-Err : goal.returns-in-Err
returns-in-Err c =
    stops_on (answered (told_of c.args.around.now)) (based (context_of c.args.around.now) evaluated (specs_of c.args.head.now.specs) c.args.made.now) (λ r. declarators (context_of c.args.around.now) (specs_of c.args.head.now.specs) (declared_of c.args.head.now.declarators.items) c.args.head.now.has_body r.0.0 (typed_in c.args.in_for r.0.0 r.0.1) r.1) c.in-Err.halt c.in-Err.ensures

pub returns : goal.returns
returns c =
    let first : run_by (answered (told_of c.args.around.now)) (based (context_of c.args.around.now) evaluated (specs_of c.args.head.now.specs) c.args.made.now) ≡ Ends (c.in-Ok.done, c.based.new.made) = search rules in
    comes_on (told_of c.args.around.now) (based (context_of c.args.around.now) evaluated (specs_of c.args.head.now.specs) c.args.made.now) (λ r. declarators (context_of c.args.around.now) (specs_of c.args.head.now.specs) (declared_of c.args.head.now.declarators.items) c.args.head.now.has_body r.0.0 (typed_in c.args.in_for r.0.0 r.0.1) r.1) (λ d. d) (c.in-Ok.done, c.based.new.made) c.declare_listed.result c.declare_listed.new.made first c.declare_listed.ensures
