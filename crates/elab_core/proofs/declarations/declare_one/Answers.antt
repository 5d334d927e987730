use Rattle.std.proofs.Common.{rules, ◌≡◌}
use Rattle.asking.specs.LookUps.{Ends, run_by}
use Rattle.tree_data.specs.Heads.{declared_one}
use Rattle.tree_data.specs.Seen.{declarator_of, specs_of}
use Rattle.elab_state.specs.Seen.{context_of, told_of}
use Rattle.elab_state.specs.Wants.{answered}
use Rattle.elab_state.proofs.Runs.{comes_on, stops_on}
use Rattle.elab_core.specs.Declarations.{declaring, named}
use Rattle.elab_core.specs.Ends.{name_of, specifiers_begin}
use Rattle.elab_core.specs.Expressions.{derived_by}
use Rattle.elab_core.proofs.declarations.declare_one.Goals as goal

pub returns-in-Err : goal.returns-in-Err
returns-in-Err c =
    stops_on (answered (told_of c.args.around.now)) (derived_by (context_of c.args.around.now) (declaring c.args.body) (specifiers_begin (specs_of c.args.specs.now)) c.args.typed.now (declarator_of c.args.pair.now.0) c.args.made.now) (λ r. named (context_of c.args.around.now) (specs_of c.args.specs.now) c.args.gathered.now c.args.body (declared_one c.args.pair.now).1 (name_of (declared_one c.args.pair.now).0) r.0 c.args.walked.now r.1) c.in-Err.halt c.in-Err.ensures

pub returns : goal.returns
returns c =
    let first : run_by (answered (told_of c.args.around.now)) (derived_by (context_of c.args.around.now) (declaring c.args.body) (specifiers_begin (specs_of c.args.specs.now)) c.args.typed.now (declarator_of c.args.pair.now.0) c.args.made.now) ≡ Ends (c.in-Ok.own, c.derive.new.made) = search rules in
    comes_on (told_of c.args.around.now) (derived_by (context_of c.args.around.now) (declaring c.args.body) (specifiers_begin (specs_of c.args.specs.now)) c.args.typed.now (declarator_of c.args.pair.now.0) c.args.made.now) (λ r. named (context_of c.args.around.now) (specs_of c.args.specs.now) c.args.gathered.now c.args.body (declared_one c.args.pair.now).1 (name_of (declared_one c.args.pair.now).0) r.0 c.args.walked.now r.1) (λ _. c.declare_derived.new.walked) (c.in-Ok.own, c.derive.new.made) c.declare_derived.result c.declare_derived.new.made first c.declare_derived.ensures
