use Rattle.std.proofs.Common.{true, ◌≡◌, rules, sym, subst}
use Rattle.asking.specs.Asking.{Gives}
use Rattle.asking.specs.LookUps.{Ends, run_by}
use Rattle.elab_core.specs.Declarations.{declaration}
use Rattle.elab_core.specs.declared.declarations.Declaration.{Declaration}
use Rattle.elab_state.specs.declared.made.Made.{Made}
use Rattle.elab_state.proofs.Runs.{stops_on}
use Rattle.elab_state.specs.Seen.{context_of, told_of}
use Rattle.elab_state.specs.Wants.{answered}
use Rattle.stmt_checks.specs.Acting as spec
use Rattle.stmt_checks.specs.Acting.{tested_for}
use Rattle.stmt_checks.specs.Moves.{Moves}
use Rattle.stmt_checks.proofs.Moving.{moves_on, quiet}
use Rattle.stmt_checks.proofs.acting.declare_in_for.Goals as goal
use Rattle.tree_data.specs.Heads.{heading_of}

pub returns-in-Err : goal.returns-in-Err
returns-in-Err c =
    stops_on (answered (told_of c.args.around.now)) (declaration (context_of c.args.around.now) true (heading_of c.args.head.now) c.args.standing.now.made) (λ r. Gives (tested_for c.args.standing.now r))
    c.in-Err.stop c.in-Err.ensures

pub returns : goal.returns
returns c =
    let answers = told_of c.args.around.now in
    let asked = declaration (context_of c.args.around.now) true (heading_of c.args.head.now) c.args.standing.now.made in
    let st = c.args.standing.now in
    let came : Declaration × Made = (c.in-Ok.declaration, c.declare_in.new.made) in
    let first : run_by (answered answers) asked ≡ Ends came = search rules in
    subst (λ r. Moves answers (spec.declared_in_for (context_of c.args.around.now) (heading_of c.args.head.now) st) r c.test_for.new.standing) (sym c.halt.ensures)
    (moves_on answers asked (λ r. Gives (tested_for st r)) came _ c.test_for.new.standing first
    (quiet answers (tested_for st came) c.test_for.new.standing c.test_for.result c.test_for.ensures))
