use Rattle.std.proofs.Common.{rules, ◌≡◌, sym, ap, ◌∙◌}
use Rattle.asking.specs.LookUps.{Ends, run_by}
use Rattle.tree_data.specs.Seen.{assertion_of}
use Rattle.elab_state.specs.Doings.{gives}
use Rattle.elab_state.specs.Seen.{context_of, told_of}
use Rattle.elab_state.specs.Wants.{answered}
use Rattle.elab_state.proofs.Runs.{run_then, stops_on}
use Rattle.tree_data.specs.declared.members.Assertion.{out-Assertion}
use Rattle.elab_core.specs.Declarations.{evaluated, keyword, told_of_nothing}
use Rattle.elab_core.specs.Expressions.{assertion}
use Rattle.elab_core.proofs.Headings.{keyword_is}
use Rattle.elab_core.proofs.declarations.assert.Goals as goal

pub returns-in-Ok : goal.returns-in-Ok
returns-in-Ok c =
    let first : run_by (answered (told_of c.args.around.now)) (assertion (context_of c.args.around.now) evaluated (assertion_of c.args.assertion.now) c.args.made.now) ≡ Ends c.asserted.new.made = search rules in
    let is : c.told_of_nothing.result ≡ told_of_nothing (out-Assertion c.args.assertion.now).keyword = search rules in
    run_then (answered (told_of c.args.around.now)) (assertion (context_of c.args.around.now) evaluated (assertion_of c.args.assertion.now) c.args.made.now) (λ now. gives (told_of_nothing (keyword (assertion_of c.args.assertion.now))) now) c.asserted.new.made first ∙ ap (λ k. Ends (told_of_nothing k, c.asserted.new.made)) (keyword_is c.args.assertion.now) ∙ ap (λ d. Ends (d, c.asserted.new.made)) (sym is)

pub returns-in-Err : goal.returns-in-Err
returns-in-Err c =
    stops_on (answered (told_of c.args.around.now)) (assertion (context_of c.args.around.now) evaluated (assertion_of c.args.assertion.now) c.args.made.now) (λ now. gives (told_of_nothing (keyword (assertion_of c.args.assertion.now))) now) c.in-Err.halt c.in-Err.ensures
