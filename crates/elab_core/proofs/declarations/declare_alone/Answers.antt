use Rattle.std.proofs.Common.{rules, ◌≡◌, sym, ap, ◌∙◌}
use Rattle.asking.specs.LookUps.{Ends, run_by}
use Rattle.elab_state.specs.Doings.{gives}
use Rattle.elab_state.specs.Seen.{context_of, told_of}
use Rattle.elab_state.specs.Wants.{answered}
use Rattle.elab_state.proofs.Runs.{run_then, stops_on}
use Rattle.elab_core.specs.Alone.{alone}
use Rattle.elab_core.specs.Declarations.{told_of_nothing}
use Rattle.elab_core.proofs.declarations.declare_alone.Goals as goal

pub returns-in-Ok : goal.returns-in-Ok
returns-in-Ok c =
    let first : run_by (answered (told_of c.args.around.now)) (alone (context_of c.args.around.now) c.args.keyword c.args.at c.args.made.now) ≡ Ends c.declare_tag.new.made = search rules in
    let is : c.told_of_nothing.result ≡ told_of_nothing c.args.keyword = search rules in
    run_then (answered (told_of c.args.around.now)) (alone (context_of c.args.around.now) c.args.keyword c.args.at c.args.made.now) (λ now. gives (told_of_nothing c.args.keyword) now) c.declare_tag.new.made first ∙ ap (λ d. Ends (d, c.declare_tag.new.made)) (sym is)

pub returns-in-Err : goal.returns-in-Err
returns-in-Err c =
    stops_on (answered (told_of c.args.around.now)) (alone (context_of c.args.around.now) c.args.keyword c.args.at c.args.made.now) (λ now. gives (told_of_nothing c.args.keyword) now) c.in-Err.halt c.in-Err.ensures
