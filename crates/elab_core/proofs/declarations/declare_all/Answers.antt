use Rattle.std.proofs.Common.{rules, ◌≡◌, sym, ◌∙◌}
use Rattle.asking.specs.Asking.{and_then}
use Rattle.asking.specs.LookUps.{Ends, run_by}
use Rattle.tree_data.specs.Heads.{declared_of, declared_one}
use Rattle.tree_data.specs.Seen.{specs_of}
use Rattle.elab_state.specs.Seen.{context_of, told_of}
use Rattle.elab_state.specs.Wants.{answered}
use Rattle.elab_state.proofs.Runs.{run_then, stops_as, stops_on}
use Rattle.elab_core.specs.Declarations.{all, one}
use Rattle.elab_core.proofs.declarations.declare_all.Goals as goal

pub returns-in-Err : goal.returns-in-Err
returns-in-Err c =
    let look = answered (told_of c.args.around.now) in
    let ctx = context_of c.args.around.now in
    let ss = specs_of c.args.specs.now in
    let here : run_by look (all ctx ss c.args.gathered.now c.args.typed.now c.args.body (declared_of c.args.pairs.now) c.args.walked.now c.args.made.now) ≡ run_by look (and_then (one ctx ss c.args.gathered.now c.args.typed.now c.args.body (declared_one c.in-Some.pair.now) c.pairs.walked c.pairs.made) (λ r. all ctx ss c.args.gathered.now c.args.typed.now c.args.body (declared_of c.in-Some.others.now) r.0 r.1)) = search rules in
    stops_as (run_by look (all ctx ss c.args.gathered.now c.args.typed.now c.args.body (declared_of c.args.pairs.now) c.args.walked.now c.args.made.now)) (run_by look (and_then (one ctx ss c.args.gathered.now c.args.typed.now c.args.body (declared_one c.in-Some.pair.now) c.pairs.walked c.pairs.made) (λ r. all ctx ss c.args.gathered.now c.args.typed.now c.args.body (declared_of c.in-Some.others.now) r.0 r.1))) c.in-Err.halt here
    (stops_on look (one ctx ss c.args.gathered.now c.args.typed.now c.args.body (declared_one c.in-Some.pair.now) c.pairs.walked c.pairs.made) (λ r. all ctx ss c.args.gathered.now c.args.typed.now c.args.body (declared_of c.in-Some.others.now) r.0 r.1) c.in-Err.halt c.in-Err.ensures)

pub pairs-preserved : goal.pairs-preserved
pairs-preserved c =
    let look = answered (told_of c.args.around.now) in
    let ctx = context_of c.args.around.now in
    let ss = specs_of c.args.specs.now in
    let here : run_by look (and_then (one ctx ss c.args.gathered.now c.args.typed.now c.args.body (declared_one c.in-Some.pair.now) c.pairs.walked c.pairs.made) (λ r. all ctx ss c.args.gathered.now c.args.typed.now c.args.body (declared_of c.in-Some.others.now) r.0 r.1)) ≡ run_by look (all ctx ss c.args.gathered.now c.args.typed.now c.args.body (declared_of c.args.pairs.now) c.args.walked.now c.args.made.now) = search rules in
    let first : run_by look (one ctx ss c.args.gathered.now c.args.typed.now c.args.body (declared_one c.in-Some.pair.now) c.pairs.walked c.pairs.made) ≡ Ends (c.declare_one.new.walked, c.declare_one.new.made) = search rules in
    sym (run_then look (one ctx ss c.args.gathered.now c.args.typed.now c.args.body (declared_one c.in-Some.pair.now) c.pairs.walked c.pairs.made) (λ r. all ctx ss c.args.gathered.now c.args.typed.now c.args.body (declared_of c.in-Some.others.now) r.0 r.1) (c.declare_one.new.walked, c.declare_one.new.made) first) ∙ here
