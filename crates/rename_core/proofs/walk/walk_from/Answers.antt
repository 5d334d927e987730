use Rattle.std.proofs.Common.{rules, ◌≡◌, Some, None}
use Rattle.std.specs.List.{slice_get}
use Rattle.rename_core.specs.Ties.Lists.{listed}
use Rattle.rename_core.specs.Mentions.{same_denoted}
use Rattle.scope_tables.specs.Occurrences.{same_tok}
use Rattle.rename_core.proofs.GoingLemmas.{begins_so, turns_so, ends_so}
use Rattle.rename_core.proofs.walk.walk_from.Goals as goal

pub toks-init : goal.toks-init
toks-init c = begins_so (listed same_tok c.args.told.now) (listed same_denoted c.args.mentioned.now) c.args.tok.now _ _ _ c.new-walk.ensures c.list_of.ensures c.in_ok-steps.ensures

pub toks-preserved : goal.toks-preserved
toks-preserved c =
    let here : slice_get c.toks.walk.toks c.toks.place ≡ Some c.in-Some.next = search rules in
    turns_so (listed same_tok c.args.told.now) (listed same_denoted c.args.mentioned.now) c.args.tok.now c.toks.place c.toks.walk _ c.in-Some.next _
    c.toks.invariant here c.list_of-in-toks.ensures c.in_ok-steps-2.ensures

pub returns-in_default : goal.returns-in_default
returns-in_default c =
    let none : slice_get c.toks.walk.toks c.toks.place ≡ None = search rules in
    ends_so (listed same_tok c.args.told.now) (listed same_denoted c.args.mentioned.now) c.args.tok.now c.toks.place c.toks.walk c.toks.invariant none
