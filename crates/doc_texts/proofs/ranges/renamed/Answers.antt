use Rattle.std.proofs.Common.{◌++◌, ◌∙◌, ap, subst, string_bytes}
use Rattle.doc_texts.specs.Edited.{Stand}
use Rattle.doc_texts.proofs.Renamed.{range_step, step_short}
use Rattle.doc_texts.proofs.ranges.renamed.Goals as goal

pub turn-preserved : goal.turn-preserved
turn-preserved c =
    let is = c.in-Some.ensures.cases.0 in
    let both = subst (Stand c.args.text.now c.turn.at) is c.turn.invariant.stand in
    let pushed = c.in_ok-push_part.ensures ∙ ap (λ part. (string_bytes c.turn.made ++ part) ++ c.args.name.now) c.before-in-Some.ensures in
    record {
      same = range_step c.args.name.now c.args.text.now _ _ _ c.in-Some.range.now c.in-Some.behind.now c.turn.rest.now c.turn.at is c.turn.invariant.stand pushed c.turn.invariant.same;
      stand = both.1;
      bound = λ _. both.0.ends;
      within = both.0.ends.0;
      short = step_short c.args.text.now c.args.name.now _ _ c.turn.at c.in-Some.range.now both.0 c.requires.short_name pushed c.turn.invariant.short;
    }
