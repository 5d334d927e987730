use Rattle.std.proofs.Common.{sym, subst}
use Rattle.doc_texts.specs.Edited.{CanAllBeMade}
use Rattle.plain_mean.proofs.Ranging.{after_is, units_are}
use Rattle.plain_mean.proofs.ranges.texts_after.Goals as goal

pub edited-requires-clause-can : goal.edited-requires-clause-can
edited-requires-clause-can c = subst (CanAllBeMade c.args.docs.now) (sym c.as_slice.ensures.value) (c.in_ok-edits.ensures.can c.requires.texts c.requires.order)

pub returns-clause-edited : goal.returns-clause-edited
returns-clause-edited c =
    after_is c.args.docs.now c.args.toks.now c.in_ok-edits.edits.items c.as_slice.result.now c.args.new_name.now c.in_ok-edited.edited c.in_ok-edited.ensures c.as_slice.ensures.value
    c.in_ok-edits.ensures.edits c.edited_as_meant.ensures

pub returns-clause-units : goal.returns-clause-units
returns-clause-units c = λ conf.
    units_are c.args.docs.now c.in_ok-edited.edited c.as_slice.result.now c.args.new_name.now conf c.in_ok-edited.ensures c.edits_follow.ensures.held c.edits_follow.ensures.version c.units_follow.ensures
