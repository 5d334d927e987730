use Rattle.std.proofs.Common.{sym, ap}
use Rattle.elab_core.specs.Ends.{behind_ends}
use Rattle.elab_core.proofs.Layers.{suffix_call, suffix_call_with, suffix_index, suffix_member, suffix_step}
use Rattle.elab_core.proofs.ends.suffix_ends.Goals as goal

pub returns-in-Index : goal.returns-in-Index
returns-in-Index c = sym (ap behind_ends (suffix_index c.args.suffix.now c.in-Index.field-0 c.in-Index.field-1 c.in-Index.closing c.in-Index.is))

pub returns-in-Call : goal.returns-in-Call
returns-in-Call c = sym (ap behind_ends (suffix_call c.args.suffix.now c.in-Call.field-0 c.in-Call.closing c.in-Call.is))

pub returns-in-CallWith : goal.returns-in-CallWith
returns-in-CallWith c = sym (ap behind_ends (suffix_call_with c.args.suffix.now c.in-CallWith.field-0 c.in-CallWith.field-1 c.in-CallWith.field-2 c.in-CallWith.closing c.in-CallWith.is))

pub returns-in-Member : goal.returns-in-Member
returns-in-Member c = sym (ap behind_ends (suffix_member c.args.suffix.now c.in-Member.field-0 c.in-Member.name c.in-Member.is))

pub returns-in-Step : goal.returns-in-Step
returns-in-Step c = sym (ap behind_ends (suffix_step c.args.suffix.now c.in-Step.at c.in-Step.is))
