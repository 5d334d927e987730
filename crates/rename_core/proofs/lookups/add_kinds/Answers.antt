use Rattle.std.proofs.Common.{sym, ◌∙◌}
use Rattle.rename_core.specs.Kept.{at}
use Rattle.rename_core.proofs.LookupLemmas.{is_there, is_put}
use Rattle.rename_core.proofs.lookups.add_kinds.Goals as goal

pub returns-then-has_kinds : goal.returns-then-has_kinds
returns-then-has_kinds c = λ q. is_there (at c.args.told.now) c.args.one.now.file c.args.one.now.kinds (sym c.has_kinds.ensures ∙ c.if-has_kinds.true) q

pub returns : goal.returns
returns c =
    λ q. is_put (at c.args.told.now) (at c.put_kinds.new.told) c.args.one.now.file c.args.one.now.kinds (sym c.has_kinds.ensures ∙ c.if-has_kinds.false) c.in_ok-put_kinds.ensures q
