-- Where no token is `defined` what is expanded are the tokens themselves.
use Rattle.std.specs.FinMap as map
use Rattle.std.proofs.Common.{sym, ◌∙◌}
use Rattle.pp_cond.proofs.Pieces.{prepared_same}
use Rattle.pp_cond.proofs.deciding.expansion.Goals as goal

pub returns-then-not-mentions_defined : goal.returns-then-not-mentions_defined
returns-then-not-mentions_defined c =
    rw (prepared_same (map.get c.args.table.now) c.args.tokens.now (sym c.mentions_defined.ensures ∙ c.if-not-mentions_defined.true)) c.expand.ensures
