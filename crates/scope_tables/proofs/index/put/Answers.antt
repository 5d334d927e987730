use Rattle.std.proofs.Common.{arith}
use Rattle.std.proofs.lemmas.Map.Text.{text_keys}
use Rattle.scope_tables.proofs.index.put.Goals as goal

pub returns-clause-put : goal.returns-clause-put
returns-clause-put c = λ q. grind (arith, text_keys)
