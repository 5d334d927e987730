use Rattle.std.proofs.Common.{Some, None, ◌∙◌}
use Rattle.unit_index.specs.Symbols.{is_symbol}
use Rattle.unit_index.proofs.LookLemmas.{found}
use Rattle.unit_index.proofs.outline.first_symbol.Goals as goal

pub returns-in-Some : goal.returns-in-Some
returns-in-Some c = c.symbol_at.ensures ∙ found (is_symbol c.args.tok.now) c.args.symbols.now (Some c.in-Some.place) (c.in-Some.ensures ∙ c.requires c.args.tok.now)

pub returns-in-None : goal.returns-in-None
returns-in-None c = found (is_symbol c.args.tok.now) c.args.symbols.now None (c.in-None.ensures ∙ c.requires c.args.tok.now)
