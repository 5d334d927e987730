use Rattle.std.proofs.Common.{◌∙◌}
use Rattle.std.specs.Prelude.{map}
use Rattle.std.specs.List.{filter}
use Rattle.unit_index.specs.Symbols.{in_file}
use Rattle.unit_index.proofs.SymbolLemmas.{symbols_have}
use Rattle.unit_index.proofs.outline.in_file.Goals as goal

pub returns : goal.returns
returns c =
    c.in_ok-list.ensures (map (λ s. s.tok) (filter (in_file c.args.path.now) c.args.symbols.now))
    (λ q. c.in_ok-tokens.ensures q ∙ symbols_have c.args.path.now q c.args.symbols.now)
