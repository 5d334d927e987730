-- What is left of a list: tokens that were put in front, and behind them tokens of which none was replaced.
use Rattle.std.specs.Prelude.{List, ◌++◌, map}
use Rattle.tok_data.specs.declared.tokens.OutToken.{OutToken}
use Rattle.macro_expand.specs.declared.types.Marked.{Marked}
use Rattle.macro_expand.specs.Tokens.{plain}

abbrev pub laid : List Marked → List OutToken → List Marked
laid front behind = front ++ map plain behind
