-- The expansion of a list of which no more than so many tokens are wanted.
use Rattle.std.specs.Prelude.{ℕ, take, slice_get, option_map}
use Rattle.macro_expand.specs.declared.types.Expanded.{Expanded}
use Rattle.macro_expand.specs.declared.types.Within.{Within}

-- the first tokens of an expansion, and the site of the first one behind them
abbrev pub within : ℕ → Expanded → Within
within room e = record {
  expanded = record e { tokens = take room e.tokens };
  left_out = option_map (λ t. t.site) (slice_get e.tokens room);
}
