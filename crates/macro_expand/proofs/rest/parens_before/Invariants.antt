use Rattle.std.proofs.Common.{◌≡◌, ◌≤◌, ◌+◌, length}
use Rattle.macro_expand.specs.Ties.Parens.{all_before}
use Rattle.macro_expand.proofs.rest.parens_before.Given as goal

abbrev pub invariant-tokens : goal.invariant-tokens
invariant-tokens l = record {
  goes : all_before l.front l.parens ≡ all_before l.list l.fn.parens;
  free : l.parens.0 + length l.front ≤ l.fn.parens.0 + length l.list;
}

abbrev pub decreases-tokens : goal.decreases-tokens
decreases-tokens l = length l.front
