use Rattle.std.proofs.Common.{◌≡◌, ◌+◌, ◌≤◌, min, true, length}
use Rattle.std.specs.Str.Parse.{digits_value_after}
use Rattle.std.specs.Char.{is_ascii_digit}
use Rattle.std.specs.List.{list_all}
use Rattle.lsp_framing.specs.Lines.{longest_content}
use Rattle.lsp_framing.proofs.lines.number.Given as goal

abbrev pub invariant-loop-digit : goal.invariant-loop-digit
invariant-loop-digit l = record {
  digits : list_all is_ascii_digit l.rest ≡ true;
  most : l.number ≤ longest_content + 1;
  read : min (longest_content + 1) (digits_value_after 10 l.number l.rest) ≡ min (longest_content + 1) (digits_value_after 10 0 l.digits);
}

abbrev pub decreases-loop-digit : goal.decreases-loop-digit
decreases-loop-digit l = length l.rest
