use Rattle.std.proofs.Common.{◌≡◌, ◌+◌, ◌++◌, length}
use Rattle.text_lines.proofs.Starts.{byte_starts}
use Rattle.text_lines.specs.Positions.{line_starts}
use Rattle.text_lines.proofs.table.LineTable.new.Given as goal

abbrev pub invariant-loop-byte : goal.invariant-loop-byte
invariant-loop-byte l = record {
  made : l.starts.items ++ byte_starts l.at l.rest ≡ line_starts l.text;
  place : l.at + length l.rest ≡ length l.text;
}

abbrev pub decreases-loop-byte : goal.decreases-loop-byte
decreases-loop-byte l = length l.rest
