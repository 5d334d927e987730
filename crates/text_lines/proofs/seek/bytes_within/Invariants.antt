use Rattle.std.proofs.Common.{◌≡◌, ◌+◌, length}
use denote.Text.{Utf8 as IsText}
use denote.Shadow.{shadow}
use Rattle.std.specs.Str.{chars}
use Rattle.text_lines.specs.Lines.{content}
use Rattle.text_lines.specs.Units.{units, fitting}
use Rattle.text_lines.specs.declared.encoding.Encoding.TheVariants.{Utf8}
use Rattle.text_lines.proofs.seek.bytes_within.Given as goal

abbrev pub invariant-loop-c : goal.invariant-loop-c
invariant-loop-c l = record {
  text : shadow (IsText l.rest);
  fits : l.at + units Utf8 (fitting l.encoding l.left (content (chars l.rest))) ≡ units Utf8 (fitting l.encoding l.fn.character (content (chars l.fn.rest)));
  bytes : l.at + length l.rest ≡ length l.fn.rest;
}

abbrev pub decreases-loop-c : goal.decreases-loop-c
decreases-loop-c l = length l.rest
