use Rattle.std.proofs.Common.{◌≡◌, ◌≤◌, [], length}
use denote.Text.{Utf8}
use denote.Shadow.{shadow}
use Rattle.std.specs.Str.{chars}
use Rattle.std.specs.String.{string_bytes}
use Rattle.project_conf.specs.Parting.{parted, all_behind}
use Rattle.project_conf.specs.declared.parting.Mode.TheVariants.{Plain}
use Rattle.project_conf.proofs.command_words.word_from.Given as goal

abbrev pub invariant-word : goal.invariant-word
invariant-word l =
    shadow (Utf8 l.rest) × (all_behind (string_bytes l.word) (parted l.mode (chars l.rest)) ≡ all_behind [] (parted Plain (chars l.text)))
    × (length l.rest ≤ length l.text)

abbrev pub decreases-word : goal.decreases-word
decreases-word l = length l.rest
