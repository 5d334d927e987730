use Rattle.std.proofs.Common.{◌≡◌, ◌≤◌, length}
use denote.Text.{Utf8}
use denote.Shadow.{shadow}
use Rattle.project_conf.specs.Parting.{words_of}
use Rattle.project_conf.proofs.command_words.behind_spaces.Given as goal

abbrev pub invariant-loop-c : goal.invariant-loop-c
invariant-loop-c l = shadow (Utf8 l.rest) × (words_of l.rest ≡ words_of l.text) × (length l.rest ≤ length l.text)

abbrev pub decreases-loop-c : goal.decreases-loop-c
decreases-loop-c l = length l.rest
