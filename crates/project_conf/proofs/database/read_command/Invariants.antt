use Rattle.std.proofs.Common.{◌≡◌, ◌++◌, length}
use denote.Text.{Utf8}
use denote.Shadow.{shadow}
use Rattle.project_conf.specs.Parting.{words_of}
use Rattle.project_conf.specs.Settings.{settings_from, folders_of, defines_of, folders_said, defines_said}
use Rattle.project_conf.proofs.database.read_command.Given as goal

abbrev pub invariant-loop-word : goal.invariant-loop-word
invariant-loop-word l =
    shadow (Utf8 l.rest)
    × (l.settings.includes.items ++ folders_of l.fn.directory (settings_from l.settings.waiting (words_of l.rest)) ≡ folders_said l.fn.directory (words_of l.command))
    × (l.settings.defines.items ++ defines_of (settings_from l.settings.waiting (words_of l.rest)) ≡ defines_said (words_of l.command))
    × (l.directory ≡ l.fn.directory)

abbrev pub decreases-loop-word : goal.decreases-loop-word
decreases-loop-word l = length l.rest
