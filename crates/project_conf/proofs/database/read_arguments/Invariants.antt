use Rattle.std.proofs.Common.{◌≡◌, ◌++◌, map, length, option_map}
use Rattle.serde_json.specs.View.{view, items_of}
use Rattle.project_conf.specs.Settings.{settings_from, folders_of, defines_of, folders_said, defines_said}
use Rattle.project_conf.specs.Database.{texts_in}
use Rattle.project_conf.proofs.database.read_arguments.Given as goal

abbrev pub invariant-loop-argument : goal.invariant-loop-argument
invariant-loop-argument l =
    (option_map (λ words. l.settings.includes.items ++ folders_of l.fn.directory (settings_from l.settings.waiting words)) (texts_in (items_of (map view l.rest))) ≡ option_map (folders_said l.fn.directory) (texts_in (items_of (map view l.arguments))))
    × (option_map (λ words. l.settings.defines.items ++ defines_of (settings_from l.settings.waiting words)) (texts_in (items_of (map view l.rest))) ≡ option_map defines_said (texts_in (items_of (map view l.arguments))))
    × (l.directory ≡ l.fn.directory)

abbrev pub decreases-loop-argument : goal.decreases-loop-argument
decreases-loop-argument l = length l.rest
