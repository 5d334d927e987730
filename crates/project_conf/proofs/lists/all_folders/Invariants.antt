use Rattle.std.proofs.Common.{◌≡◌, ◌++◌, length, option_map}
use denote.Text.{Utf8}
use denote.Shadow.{shadow}
use Rattle.project_conf.specs.Lists.{all_said, parts_of, colon, folder_in}
use Rattle.project_conf.proofs.lists.all_folders.Given as goal

abbrev pub invariant-parts : goal.invariant-parts
invariant-parts l =
    shadow (Utf8 l.rest)
    × (option_map (λ xs. l.folders.items ++ xs) (all_said folder_in (parts_of colon l.rest)) ≡ all_said folder_in (parts_of colon l.list))

abbrev pub decreases-parts : goal.decreases-parts
decreases-parts l = length l.rest
