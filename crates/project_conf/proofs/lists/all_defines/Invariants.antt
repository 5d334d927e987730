use Rattle.std.proofs.Common.{◌≡◌, ◌++◌, length, option_map}
use denote.Text.{Utf8}
use denote.Shadow.{shadow}
use Rattle.project_conf.specs.Lists.{all_said, parts_of, semicolon, define_in}
use Rattle.project_conf.proofs.lists.all_defines.Given as goal

abbrev pub invariant-parts : goal.invariant-parts
invariant-parts l =
    shadow (Utf8 l.rest)
    × (option_map (λ xs. l.defines.items ++ xs) (all_said define_in (parts_of semicolon l.rest)) ≡ all_said define_in (parts_of semicolon l.list))

abbrev pub decreases-parts : goal.decreases-parts
decreases-parts l = length l.rest
