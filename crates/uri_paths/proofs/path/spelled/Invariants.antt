use Rattle.std.proofs.Common.{◌≡◌, ◌++◌, drop, map}
use Rattle.std.specs.String.{string_bytes}
use Rattle.uri_paths.specs.Paths.{spelled}
use Rattle.uri_paths.proofs.path.spelled.Given as goal

abbrev pub invariant-loop-name : goal.invariant-loop-name
invariant-loop-name l = string_bytes l.text ++ spelled (map (λ name. name.now) (drop l.name-index l.names)) ≡ spelled (map (λ name. name.now) l.names)
