use Rattle.std.proofs.Common.{◌≡◌, drop, map}
use Rattle.std.specs.List.{find}
use Rattle.std.specs.Option.{option_and_then}
use Rattle.include_units.specs.Inclusion.{library_of}
use Rattle.include_units.specs.Named.{is_named}
use Rattle.include_units.proofs.named.library_among.Given as goal

abbrev pub invariant-loop-header : goal.invariant-loop-header
invariant-loop-header l =
    option_and_then library_of (find (is_named l.name) (map (λ h. h.now) (drop l.header-index l.headers)))
    ≡ option_and_then library_of (find (is_named l.name) (map (λ h. h.now) l.headers))
