use Rattle.std.proofs.Common.{rules, ◌≡◌, ◌++◌}
use Rattle.project_conf.proofs.Joined.{both_usable}
use Rattle.project_conf.proofs.entries.joined.Goals as goal

pub returns-clause-usable : goal.returns-clause-usable
returns-clause-usable c =
    let same : c.in_ok-defines.defines ≡ c.args.conf.now.defines ++ c.args.entry.now.defines = search rules in
    λ h k. both_usable _ _ _ h k same
