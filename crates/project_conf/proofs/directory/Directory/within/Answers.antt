use Rattle.std.proofs.Common.{rules, ◌≡◌, ap, ◌∙◌}
use Rattle.uri_paths.specs.Paths.{within}
use Rattle.project_conf.proofs.KnownLemmas.{kept_means}
use Rattle.project_conf.proofs.directory.Directory.within.Goals as goal

pub returns-in-Some-clause-path : goal.returns-in-Some-clause-path
returns-in-Some-clause-path c =
    let same : c.self.inside.path ≡ c.args.self.now = search rules in
    kept_means (within c.self.inside.path) c.args.text.now _ c.in-Some.path.now c.in_ok-path.path (c.self.invariant.0 c.args.text.now) c.in-Some.ensures.value c.in_ok-path.ensures ∙ ap (λ d. within d c.args.text.now) same
