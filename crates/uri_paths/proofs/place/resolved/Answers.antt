use Rattle.std.proofs.Common.{ap, sym, ◌∙◌, subst, All}
use Rattle.std.specs.Prelude.{option_map}
use Rattle.uri_paths.specs.Named.{IsComponent}
use Rattle.uri_paths.specs.Paths.{is_absolute}
use Rattle.uri_paths.proofs.Walks.{walked_to, texts}
use Rattle.uri_paths.proofs.place.resolved.Goals as goal

pub from_names-requires : goal.from_names-requires
from_names-requires c =
    let found = sym (ap (option_map (λ names. texts names.items)) c.in-Some.is) ∙ c.in_ok-names.ensures in
    subst (λ names. All IsComponent (texts names)) (sym c.deref.ensures.value) (walked_to (texts c.args.folder.items) _ _ c.args.name.now (is_absolute c.args.name.now) c.requires c.start_of.ensures found)
