use Rattle.std.proofs.Common.{All, sym, ◌∙◌, ap, subst}
use Rattle.uri_paths.specs.Named.{IsComponent}
use Rattle.uri_paths.specs.Paths.{components}
use Rattle.uri_paths.proofs.Spelled.{path_components}
use Rattle.uri_paths.proofs.place.within.Goals as goal

pub resolved-requires : goal.resolved-requires
resolved-requires c =
    subst (All IsComponent) (sym (c.in_ok-folder.ensures ∙ ap components c.as_str.ensures.text)) (path_components c.args.folder.now c.as_str.ensures.path)
