use Rattle.std.proofs.Common.{◌≡◌, All, sym, ◌∙◌, ap, subst}
use Rattle.std.proofs.lemmas.List.Elements.{All-take}
use Rattle.std.specs.Prelude.{IfOk}
use Rattle.uri_paths.specs.Named.{IsComponent}
use Rattle.uri_paths.specs.Paths.{components, above, resolved}
use Rattle.uri_paths.proofs.Spelled.{path_components}
use Rattle.uri_paths.proofs.Walks.{popped}
use Rattle.uri_paths.proofs.place.beside.Goals as goal

pub resolved-requires : goal.resolved-requires
resolved-requires c =
    let names = c.in_ok-folder.ensures ∙ ap components c.as_str.ensures.text in
    subst (All IsComponent) (sym (popped _ _ _ c.in_ok-folder.folder.ok.0 c.pop.ensures.rest ∙ ap above names)) (All-take IsComponent _ _ (path_components c.args.path.now c.as_str.ensures.path))

pub returns : goal.returns
returns c =
    let names = c.in_ok-folder.ensures ∙ ap components c.as_str.ensures.text in
    subst (λ folder. IfOk c.resolved.result (λ path. path ≡ resolved folder c.args.name.now)) (popped _ _ _ c.in_ok-folder.folder.ok.0 c.pop.ensures.rest ∙ ap above names) c.resolved.ensures
