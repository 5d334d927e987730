use Rattle.std.proofs.Common.{◌≡◌, All, sym, ◌∙◌, ap, subst, Some}
use Rattle.std.proofs.lemmas.Bool.{cond-true, cond-false}
use Rattle.uri_paths.specs.Named.{IsComponent}
use Rattle.uri_paths.specs.Paths.{components, path_of_names}
use Rattle.uri_paths.specs.Uris.{has_dots}
use Rattle.uri_paths.proofs.Walks.{texts}
use Rattle.uri_paths.proofs.Decoded.{no_utf8, path_text, undotted_components}
use Rattle.uri_paths.proofs.uri.path_from_bytes.Goals as goal

pub returns-in_default : goal.returns-in_default
returns-in_default c = sym (cond-false _ _ _ (no_utf8 c.args.bytes.now c.in_default.ensures.cases.0))

pub from_names-requires : goal.from_names-requires
from_names-requires c =
    let lent : c.in-Ok.text.now ≡ c.args.bytes.now = c.in-Ok.ensures.cases.0 in
    let dots = sym c.has_dots.ensures ∙ c.if-has_dots.false in
    subst (λ names. All IsComponent (texts names)) (sym c.deref.ensures.value) (subst (All IsComponent) (sym c.in_ok-names.ensures) (undotted_components c.in-Ok.text.now dots))

pub returns : goal.returns
returns c =
    let lent : c.in-Ok.text.now ≡ c.args.bytes.now = c.in-Ok.ensures.cases.0 in
    let dots = sym (ap has_dots lent) ∙ sym c.has_dots.ensures ∙ c.if-has_dots.false in
    let is = path_text c.args.bytes.now c.in-Ok.ensures.cases.1 (sym c.contains.ensures.value ∙ c.if-contains.false) dots in
    ap Some (c.in_ok-from_names.ensures ∙ ap (λ names. path_of_names (texts names)) c.deref.ensures.value ∙ ap path_of_names (c.in_ok-names.ensures ∙ ap components lent)) ∙ sym (cond-true _ _ _ is)
