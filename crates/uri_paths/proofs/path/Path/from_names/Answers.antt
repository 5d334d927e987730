use Rattle.std.proofs.Common.{[], sym, ◌∙◌, subst}
use Rattle.std.proofs.lemmas.List.Elements.{All-nil}
use Rattle.uri_paths.specs.Paths.{IsPath}
use Rattle.uri_paths.specs.Named.{IsComponent}
use Rattle.uri_paths.proofs.Spelled.{spells_path, spelled_path}
use Rattle.uri_paths.proofs.path.Path.from_names.Goals as goal

pub invariant_of-result : goal.invariant_of-result
invariant_of-result c = subst IsPath (sym c.in_ok-text.ensures) (spells_path [] (All-nil IsComponent))

pub invariant_of-result-2 : goal.invariant_of-result-2
invariant_of-result-2 c =
    let some = spelled_path (λ name. name.now) c.args.names.now (sym c.is_empty.ensures ∙ c.if-is_empty.false) in
    subst IsPath (some ∙ sym c.in_ok-spelled.ensures ∙ sym c.as_str.ensures.value ∙ sym c.in_ok-text-2.ensures) (spells_path _ c.requires)

pub returns : goal.returns
returns c =
    let some = spelled_path (λ name. name.now) c.args.names.now (sym c.is_empty.ensures ∙ c.if-is_empty.false) in
    c.in_ok-text-2.ensures ∙ c.as_str.ensures.value ∙ c.in_ok-spelled.ensures ∙ sym some
