use Rattle.std.proofs.Common.{◌≡◌, None, Some, rules, sym, ◌∙◌}
use Rattle.include_units.specs.Named.{library_named}
use Rattle.include_units.proofs.NamedLemmas.{command_named, header_named, none_named}
use Rattle.include_units.proofs.named.tokens_named.Goals as goal

pub returns-then-eq : goal.returns-then-eq
returns-then-eq c = command_named c.args.defines.now c.args.name.now c.in_ok-tokens.tokens (sym c.eq.ensures ∙ c.if-eq.true) c.in_ok-tokens.ensures

pub returns-in_ok-tokens-in-Some : goal.returns-in_ok-tokens-in-Some
returns-in_ok-tokens-in-Some c =
    let found : Some c.in-Some.text.now ≡ library_named c.args.name.now = search rules in
    header_named c.args.defines.now c.args.name.now c.in-Some.text.now c.in_ok-tokens-in-Some.tokens (sym c.eq.ensures ∙ c.if-eq.false) found c.in_ok-tokens-in-Some.ensures

pub returns-in-None : goal.returns-in-None
returns-in-None c =
    let found : None ≡ library_named c.args.name.now = search rules in
    none_named c.args.defines.now c.args.name.now (sym c.eq.ensures ∙ c.if-eq.false) found
