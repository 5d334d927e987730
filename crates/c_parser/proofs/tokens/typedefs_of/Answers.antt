use Rattle.std.proofs.Common.{◌≡◌, ap, sym, ◌∙◌, ◌+◌, ◌∷◌, rules}
use Rattle.c_parser.specs.Noted.{number_in}
use Rattle.c_parser.specs.Tokens.{number_from}
use Rattle.c_parser.proofs.tokens.typedefs_of.Goals as goal

pub names-preserved : goal.names-preserved
names-preserved c text =
    let is : c.names.rest.now ≡ c.in-Some.name.now ∷ c.in-Some.behind.now = search rules in
    let next : c.in-Some-checked_add.next ≡ c.names.number + 1 = search rules in
    ap (λ n. number_from n (number_in c.put.new.numbers text) c.in-Some.behind.now text) next
    ∙ ap (λ found. number_from (c.names.number + 1) found c.in-Some.behind.now text) (c.in_ok-put.ensures text)
    ∙ ap (λ xs. number_from c.names.number (number_in c.names.typedefs text) xs text) (sym is)
    ∙ c.names.invariant text
