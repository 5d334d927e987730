use Rattle.std.proofs.Common.{◌≡◌, ap, sym, ◌∙◌, ◌+◌, ◌∷◌, rules}
use Rattle.c_parser.specs.Noted.{number_in}
use Rattle.c_parser.specs.Words.{first_from}
use Rattle.c_parser.proofs.tokens.firsts_of.Goals as goal

pub firsts-preserved : goal.firsts-preserved
firsts-preserved c text =
    let is : c.firsts.rest.now ≡ c.in-Some.token.now ∷ c.in-Some.behind.now = search rules in
    let next : c.in-Some-checked_add.next ≡ c.firsts.number + 1 = search rules in
    ap (λ n. first_from n (number_in c.note_token.new.firsts text) c.in-Some.behind.now text) next
    ∙ ap (λ found. first_from (c.firsts.number + 1) found c.in-Some.behind.now text) (c.in_ok-note_token.ensures text)
    ∙ ap (λ xs. first_from c.firsts.number (number_in c.firsts.firsts text) xs text) (sym is)
    ∙ c.firsts.invariant text
