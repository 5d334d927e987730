use Rattle.std.proofs.Common.{◌++◌, ap, sym, ◌∙◌}
use Rattle.std.proofs.lemmas.List.{append-nil}
use Rattle.unit_index.proofs.OrderLemmas.{keys_are, none_left}
use Rattle.unit_index.proofs.shared.listed.Goals as goal

pub returns : goal.returns
returns c = λ ts same.
    sym (append-nil c.tokens.list.items) ∙ ap (λ ks. c.tokens.list.items ++ ks) (sym (none_left c.tokens.rest.keys c.in_default.ensures.variant.1)) ∙ c.tokens.invariant
    ∙ keys_are c.args.tokens ts c.len.ensures.ordered same
