-- What an expression sees of its tokens.
use Rattle.std.proofs.Common.{◌≡◌, sym, ap, ◌∙◌, ◌+◌, ◌-◌, List, drop, take}
use Rattle.std.proofs.lemmas.List.{drop-map, take-map}
use Rattle.tok_data.specs.declared.tokens.OutToken.{OutToken}
use Rattle.tree_data.specs.Trees.{Tree}
use Rattle.elab_state.specs.Tokens.{bare, bare_tokens}
use Rattle.elab_core.specs.Ends.{first_of, last_of}
use Rattle.elab_core.specs.Meanings.{own_tokens}

-- those of its own, by kind and spelling, are the same of the item's
pub own_bare : (t : Tree) (ts : List OutToken) → bare_tokens (own_tokens t ts) ≡ own_tokens t (bare_tokens ts)
own_bare t ts =
    sym (take-map bare ((last_of t + 1) - first_of t) (drop (first_of t) ts))
    ∙ ap (λ us. take ((last_of t + 1) - first_of t) us) (sym (drop-map bare (first_of t) ts))
