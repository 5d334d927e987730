-- The parentheses of a list, counted from its end: how many closing ones are free, which a call in front of the list
-- could end at, and for each opening one how many were free behind it, the first of the list last.
use Rattle.std.specs.Prelude.{ℕ, ◌+◌, ◌-◌, List, [], ◌∷◌, ◌++◌, Option, None, Some, if◌then◌else◌, codes}
use Rattle.tok_data.specs.declared.tokens.OutToken.{OutToken}
use Rattle.macro_expand.specs.declared.types.Marked.{Marked}
use Rattle.macro_expand.specs.Tokens.{is_mark}

-- with a token in front; an opening parenthesis takes a free one, where there is one
unfoldable pub before : OutToken → ℕ × List ℕ → ℕ × List ℕ
before t p =
    if is_mark (codes "(") t then (p.0 - 1, p.1 ++ p.0 ∷ [])
    else (if is_mark (codes ")") t then (p.0 + 1, p.1) else p)

-- with a list in front
abbrev pub all_before : List Marked → ℕ × List ℕ → ℕ × List ℕ
all_before [] p = p
all_before (t ∷ ts) p = before t.token (all_before ts p)

abbrev pub parens : List Marked → ℕ × List ℕ
parens ts = all_before ts (0, [])

-- what was counted, or else what would be
abbrev pub counted : Option (ℕ × List ℕ) → ℕ × List ℕ → ℕ × List ℕ
counted None p = p
counted (Some q) p = q
