-- Identifiers as primary expressions (ISO C11 6.5.1).
use Rattle.std.specs.Prelude.{ℕ, Bool, [], Option, Some, None}
use Rattle.scope_tables.specs.declared.entities.Entity.{Entity}
use Rattle.type_data.specs.declared.judged.Judged.{Judged}
use Rattle.type_data.specs.declared.members.Space.TheVariants as space
use Rattle.expr_rules.specs.declared.parts.Form.TheVariants as form
use Rattle.elab_state.specs.declared.made.Made.{Made}
use Rattle.elab_state.specs.Doings.{Doing, follow}
use Rattle.elab_state.specs.Names.{denoted, used}
use Rattle.elab_state.specs.Tokens.{spelling}
use Rattle.elab_state.specs.Contexts.{Context}
use Rattle.elab_core.specs.Rows.{row}

abbrev pub used_if_any : Context → Bool → ℕ → Option Entity → Made → Made
used_if_any c counted n (Some e) m = used c counted n e m
used_if_any c counted n None m = m

abbrev pub used_row : Context → Bool → ℕ → Option Entity → Made → Doing Judged
used_row c counted n e m = row c n (form.Ident (spelling c.tokens n) e) [] (used_if_any c counted n e m)

-- what it denotes is used there, and is what the row makes of it
abbrev pub identifier : Context → Bool → ℕ → Made → Doing Judged
identifier c counted n m =
    follow (denoted c space.Ordinary (spelling c.tokens n) m) (λ e now. used_row c counted n e now)
